use Rattle.std.proofs.Common.{◌≡◌, ◌++◌, ◌<◌, ℕ, Bool, List, [], length, take, Option, Some, IfErr, ap, subst, arith, length-append, length-take}
use Rattle.ill_normal.specs.Calls.{taking, putting}
use Rattle.ill_commands.specs.Runs.{RunFails, JobStopsAfter}
use Rattle.ill_inputs.specs.declared.run_fault.RunFault.{RunFault}
use Rattle.ill_commands.specs.declared.job.JobOptions.{JobOptions}
use Rattle.test_commands.proofs.jobs.contracts.write_faults_count_what_the_sink_took.Goals as goal

length_of : (held new out : List ℕ) (n : ℕ) → held ≡ [] → new ≡ held ++ take n out → n < length out → length new ≡ n
length_of held new out n e w l = omega (arith, ap length e, ap length w, length-append held (take n out), length-take n out, l)

counted : (work : JobOptions) (left left' : Option (List ℕ)) (held new : List ℕ) (x y : Bool) (n : ℕ) → held ≡ []
    → JobStopsAfter work (taking left left' x) (putting (Some held) (Some new) y) (RunFault.WriteFault n) → length new ≡ n
counted work left left' held new x y n e h =
    let b = h.stops.2 in
    length_of held new _ n e b.written b.not_all

pub returns : goal.returns
returns c n p =
    let left = Some c.args.source.now.octets in
    let left' = Some c.run_with.new.source.octets in
    let x = c.run_with.new.source.broken in
    let y = c.run_with.new.sink.broken in
    counted c.args.work left left' c.args.sink.now.octets c.run_with.new.sink.octets x y n c.requires.empty
    (subst (λ r. IfErr r (λ e. JobStopsAfter c.args.work (taking left left' x) (putting (Some c.args.sink.now.octets) (Some c.run_with.new.sink.octets) y) e)) p
    (subst (λ (h : Bool). IfErr c.run_with.result (λ e. RunFails h c.args.work (taking left left' x) (putting (Some c.args.sink.now.octets) (Some c.run_with.new.sink.octets) y) e)) c.requires.plain c.run_with.ensures.fails))
