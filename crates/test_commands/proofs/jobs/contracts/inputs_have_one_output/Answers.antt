use Rattle.std.proofs.Common.{ℕ, Bool, List, Some, Result, sym, subst}
use Rattle.std.specs.Prelude.{IfErr, IfOk}
use Rattle.ill_tables.specs.declared.profile.Profile.{Profile as Named}
use Rattle.ill_normal.specs.Calls.{taking, putting}
use Rattle.ill_commands.specs.Runs.{JobDone, JobFails}
use Rattle.ill_inputs.specs.declared.run_fault.RunFault.{RunFault}
use Rattle.ill_commands.specs.declared.job.Job.{Job}
use Rattle.ill_inputs.specs.declared.verdict.Verdict.{Verdict}
use Rattle.test_commands.proofs.Outputs.{one_output}
use Rattle.test_commands.proofs.jobs.contracts.inputs_have_one_output.Goals as goal

-- what a call says of its input and its output
abbrev Says : Named → Job → Bool → Bool → Bool → List ℕ → List ℕ → List ℕ → List ℕ → Result Verdict RunFault → Type 0
Says q job hex x y left left' held held' r =
    IfOk r (JobDone q job hex (taking (Some left) (Some left') x) (putting (Some held) (Some held') y)) × IfErr r (JobFails q job hex (taking (Some left) (Some left') x) (putting (Some held) (Some held') y))

pub returns : goal.returns
returns c same sound =
    let q = c.args.profile in
    let job = c.args.job in
    let hex = c.args.hex in
    let s = c.args.source.now.octets in
    let held = c.args.sink.now.octets in
    let one = c.run_as.new in
    let two = c.run_as-2.new in
    let a = subst (λ (l : List ℕ). Says q job hex two.source.broken two.sink.broken l two.source.octets c.args.other_sink.now.octets two.sink.octets c.run_as-2.result) (sym c.requires.source) (c.run_as-2.ensures.done, c.run_as-2.ensures.fails) in
    let b = subst (λ (l : List ℕ). Says q job hex two.source.broken two.sink.broken s two.source.octets l two.sink.octets c.run_as-2.result) (sym c.requires.sink) a in
    let d = subst (λ (r : Result Verdict RunFault). Says q job hex two.source.broken two.sink.broken s two.source.octets held two.sink.octets r) (sym same) b in
    one_output q job s held one.sink.octets two.sink.octets (Some one.source.octets) (Some two.source.octets) one.source.broken one.sink.broken two.source.broken two.sink.broken hex c.run_as.result sound
    c.run_as.ensures.done c.run_as.ensures.fails d.0 d.1
