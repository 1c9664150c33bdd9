use Rattle.std.proofs.Common.{◌+◌, ◌≤◌, ℕ, Bool, true, List, length, Option, Some, Result, Ok, Err, IfOk, IfErr, inl, inr, subst}
use Rattle.ill_normal.specs.Calls.{taking, putting}
use Rattle.ill_inputs.specs.Inputs.{FailsText}
use Rattle.ill_commands.specs.Runs.{RunDone, RunFails}
use Rattle.ill_inputs.specs.declared.run_fault.RunFault.{RunFault}
use Rattle.ill_inputs.specs.declared.verdict.Verdict.{Verdict}
use Rattle.ill_commands.specs.declared.job.JobOptions.{JobOptions}
use Rattle.test_commands.proofs.Bounds.{bounded, unread_bound}
use Rattle.test_commands.proofs.jobs.contracts.texts_are_taken_to_their_bound.Goals as goal

no_text : (s t : List ℕ) (x : Bool) (e : RunFault) → FailsText (Some s) (Some t) x e → length s ≤ 4_194_305 + length t
no_text s t x e (inl h) = bounded 4_194_305 s t h.text h.taken.0 h.taken.1
no_text s t x e (inr u) = unread_bound 4_194_305 s t x e u

fails : (work : JobOptions) (s t : List ℕ) (held held' : Option (List ℕ)) (x y : Bool) (e : RunFault) → RunFails true work (taking (Some s) (Some t) x) (putting held held' y) e
    → length s ≤ 4_194_305 + length t
fails work s t held held' x y e (inl h) = no_text s t x e h.0
fails work s t held held' x y e (inr h) = bounded 4_194_305 s t h.1.text h.1.taken.0 h.1.taken.1

taken : (work : JobOptions) (s t : List ℕ) (held held' : Option (List ℕ)) (x y : Bool) (r : Result Verdict RunFault) → IfOk r (RunDone true work (Some s) (Some t) held held')
    → IfErr r (RunFails true work (taking (Some s) (Some t) x) (putting held held' y)) → length s ≤ 4_194_305 + length t
taken work s t held held' x y (Ok v) d f = bounded 4_194_305 s t d.1.text d.1.taken.0 d.1.taken.1
taken work s t held held' x y (Err e) d f = fails work s t held held' x y e f

pub returns : goal.returns
returns c =
    let left = Some c.args.source.now.octets in
    let left' = Some c.run_with.new.source.octets in
    let held = Some c.args.sink.now.octets in
    let held' = Some c.run_with.new.sink.octets in
    let x = c.run_with.new.source.broken in
    let y = c.run_with.new.sink.broken in
    taken c.args.work c.args.source.now.octets c.run_with.new.source.octets held held' x y c.run_with.result
    (subst (λ (h : Bool). IfOk c.run_with.result (RunDone h c.args.work left left' held held')) c.requires c.run_with.ensures.done)
    (subst (λ (h : Bool). IfErr c.run_with.result (RunFails h c.args.work (taking left left' x) (putting held held' y))) c.requires c.run_with.ensures.fails)
