use Rattle.std.proofs.Common.{◌≡◌, ◌++◌, ℕ, [], Bool, true, false, List, Option, Some, Result, Ok, IfOk, sym, ap, subst, ◌∙◌, append-nil}
use Rattle.ill_schema.specs.Profiles.{profile_of}
use Rattle.ill_tables.specs.declared.profile.Profile.{Profile as Named}
use Rattle.ill_normal.specs.Messages.{AreSpelledIn, Spelling}
use Rattle.ill_inputs.specs.Hexadecimal.{hex_octets}
use Rattle.ill_normal.specs.Calls.{taking, putting}
use Rattle.ill_commands.specs.Output.{verdict_of}
use Rattle.ill_commands.specs.Runs.{AnswersVerdict, DoesMessages, IsUnnamed, JobDone, RunDone}
use Rattle.ill_inputs.specs.declared.run_fault.RunFault.{RunFault}
use Rattle.ill_commands.specs.declared.job.Job.{Job}
use Rattle.ill_inputs.specs.declared.verdict.Verdict.{Verdict}
use Rattle.ill_commands.specs.declared.job.JobOptions.{JobOptions}
use Rattle.ill_inputs.proofs.HexAnswers.{same_octets}
use Rattle.test_commands.proofs.jobs.contracts.inputs_have_one_verdict.Goals as goal

-- the verdict of a work's messages is that of its job in its profile
verdict_is : (q : Named) (job : Job) (hex : Bool) (work : JobOptions) (ms : List Spelling) → IsUnnamed q job hex work
    → verdict_of (profile_of work.profile) work.job ms ≡ verdict_of (profile_of q) job ms
verdict_is q job hex work ms u = ap (λ (p : Named). verdict_of (profile_of p) work.job ms) u.profile ∙ ap (λ (j : Job). verdict_of (profile_of q) j ms) u.same_job

answered : (q : Named) (hex : Bool) (job : Job) (work : JobOptions) (s t : List ℕ) (held held' : Option (List ℕ)) (v : Verdict) → IsUnnamed q job hex work
    → RunDone hex work (Some s) (Some t) held held' v → (r : Result Verdict RunFault) → DoesMessages (profile_of q) job hex s r → AnswersVerdict r v
answered q false job work s t held held' v u d r does =
    let o = d.writes.octets in
    let e : s ≡ o = d.writes.taken ∙ ap (λ l. o ++ l) d.end ∙ append-nil o in
    let spelled = subst (λ (p : Named). AreSpelledIn (profile_of p) o d.messages []) u.profile d.writes.spelled in
    subst (λ w. AnswersVerdict r w) (sym (d.is_verdict ∙ verdict_is q job false work d.messages u)) (does o d.messages (ap Ok e) spelled d.few)
answered q true job work s t held held' v u d r does =
    let i = d.2.1 in
    let o = i.writes.octets in
    let e : d.0 ≡ o = i.writes.taken ∙ ap (λ l. o ++ l) i.end ∙ append-nil o in
    let h : hex_octets s ≡ Ok d.0 = same_octets s (Some t) d.1.text d.1.taken ∙ d.1.stands in
    let spelled = subst (λ (p : Named). AreSpelledIn (profile_of p) o i.messages []) u.profile i.writes.spelled in
    subst (λ w. AnswersVerdict r w) (sym (i.is_verdict ∙ verdict_is q job true work i.messages u)) (does o i.messages (h ∙ ap Ok e) spelled i.few)

once : (p : Named) (hex : Bool) (job : Job) (s s' t : List ℕ) (x y : Bool) (held held' : Option (List ℕ)) (q r : Result Verdict RunFault) (v : Verdict) → s ≡ s' → q ≡ Ok v
    → IfOk q (JobDone p job hex (taking (Some s) (Some t) x) (putting held held' y)) → DoesMessages (profile_of p) job hex s' r → AnswersVerdict r v
once p hex job s s' t x y held held' q r v e is d does =
    let done = subst (λ z. IfOk z (JobDone p job hex (taking (Some s) (Some t) x) (putting held held' y))) is d in
    answered p hex job done.work s t held held' v done.unnamed done.done r
    (subst (λ z. DoesMessages (profile_of p) job hex z r) (sym e) does)

pub returns-clause-verdict : goal.returns-clause-verdict
returns-clause-verdict c v w p q =
    sym (subst (λ r. AnswersVerdict r v) q (once c.args.profile c.args.hex c.args.job c.args.source.now.octets c.args.other.now.octets c.run_as.new.source.octets c.run_as.new.source.broken c.run_as.new.sink.broken
    (Some c.args.sink.now.octets) (Some c.run_as.new.sink.octets) c.run_as.result c.run_as-2.result v c.requires p c.run_as.ensures.done c.run_as-2.ensures.does))

pub returns-clause-fault : goal.returns-clause-fault
returns-clause-fault c v e p q =
    subst (λ r. AnswersVerdict r v) q (once c.args.profile c.args.hex c.args.job c.args.source.now.octets c.args.other.now.octets c.run_as.new.source.octets c.run_as.new.source.broken c.run_as.new.sink.broken
    (Some c.args.sink.now.octets) (Some c.run_as.new.sink.octets) c.run_as.result c.run_as-2.result v c.requires p c.run_as.ensures.done c.run_as-2.ensures.does)
