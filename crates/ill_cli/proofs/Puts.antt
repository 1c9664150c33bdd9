-- What was done with an input, by the action on it.
use Rattle.std.proofs.Common.{◌≡◌, true, false, Result, sym, subst}
use Rattle.ill_commands.specs.declared.job.JobOptions.{JobOptions}
use Rattle.ill_files.specs.declared.error.ProgramError.{ProgramError}
use Rattle.ill_inputs.specs.declared.verdict.Verdict.{Verdict}
use Rattle.ill_normal.specs.Calls.{Taking}
use Rattle.ill_cli.specs.Plans.{is_json_result}
use Rattle.ill_cli.specs.code.Puts.{AreMessagesPut, AreResultsPut, IsJobPut, IsPut}
use Rattle.ill_cli.specs.declared.plan.InputAction.{InputAction}
use Rattle.ill_cli.specs.declared.summary.Summary.{Summary}
use Rattle.ill_cli.specs.declared.tally.Tally.{Tally}

pub put_by : (task other : InputAction) → task ≡ other → (source : Taking) (summary : Summary) (new : Tally) (done : Result Verdict ProgramError)
    → IsPut other source summary new done → IsPut task source summary new done
put_by task other e source summary new done h = subst (λ t. IsPut t source summary new done) (sym e) h

pub results_put : (work : JobOptions) (source : Taking) (summary : Summary) (new : Tally) (done : Result Verdict ProgramError)
    → is_json_result work.job ≡ true → AreResultsPut work source summary new done → IsPut (InputAction.Messages work) source summary new done
results_put work source summary new done e h = subst (λ b. AreMessagesPut b work source summary new done) (sym e) h

pub job_put : (work : JobOptions) (source : Taking) (summary : Summary) (new : Tally) (done : Result Verdict ProgramError)
    → is_json_result work.job ≡ false → IsJobPut work source summary new done → IsPut (InputAction.Messages work) source summary new done
job_put work source summary new done e h = subst (λ b. AreMessagesPut b work source summary new done) (sym e) h

-- the same of some input, where the numbers before it were these
pub put_after : (task : InputAction) (source : Taking) (summary before : Summary) (new : Tally) (done : Result Verdict ProgramError)
    → before ≡ summary → IsPut task source before new done → (from : Taking) × IsPut task from summary new done
put_after task source summary before new done same h = (source, subst (λ s. IsPut task source s new done) same h)
