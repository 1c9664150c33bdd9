-- The answer of a job that stops at a refused message.
use Rattle.std.specs.Prelude.{Option, Some, None, Result, Ok, Err}
use Rattle.ill_inputs.specs.declared.run_fault.RunFault.{RunFault}
use Rattle.ill_inputs.specs.declared.verdict.Verdict.{Verdict}
use Rattle.ill_normal.specs.declared.counts.Counts.{Counts}
use Rattle.ill_normal.specs.declared.messages.StreamEnd.{StreamEnd}
use Rattle.ill_commands.specs.Output.{verdict_of_counts}
use Rattle.ill_commands.specs.declared.job.Job.{Job}

abbrev pub answer_by : Job → Counts → Option RunFault → Result Verdict RunFault
answer_by job counts None = Ok (verdict_of_counts job counts)
answer_by job counts (Some fault) = Err fault

abbrev pub answer_of : Job → StreamEnd → Result Verdict RunFault
answer_of job end = answer_by job end.counts end.fault
