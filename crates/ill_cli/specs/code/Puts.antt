-- What comes of the work on an input, by the action on it. What an output holds is not known, so that some output is meant.
use Rattle.std.specs.Prelude.{◌≡◌, ◌==◌, ℕ, Bool, true, false, Option, None, Some, Result, Ok, Err, IfOk, IfErr, if◌then◌else◌, nat_lt}
use Rattle.ill_commands.specs.HexLines.{HexAnswers}
use Rattle.ill_commands.specs.Lines.{LinesDone, LinesFail}
use Rattle.ill_commands.specs.Output.{verdict_of_counts}
use Rattle.ill_commands.specs.Runs.{RunsJob}
use Rattle.ill_commands.specs.declared.job.Job.{Job}
use Rattle.ill_commands.specs.declared.job.JobOptions.{JobOptions}
use Rattle.ill_commands.specs.declared.lines.job.LineOptions.{LineOptions}
use Rattle.ill_dump.specs.Dumped.{RunsDump}
use Rattle.ill_dump.specs.declared.run.DumpOptions.{DumpOptions}
use Rattle.ill_files.specs.declared.error.ProgramError.{ProgramError}
use Rattle.ill_inputs.specs.Inputs.{verdict_if}
use Rattle.ill_inputs.specs.declared.run_fault.RunFault.{RunFault}
use Rattle.ill_inputs.specs.declared.verdict.Verdict.{Verdict}
use Rattle.ill_normal.specs.Calls.{Putting, Taking}
use Rattle.ill_normal.specs.Reading.{reporting}
use Rattle.ill_normal.specs.declared.counts.Counts.{Counts}
use Rattle.ill_normal.specs.declared.messages.OnRefusal.{OnRefusal}
use Rattle.ill_normal.specs.declared.messages.StreamEnd.{StreamEnd}
use Rattle.ill_cli.specs.Builds.{BuildAnswers}
use Rattle.ill_cli.specs.Counts.{with_kinds}
use Rattle.ill_cli.specs.Limit.{line_error_at}
use Rattle.ill_cli.specs.Plans.{is_json_result}
use Rattle.ill_cli.specs.code.Results.{RunsResults}
use Rattle.ill_cli.specs.code.Tallied.{Tallies}
use Rattle.ill_cli.specs.declared.build.BuildOptions.{BuildOptions}
use Rattle.ill_cli.specs.declared.limit.RefusalLimit.{RefusalLimit}
use Rattle.ill_cli.specs.declared.plan.InputAction.{InputAction}
use Rattle.ill_cli.specs.declared.summary.KindCounts.{KindCounts}
use Rattle.ill_cli.specs.declared.summary.Summary.{Summary}
use Rattle.ill_cli.specs.declared.tally.Tally.{Tally}

-- the end of the work on the messages of an input: of a job, of one whose results are lines of JSON, and on their elements
abbrev pub IsJobEnd : JobOptions → Taking → StreamEnd → Type 0
IsJobEnd work source end = (output : Putting) × RunsJob work source output (reporting None None) end

abbrev pub IsResultsEnd : JobOptions → Taking → StreamEnd → Type 0
IsResultsEnd work source end = (output : Putting) × RunsResults work source output (reporting None None) end

abbrev pub IsDumpEnd : DumpOptions → Taking → StreamEnd → Type 0
IsDumpEnd dump source end = (output : Putting) × RunsDump dump source output (reporting None None) end

-- the verdict of a job by the counts of its input
abbrev pub job_verdict : Job → Result Counts ProgramError → Result Verdict ProgramError
job_verdict job (Ok counts) = Ok (verdict_of_counts job counts)
job_verdict job (Err error) = Err error

-- the message of this number is asked for, and the input has fewer
abbrev pub verdict_at : ℕ → Counts → Result Verdict ProgramError
verdict_at number counts =
    if nat_lt counts.messages number then Err (ProgramError.NoMessage (record { number = number; count = counts.messages }))
    else Ok (verdict_if (counts.refused == 0))

-- the verdict of a dump by the counts of its input: no message is refused
abbrev pub dump_verdict : Option ℕ → Result Counts ProgramError → Result Verdict ProgramError
dump_verdict (Some number) (Ok counts) = verdict_at number counts
dump_verdict None (Ok counts) = Ok (verdict_if (counts.refused == 0))
dump_verdict only (Err error) = Err error

-- where the work ends with the first refused message, that is not good
abbrev pub after_first : OnRefusal → Result Verdict ProgramError → Result Verdict ProgramError
after_first OnRefusal.GoOn done = done
after_first _ (Err (ProgramError.RefusedEnough count)) = Ok Verdict.NotGood
after_first _ done = done

-- lines are done if each result is written; where that fails, the end of the output is lost
abbrev pub lines_verdict : Result Bool RunFault → Result Verdict ProgramError
lines_verdict (Ok good) = Ok (verdict_if good)
lines_verdict (Err (RunFault.WriteFault n)) = Err ProgramError.Flush
lines_verdict (Err fault) = Err (ProgramError.Run (record { 0 = fault }))

-- a job was done with the messages of an input; the kinds of those that are refused are counted, where counts are wanted
abbrev pub IsJobPut : JobOptions → Taking → Summary → Tally → Result Verdict ProgramError → Type 0
IsJobPut work source summary new done =
    (counted : Result Counts ProgramError) × (kinds : KindCounts)
    × Tallies (IsJobEnd work source) work.on_refusal (with_kinds summary kinds) new counted × (done ≡ job_verdict work.job counted)

-- a job was done whose results are lines of JSON, of refused messages, too
abbrev pub AreLinesPut : JobOptions → Taking → Summary → Tally → Result Verdict ProgramError → Type 0
AreLinesPut work source summary new done =
    (counted : Result Counts ProgramError) × (kinds : KindCounts)
    × Tallies (IsResultsEnd work source) work.on_refusal (with_kinds summary kinds) new counted × (done ≡ job_verdict work.job counted)

abbrev pub AreResultsPut : JobOptions → Taking → Summary → Tally → Result Verdict ProgramError → Type 0
AreResultsPut work source summary new done =
    (all : Result Verdict ProgramError) × AreLinesPut (record work { on_refusal = OnRefusal.GoOn }) source summary new all
    × (done ≡ after_first work.on_refusal all)

abbrev pub AreMessagesPut : Bool → JobOptions → Taking → Summary → Tally → Result Verdict ProgramError → Type 0
AreMessagesPut true work source summary new done = AreResultsPut work source summary new done
AreMessagesPut false work source summary new done = IsJobPut work source summary new done

-- the elements of the messages were written
abbrev pub AreElementsPut : DumpOptions → Taking → Summary → Tally → Result Verdict ProgramError → Type 0
AreElementsPut dump source summary new done =
    (counted : Result Counts ProgramError) × (kinds : KindCounts)
    × Tallies (IsDumpEnd dump source) dump.on_refusal (with_kinds summary kinds) new counted × (done ≡ dump_verdict dump.only counted)

-- the lines of an input were done, or the work on them failed
abbrev pub LinesAnswer : LineOptions → Taking → Result Bool RunFault → Type 0
LinesAnswer work source answer = (output : Putting)
    × IfOk answer (λ good. LinesDone (HexAnswers work) source.left source.left' output.held output.held' good)
    × IfErr answer (λ fault. LinesFail (HexAnswers work) source output fault)

abbrev pub AreResultLinesPut : LineOptions → Taking → Result Verdict ProgramError → Type 0
AreResultLinesPut work source done = (answer : Result Bool RunFault) × LinesAnswer work source answer × (done ≡ lines_verdict answer)

-- the verdict of work on lines that are built: where it goes on after lines that are refused, it ends with one only if no more are asked for
abbrev pub built_verdict : Bool → RefusalLimit → Result Bool RunFault → Result Verdict ProgramError
built_verdict goes_on limit (Ok good) = Ok (verdict_if good)
built_verdict goes_on limit (Err RunFault.NotReported) = if goes_on then Err (line_error_at limit) else Ok Verdict.NotGood
built_verdict goes_on limit (Err fault) = Err (ProgramError.Run (record { 0 = fault }))

-- the lines of an input were built, or the work on them ended early
abbrev pub AreLinesBuilt : BuildOptions → Taking → Result Verdict ProgramError → Type 0
AreLinesBuilt work source done = (answer : Result Bool RunFault) × (output : Putting) × (limit : RefusalLimit)
    × IfOk answer (λ good. LinesDone (BuildAnswers work) source.left source.left' output.held output.held' good)
    × IfErr answer (λ fault. LinesFail (BuildAnswers work) source output fault)
    × (done ≡ built_verdict work.goes_on limit answer)

-- what was asked for was done with an input, and its counts were added to these
abbrev pub IsPut : InputAction → Taking → Summary → Tally → Result Verdict ProgramError → Type 0
IsPut (InputAction.Messages work) source summary new done = AreMessagesPut (is_json_result work.job) work source summary new done
IsPut (InputAction.Elements dump) source summary new done = AreElementsPut dump source summary new done
IsPut (InputAction.Lines work) source summary new done = AreResultLinesPut work source done × (new.summary ≡ summary)
IsPut (InputAction.Build work) source summary new done = AreLinesBuilt work source done
