-- What the end of the work on a file adds to the counts of a command.
use Rattle.std.specs.Prelude.{◌≡◌, ℕ, ◌==◌, Bool, false, ◌||◌, ◌&&◌, List, [], ◌∷◌, Option, Some, None, Result, Ok, Err, if◌then◌else◌}
use Rattle.std.specs.List.{starts_with}
use Rattle.std.specs.Str.{bytes_eq}
use Rattle.ill_inputs.specs.declared.verdict.Verdict.{Verdict}
use Rattle.ill_files.specs.Status.{is_read_fault, keeps_refused as keeps}
use Rattle.ill_files.specs.declared.error.ProgramError.{ProgramError}
use Rattle.ill_files.specs.declared.names.FileName.{FileName}
use Rattle.ill_inputs.specs.declared.run_fault.RunFault.{RunFault}
use Rattle.ill_normal.specs.declared.counts.Counts.{Counts}
use Rattle.ill_normal.specs.declared.report.RefusalReport.{RefusalReport}
use Rattle.ill_normal.specs.declared.messages.OnRefusal.{OnRefusal}
use Rattle.ill_cli.specs.Limit.{error_at}
use Rattle.ill_cli.specs.declared.limit.RefusalLimit.{RefusalLimit}
use Rattle.ill_cli.specs.Counts.{left_after, place_of_report, with_counts, with_left, with_report, with_unopened, without_file}
use Rattle.ill_normal.specs.declared.messages.StreamEnd.{StreamEnd}
use Rattle.ill_cli.specs.declared.summary.Summary.{Summary}
use Rattle.ill_cli.specs.declared.tally.Tally.{Tally}

-- the file that can't be opened has this name; one that begins with NUL stands for a word that is no UTF-8 text
abbrev pub is_name_of : FileName → List ℕ → Bool
is_name_of unopened name = bytes_eq unopened.0.items name || starts_with (λ x y. x == y) name (0 ∷ [])

-- it is a folder: it was opened, and can't be read
abbrev pub as_folder : Tally → Tally
as_folder t = record t { summary = with_unopened (without_file t.summary); left_at = None }

-- the file of this name can't be opened
abbrev pub is_unopened : List ℕ → ProgramError → Bool
is_unopened name (ProgramError.CannotOpen unopened why) = is_name_of unopened name
is_unopened name _ = false

-- the counts after the file of this name ended with an error: it could not be opened; or it is a folder; or none of both
abbrev pub after_error : List ℕ → Bool → ProgramError → Tally → Tally
after_error name folder error t =
    if is_unopened name error then record t { summary = with_unopened t.summary } else (if folder && is_read_fault error then as_folder t else t)

abbrev pub after_end : List ℕ → Bool → Result Verdict ProgramError → Tally → Tally
after_end name folder (Ok verdict) t = t
after_end name folder (Err error) t = after_error name folder error t

-- a file more that was left before its end, if it was
abbrev pub after_left : Tally → Tally
after_left t = elim t.left_at as (λ _. Tally) [ None ↦ t | Some place ↦ record t { summary = with_left t.summary } ]

-- the end of the work on the file of this name was added; the system says whether it is a folder
abbrev pub AddsEnd : List ℕ → Result Verdict ProgramError → Tally → Tally → Type 0
AddsEnd name done old new =
    (folder : Bool) × (new ≡ after_left (after_end name folder done (record old { keeps_refused = old.keeps_refused || keeps done })))

-- after an input whose messages are counted so: with the one at which this fault ended the work on it
abbrev pub left_by : Counts → RunFault → Tally → Tally
left_by counts fault t = record t { summary = with_counts t.summary counts; left_at = left_after fault counts }

-- with a refused message with which the work ended
abbrev pub stopped_at : Counts → RefusalReport → Tally → Tally
stopped_at counts last t = record t { summary = with_report (with_counts t.summary counts) last; left_at = Some (place_of_report last) }

-- by the fault with which the work on it ended, if there is one
abbrev pub after_input : Counts → Option RunFault → Option RefusalReport → Tally → Tally
after_input counts None last t = record t { summary = with_counts t.summary counts }
after_input counts (Some RunFault.NotReported) (Some last) t = stopped_at counts last t
after_input counts (Some fault) last t = left_by counts fault t

-- the answer to the end of the work on an input: its counts where it was read as far as was asked, though the end of the last message may be
-- unknown where refused ones are reported; or the error that says why it wasn't
abbrev pub answer_by : RefusalLimit → OnRefusal → Counts → Option RunFault → Option RefusalReport → Result Counts ProgramError
answer_by limit mode counts None last = Ok counts
answer_by limit mode counts (Some RunFault.NotReported) (Some last) = Err (error_at limit)
answer_by limit OnRefusal.GoOn counts (Some (RunFault.Refused message refusal)) last = Ok counts
answer_by limit mode counts (Some fault) last = Err (ProgramError.Run (record { 0 = fault }))

-- the work on an input ended so, its counts were added to these, and this is the answer
pub record Tallies (IsEnd : StreamEnd → Type 0) (mode : OnRefusal) (summary : Summary) (new : Tally) (answer : Result Counts ProgramError) : Type 0 where
  pub end : StreamEnd
  pub last : Option RefusalReport
  pub before : Tally
  pub is_end : IsEnd end
  pub same : before.summary ≡ summary
  pub adds : new ≡ after_input end.counts end.fault last before
  pub answers : answer ≡ answer_by before.limit mode end.counts end.fault last
