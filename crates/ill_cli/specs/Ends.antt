-- The exit status of a command, by how the work on its files ended.
use Rattle.std.specs.Prelude.{◌≡◌, ◌⊎◌, ℕ, ◌<◌, Bool, true, false, ◌||◌, List, [], ◌∷◌, ◌++◌, length, map, Option, Some, None, Result, Ok, Err}
use Rattle.ill_inputs.specs.declared.verdict.Verdict.{Verdict}
use Rattle.ill_files.specs.Status.{error_status, is_output_lost, status_is, worst}
use Rattle.ill_files.specs.declared.error.ProgramError.{ProgramError}
use Rattle.ill_cli.specs.Limit.{is_stopped}
use Rattle.ill_args.specs.declared.orders.LineResults.{LineResults}
use Rattle.ill_args.specs.declared.orders.Order.{Order}
use Rattle.ill_args.specs.declared.orders.Work.{Work}

-- how the work on the file of this name ended
pub record FileEnd : Type 0 where
  pub name : List ℕ
  pub done : Result Verdict ProgramError

abbrev pub end_of : List ℕ → Result Verdict ProgramError → FileEnd
end_of name done = record { name = name; done = done }

-- known ends grow by these
abbrev pub AddsEnds : Option (List FileEnd) → Option (List FileEnd) → List FileEnd → Type 0
AddsEnds None new more = Unit {0}
AddsEnds (Some old) None more = ⊥
AddsEnds (Some old) (Some new) more = new ≡ old ++ more

-- no file more is done: some of the output was not written, or no more refused messages are asked for
abbrev pub ends_all : Result Verdict ProgramError → Bool
ends_all done = is_output_lost done || is_stopped done

-- the files of these names were done in turn, and ended so: all of them, or those up to the first end after which no file more is done
abbrev pub DoneInTurn : List (List ℕ) → List FileEnd → Type 0
DoneInTurn [] ends = ends ≡ []
DoneInTurn (name ∷ names) [] = ⊥
DoneInTurn (name ∷ names) (e ∷ ends) =
    (e.name ≡ name) × (((ends_all e.done ≡ true) × (ends ≡ [])) ⊎ ((ends_all e.done ≡ false) × DoneInTurn names ends))

-- the exit status of files that ended so
abbrev pub status_of_ends : List FileEnd → ℕ
status_of_ends ends = worst (map (λ e. status_is e.done) ends)

-- the exit status of the files of these names, which were done in turn
abbrev pub IsStatusOfFiles : List (List ℕ) → ℕ → Type 0
IsStatusOfFiles names status = (ends : List FileEnd) × DoneInTurn names ends × (status ≡ status_of_ends ends)

-- the exit status of work that ended so
abbrev pub IsStatusOfEnd : ℕ → Type 0
IsStatusOfEnd status = (done : Result Verdict ProgramError) × (status ≡ status_is done)

-- the exit status after the output was closed: the one before, or 3 where that failed
abbrev pub IsClosedStatus : ℕ → ℕ → Type 0
IsClosedStatus before status = (status ≡ before) ⊎ (status ≡ 3)

-- the exit status of files whose results are printed: of the one file, or of all that were done; or 3 where the output is lost
abbrev pub IsPrintStatus : List (List ℕ) → ℕ → Type 0
IsPrintStatus (name ∷ []) status = IsStatusOfEnd status ⊎ (IsStatusOfFiles (name ∷ []) status ⊎ (status ≡ 3))
IsPrintStatus names status = IsStatusOfFiles names status ⊎ (status ≡ 3)

-- the exit status of the first files of these names, which were done in turn: of all of them where nothing else ended the work
abbrev pub IsStatusOfFirst : List (List ℕ) → Result Verdict ProgramError → ℕ → Type 0
IsStatusOfFirst names (Ok verdict) status = IsStatusOfFiles names status
IsStatusOfFirst names (Err error) status = (first : List (List ℕ)) × (rest : List (List ℕ)) × (names ≡ first ++ rest) × IsStatusOfFiles first status

-- the exit status of files whose results go to one output: of those that were done, and of the output, which may end the work
abbrev pub IsStatusOfAll : List (List ℕ) → ℕ → Type 0
IsStatusOfAll names status =
    (done : Result Verdict ProgramError) × (ended : Result Verdict ProgramError) × (files : ℕ)
    × IsStatusOfFirst names done files × (status ≡ worst (files ∷ status_is ended ∷ []))

-- the same, of one file also as it ended
abbrev pub IsCollectStatus : List (List ℕ) → ℕ → Type 0
IsCollectStatus (name ∷ []) status = IsStatusOfEnd status ⊎ IsStatusOfAll (name ∷ []) status
IsCollectStatus names status = IsStatusOfAll names status

-- the exit status of inputs, of which there is one at least, where that of names is as told, and then of what was closed
abbrev pub IsStatusOfInputs : (List (List ℕ) → ℕ → Type 0) → ℕ → Type 0
IsStatusOfInputs told status =
    (names : List (List ℕ)) × (files : ℕ) × (0 < length names) × told names files × IsClosedStatus files status

-- the exit status of a command with inputs: that of an error before any of them was opened, or that of the inputs
abbrev pub IsStatusOfCommand : (List (List ℕ) → ℕ → Type 0) → ℕ → Type 0
IsStatusOfCommand told status = ((error : ProgramError) × (status ≡ error_status error)) ⊎ IsStatusOfInputs told status

-- the exit status of one input whose results go to one output, and then of what was closed
abbrev pub IsStatusOfOne : ℕ → Type 0
IsStatusOfOne status = (done : Result Verdict ProgramError) × IsClosedStatus (status_is done) status

-- the exit status of the results of lines
abbrev pub IsStatusOfLines : LineResults → ℕ → Type 0
IsStatusOfLines (LineResults.Report report) status = IsStatusOfCommand IsPrintStatus status
IsStatusOfLines (LineResults.Write output) status = IsStatusOfOne status
IsStatusOfLines (LineResults.Collect output) status = IsStatusOfCommand IsCollectStatus status

-- the exit status of work on inputs
abbrev pub IsStatusOfWork : Work → ℕ → Type 0
IsStatusOfWork (Work.Print job json with_filename messages inputs) status = IsStatusOfCommand IsPrintStatus status
IsStatusOfWork (Work.Dump elements with_filename inputs) status = IsStatusOfCommand IsPrintStatus status
IsStatusOfWork (Work.Write job messages input output) status = IsStatusOfOne status
IsStatusOfWork (Work.Collect job messages inputs output) status = IsStatusOfCommand IsCollectStatus status
IsStatusOfWork (Work.Lines profile input results) status = IsStatusOfLines results status

-- the exit status of an order: that of the work, and of the line of numbers
abbrev pub IsStatusOfOrder : Order → ℕ → Type 0
IsStatusOfOrder (Order.Each work) status = (files : ℕ) × IsStatusOfWork work files × IsClosedStatus files status
IsStatusOfOrder (Order.Compare reading first second) status = IsStatusOfEnd status
