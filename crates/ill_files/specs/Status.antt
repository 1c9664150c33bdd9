-- The status that the program ends with.
use Rattle.std.specs.Prelude.{◌==◌, ℕ, Bool, true, false, List, Result, Ok, Err, if◌then◌else◌}
use Rattle.std.specs.List.{list_any}
use Rattle.clap.specs.Words.{kind_of}
use Rattle.clap.specs.declared.error.Error.{Error}
use Rattle.clap.specs.declared.error.kind.ErrorKind.{ErrorKind}
use Rattle.ill_inputs.specs.declared.run_fault.RunFault.{RunFault}
use Rattle.ill_inputs.specs.declared.verdict.Verdict.{Verdict}
use Rattle.ill_files.specs.declared.error.ProgramError.{ProgramError}
use Rattle.ill_args.specs.declared.fault.LineFault.{LineFault}

-- of a job: 3 for memory, the source and the sink, 1 for the messages and their text
abbrev pub run_status_is : RunFault → ℕ
run_status_is RunFault.OutOfMemory = 3
run_status_is RunFault.ReadFault = 3
run_status_is (RunFault.WriteFault n) = 3
run_status_is _ = 1

-- of what clap reports: 0 for help and the version, 3 for memory, 2 for mistakes
abbrev pub kind_status : ErrorKind → ℕ
kind_status ErrorKind.DisplayHelp = 0
kind_status ErrorKind.DisplayVersion = 0
kind_status ErrorKind.OutOfMemory = 3
kind_status _ = 2

abbrev pub line_status_is : Error → ℕ
line_status_is error = kind_status (kind_of error)

abbrev pub error_status : ProgramError → ℕ
error_status (ProgramError.Line (LineFault.Line error)) = line_status_is error
error_status (ProgramError.Line _) = 2
error_status ProgramError.HiddenCharacters = 2
error_status ProgramError.SameFile = 2
error_status ProgramError.RefusedIsShared = 2
error_status ProgramError.EmptyList = 2
error_status (ProgramError.Run line) = run_status_is line.0
error_status (ProgramError.NoMessage missing) = 1
error_status (ProgramError.RefusedEnough count) = 1
error_status _ = 3

-- 0 where all is well, 1 where a message is not normal or two are different
abbrev pub status_is : Result Verdict ProgramError → ℕ
status_is (Ok Verdict.Good) = 0
status_is (Ok Verdict.NotGood) = 1
status_is (Err fault) = error_status fault

-- the input could not be read
abbrev pub is_read_fault : ProgramError → Bool
is_read_fault (ProgramError.Run line) = elim line.0 as (λ _. Bool) [ RunFault.ReadFault ↦ true | _ ↦ false ]
is_read_fault _ = false

-- some of the output was not written: a write, flush or sync fault, or nobody reads it
abbrev pub is_output_lost : Result Verdict ProgramError → Bool
is_output_lost (Err ProgramError.Flush) = true
is_output_lost (Err ProgramError.Closed) = true
is_output_lost (Err (ProgramError.Run line)) = elim line.0 as (λ _. Bool) [ RunFault.WriteFault n ↦ true | _ ↦ false ]
is_output_lost _ = false

-- some of the output was not written, or some of the input was not read, or memory ran out
abbrev pub loses_output : ProgramError → Bool
loses_output ProgramError.Flush = true
loses_output ProgramError.Closed = true
loses_output (ProgramError.Run line) = elim line.0 as (λ _. Bool) [ RunFault.WriteFault n ↦ true | RunFault.ReadFault ↦ true | RunFault.OutOfMemory ↦ true | _ ↦ false ]
loses_output _ = false

-- an output that is a file stays as it was; as a `whole` it is replaced only where all messages were good
abbrev pub keeps_output : Bool → Result Verdict ProgramError → Bool
keeps_output whole (Ok Verdict.Good) = false
keeps_output whole (Ok Verdict.NotGood) = whole
keeps_output whole (Err fault) = if whole then true else loses_output fault

-- the file of refused messages stays as it was
abbrev pub keeps_refused : Result Verdict ProgramError → Bool
keeps_refused (Err (ProgramError.CannotReplace name fault)) = true
keeps_refused (Err (ProgramError.NamesAreTaken name)) = true
keeps_refused done = keeps_output false done

-- of several files: 3 if one of them gave 3, else 1 if one gave 1
abbrev pub worst : List ℕ → ℕ
worst statuses = if list_any (λ s. s == 3) statuses then 3 else (if list_any (λ s. s == 1) statuses then 1 else 0)
