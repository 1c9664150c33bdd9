-- The number of refused messages or lines that a command reports before its work ends.
use Rattle.std.specs.Prelude.{ℕ, ◌+◌, Bool, true, false, Option, Result, Err}
use Rattle.ill_inputs.specs.declared.verdict.Verdict.{Verdict}
use Rattle.ill_files.specs.declared.error.ProgramError.{ProgramError}
use Rattle.ill_files.specs.declared.error.RefusedCount.{RefusedCount}
use Rattle.ill_cli.specs.Counts.{counted_messages}
use Rattle.ill_cli.specs.declared.limit.RefusalLimit.{RefusalLimit}

-- so many, or all; none of them was reported yet
abbrev pub limit_at : Option ℕ → RefusalLimit
limit_at most = record { most = most; count = 0 }

-- one more was reported
abbrev pub with_one : RefusalLimit → RefusalLimit
with_one limit = record limit { count = counted_messages (limit.count + 1) }

-- the error of work on messages, and of work on lines, that ended there
abbrev pub error_at : RefusalLimit → ProgramError
error_at limit = ProgramError.RefusedEnough (RefusedCount.Messages limit.count)

abbrev pub line_error_at : RefusalLimit → ProgramError
line_error_at limit = ProgramError.RefusedEnough (RefusedCount.Lines limit.count)

-- the work on a file ended there, and so no file more is done
abbrev pub is_stopped : Result Verdict ProgramError → Bool
is_stopped (Err (ProgramError.RefusedEnough count)) = true
is_stopped _ = false
