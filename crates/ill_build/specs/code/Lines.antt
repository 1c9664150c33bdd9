-- What a line is refused for, as callers see it.
use Rattle.std.specs.Prelude.{ℕ, List, Option, Some, None}
use Rattle.ill_build.specs.declared.cause.BuildCause.{BuildCause}
use Rattle.ill_build.specs.declared.line.BuildFailure.{BuildFailure}
use Rattle.ill_build.specs.declared.line.BuildFailure.TheVariants.{OutOfMemory, Refused}

-- the cause and the pointer, None where memory ran out
abbrev pub failed : BuildFailure → Option (BuildCause × List ℕ)
failed OutOfMemory = None
failed (Refused refusal) = Some (refusal.cause, refusal.pointer.items)
