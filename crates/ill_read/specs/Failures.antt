-- How the failures of the decoder are those of a reader.
use Rattle.ill_read.specs.declared.failure.Failure.{Failure}
use Rattle.ill_read.specs.declared.failure.ReadFailure.{ReadFailure}

abbrev pub read_failure : Failure → ReadFailure
read_failure (Failure.Refused refusal) = ReadFailure.Refused refusal
read_failure Failure.OutOfMemory = ReadFailure.OutOfMemory
