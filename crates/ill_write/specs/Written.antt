-- What a failed write has written.
use Rattle.std.specs.Prelude.{ℕ}
use Rattle.ill_write.specs.declared.failure.WriteFailure.{WriteFailure}

-- where only the first n octets were written, that holds of n
abbrev pub IfPartWritten : WriteFailure → (ℕ → Type 0) → Type 0
IfPartWritten (WriteFailure.WriteFault n) P = P n
IfPartWritten WriteFailure.OutOfMemory P = Unit {0}
