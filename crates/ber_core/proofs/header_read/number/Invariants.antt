use Rattle.std.proofs.Common.{◌≡◌, min, take}
use Rattle.std.specs.Int.Digits.{number_from_digits}
use Rattle.ber_core.proofs.header_read.number.Given as goal

abbrev pub invariant-loop-digit : goal.invariant-loop-digit
invariant-loop-digit l = l.number ≡ min (number_from_digits 256 (take l.digit-index l.digits)) 4294967295
