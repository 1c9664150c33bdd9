use Rattle.std.proofs.Common.{◌≡◌, ◌<◌, ◌≤◌, ◌++◌, length, drop}
use Rattle.std.specs.Int.Digits.{digits_of}
use Rattle.der_buffer.proofs.der_buffer.put_length.Given as goal

abbrev pub invariant-digits : goal.invariant-digits
invariant-digits l = record {
  digits : digits_of 256 l.size ≡ digits_of 256 l.rest ++ drop l.at l.room;
  left : length (digits_of 256 l.rest) < l.at;
  within : l.at ≤ 9;
  room : length l.room ≡ 9;
}

abbrev pub decreases-digits : goal.decreases-digits
decreases-digits l = l.rest
