use Rattle.std.proofs.Common.{◌≡◌, ◌^◌, ◌<◌, drop}
use Rattle.std.specs.Int.Digits.{number_from_digits, number_from_digits_after}
use Rattle.ill_grammar.specs.Marks.{octets_in}
use Rattle.ill_text.specs.code.Sending.{counted}
use Rattle.ill_text.proofs.foreign.number_of.Given as goal

abbrev pub invariant-loop-mark : goal.invariant-loop-mark
invariant-loop-mark l = record {
  number : counted (number_from_digits 256 (octets_in l.marks)) ≡ counted (number_from_digits_after 256 l.number (octets_in (drop l.mark-index l.marks)));
  held : l.number < 2 ^ 64;
}
