use Rattle.std.proofs.Common.{◌≡◌, ◌≤◌, length, take}
use Rattle.ill_grammar.specs.Marks.{octets_in}
use Rattle.ill_grammar.proofs.marks.first_eight.Given as goal

abbrev pub invariant-loop-mark : goal.invariant-loop-mark
invariant-loop-mark l = length (octets_in (take l.mark-index l.octets)) ≤ 8 → l.all.items ≡ octets_in (take l.mark-index l.octets)
