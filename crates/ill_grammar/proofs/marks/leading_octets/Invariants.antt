use Rattle.std.proofs.Common.{◌≡◌, ◌+◌, drop}
use Rattle.ill_grammar.specs.Marks.{leading_octets}
use Rattle.ill_grammar.proofs.marks.leading_octets.Given as goal

abbrev pub invariant-loop-mark : goal.invariant-loop-mark
invariant-loop-mark l = record { count : l.count ≡ l.mark-index; front : leading_octets l.marks ≡ l.count + leading_octets (drop l.mark-index l.marks) }
