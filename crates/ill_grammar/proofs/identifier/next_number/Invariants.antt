use Rattle.ill_grammar.proofs.Identifiers.{Numbering}
use Rattle.ill_grammar.proofs.identifier.next_number.Given as goal

abbrev pub invariant-loop-i : goal.invariant-loop-i
invariant-loop-i l = Numbering l.octets l.number l.i
