use Rattle.std.proofs.lemmas.Bool.{and_parts}
use Rattle.ill_grammar.proofs.place.start.Goals as goal

pub returns-then-cell-clause-two : goal.returns-then-cell-clause-two
returns-then-cell-clause-two c two = c.nested_start.ensures.two (and_parts _ _ two).0
