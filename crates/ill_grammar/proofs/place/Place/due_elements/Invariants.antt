use Rattle.ill_grammar.proofs.DueLists.{IsListing}
use Rattle.ill_grammar.proofs.place.Place.due_elements.Given as goal

abbrev pub invariant-loop-position : goal.invariant-loop-position
invariant-loop-position l = IsListing l.self l.cells l.position l.due.items
