use Rattle.std.proofs.Common.{◌≡◌, false, take}
use Rattle.ill_grammar.specs.DueLists.{is_listed}
use Rattle.ill_grammar.specs.code.Listing.{cell_tag}
use Rattle.ill_grammar.proofs.place.due_elements.is_listed.Given as goal

abbrev pub invariant-loop-element : goal.invariant-loop-element
invariant-loop-element l = is_listed (cell_tag l.cell) (take l.element-index l.due) ≡ false
