use Rattle.std.proofs.Common.{◌≡◌, ◌++◌, false, IsTrue, List, drop}
use Rattle.std.specs.List.{All}
use Rattle.ber_tree.specs.Identifier.{Tag}
use Rattle.ill_grammar.specs.DueLists.{have_own_tags, is_listed}
use Rattle.ill_grammar.specs.Elements.{element_with}
use Rattle.ill_grammar.specs.code.Listing.{StartsAt}
use Rattle.ill_grammar.specs.code.Meant.{node_starts}
use Rattle.ill_grammar.specs.declared.place.due_elements.DueElement.{DueElement}
use Rattle.ill_grammar.proofs.Alternatives.{starts_from}
use Rattle.ill_grammar.proofs.place.due_elements.add_starts.Given as goal

abbrev pub invariant-loop-row : goal.invariant-loop-row
invariant-loop-row l = record {
  added : (more : List DueElement) × (l.due.items ≡ l.fn.due.items ++ more) × All (StartsAt l.at l.cell l.fn.due.items) more;
  left : (t : Tag) → is_listed t l.due.items ≡ false
      → element_with t (node_starts l.cell.node) ≡ element_with t (starts_from (drop l.row l.cells));
  once : IsTrue (have_own_tags l.fn.due.items) → IsTrue (have_own_tags l.due.items);
}
