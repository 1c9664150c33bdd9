use Rattle.std.proofs.Common.{◌≡◌, drop}
use Rattle.ber_core.specs.Id.{tag_of_id}
use Rattle.ill_grammar.specs.Elements.{element_with}
use Rattle.ill_grammar.specs.code.Meant.{node_starts}
use Rattle.ill_grammar.proofs.Alternatives.{starts_from}
use Rattle.ill_grammar.proofs.place.nested_start.Given as goal

abbrev pub invariant-loop-row : goal.invariant-loop-row
invariant-loop-row l = element_with (tag_of_id l.id) (node_starts l.fn.node) ≡ element_with (tag_of_id l.id) (starts_from (drop l.row l.cells))
