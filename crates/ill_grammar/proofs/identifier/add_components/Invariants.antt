use Rattle.std.proofs.Common.{◌≡◌, ◌++◌, IsTrue, flat_map, length}
use Rattle.std.specs.Prelude.{string_bytes}
use Rattle.std.specs.List.{list_all}
use Rattle.ill_grammar.specs.Marks.{octets_in}
use Rattle.ill_schema.specs.Texts.{after_dot, numbers_after, oid_components, with_dots}
use Rattle.ill_grammar.specs.Identifiers.{is_short}
use Rattle.ill_grammar.proofs.identifier.add_components.Given as goal

abbrev pub invariant-numbers : goal.invariant-numbers
invariant-numbers l = record {
  short : IsTrue (list_all is_short (numbers_after 0 (octets_in l.left)));
  text : string_bytes l.text ++ flat_map after_dot (numbers_after 0 (octets_in l.left)) ≡ string_bytes l.fn.text ++ with_dots (oid_components (numbers_after 0 (octets_in l.octets)));
}

abbrev pub decreases-numbers : goal.decreases-numbers
decreases-numbers l = length l.left
