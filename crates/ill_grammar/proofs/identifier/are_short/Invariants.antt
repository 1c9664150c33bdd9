use Rattle.std.proofs.Common.{◌≡◌, length}
use Rattle.std.specs.List.{list_all}
use Rattle.ill_grammar.specs.Marks.{octets_in}
use Rattle.ill_schema.specs.Texts.{numbers_after}
use Rattle.ill_grammar.specs.Identifiers.{is_short}
use Rattle.ill_grammar.proofs.identifier.are_short.Given as goal

abbrev pub invariant-numbers : goal.invariant-numbers
invariant-numbers l = list_all is_short (numbers_after 0 (octets_in l.octets)) ≡ list_all is_short (numbers_after 0 (octets_in l.left))

abbrev pub decreases-numbers : goal.decreases-numbers
decreases-numbers l = length l.left
