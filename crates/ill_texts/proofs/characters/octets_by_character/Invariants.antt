use Rattle.std.proofs.Common.{◌≡◌}
use Rattle.std.specs.Prelude.{IsTrue}
use Rattle.ber_tree.specs.Octets.{are_octets}
use Rattle.ill_texts.proofs.characters.octets_by_character.Given as goal

abbrev pub invariant-loop-character : goal.invariant-loop-character
invariant-loop-character l = record { same : l.octets.items ≡ l.yielded; are : IsTrue (are_octets l.yielded) }
