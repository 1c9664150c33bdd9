use Rattle.std.proofs.Common.{◌≡◌, ℕ, List, ◌++◌, length, IsTrue}
use Rattle.ber_tree.specs.Octets.{are_octets}
use Rattle.ill_schema.specs.Texts.{hexadecimal}
use Rattle.oid_text.proofs.hexadecimal.read_hexadecimal.Given as goal

abbrev pub invariant-octets : goal.invariant-octets
invariant-octets l = record {
  ok : IsTrue (are_octets l.octets.items);
  joined : l.text ≡ hexadecimal l.octets.items ++ l.left;
  back : (all : List ℕ) → IsTrue (are_octets all) → l.text ≡ hexadecimal all → (rest : List ℕ) × IsTrue (are_octets rest) × (l.left ≡ hexadecimal rest);
}

abbrev pub decreases-octets : goal.decreases-octets
decreases-octets l = length l.left
