-- Leaves of the module profile.
use Rattle.std.proofs.Common.{ℕ, List, refl}
use Rattle.ber_leaf.specs.Content.{IsContent}
use Rattle.ber_leaf.specs.Leaf.{bit_string, value}
use Rattle.ill_tables.specs.declared.profile.Profile.{Profile as Named}
use Rattle.ill_grammar.specs.LeafTypes.{IsContentIn}

-- a content of a BIT STRING is one in each profile
pub bits_content : (p : Named) (octets : List ℕ) → IsContentIn p bit_string octets → IsContent bit_string octets
unfolding IsContent
bits_content p octets h = (value bit_string octets, (h.0, h.1, refl))
