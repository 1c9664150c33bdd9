-- Lists of octets, element by element.
use Rattle.std.proofs.Common.{ℕ, zero, suc, ◌<◌, List, [], ◌∷◌, length, get_or, nat_lt, slice_index, refl, arith, lt-ltb, ltb-true}
use Rattle.std.specs.Prelude.{IsTrue}
use Rattle.std.proofs.lemmas.Bool.{and_from, and_parts}
use Rattle.ber_tree.specs.Octets.{are_octets}

-- of octets the first is one, and so are the others
pub octet_first : (octet : ℕ) (octets : List ℕ) → IsTrue (are_octets (octet ∷ octets)) → (octet < 256) × IsTrue (are_octets octets)
octet_first octet octets are = let parts = and_parts (nat_lt octet 256) (are_octets octets) are in (ltb-true octet 256 parts.0, parts.1)

-- an octet before octets
pub octets-cons : (octet : ℕ) (octets : List ℕ) → octet < 256 → IsTrue (are_octets octets) → IsTrue (are_octets (octet ∷ octets))
octets-cons octet octets small are = and_from (nat_lt octet 256) (are_octets octets) (lt-ltb octet 256 small) are

-- at each index is an octet
pub octet_at : (octets : List ℕ) (k : ℕ) → IsTrue (are_octets octets) → slice_index octets k < 256
octet_at [] k are = omega arith
octet_at (octet ∷ octets) zero are = (octet_first octet octets are).0
octet_at (octet ∷ octets) (suc k) are = octet_at octets k (octet_first octet octets are).1

-- where each index has an octet, all are octets
pub octets_from_each : (octets : List ℕ) → ((k : ℕ) → slice_index octets k < 256) → IsTrue (are_octets octets)
octets_from_each [] each = refl
octets_from_each (octet ∷ octets) each = octets-cons octet octets (each 0) (octets_from_each octets (λ k. each (suc k)))

-- the same, where any number stands past the end
pub octet_within : (octets : List ℕ) (k past : ℕ) → IsTrue (are_octets octets) → k < length octets → get_or octets k past < 256
octet_within [] k past are below = absurd (omega arith)
octet_within (octet ∷ octets) zero past are below = (octet_first octet octets are).0
octet_within (octet ∷ octets) (suc k) past are below = octet_within octets k past (octet_first octet octets are).1 (omega arith)
