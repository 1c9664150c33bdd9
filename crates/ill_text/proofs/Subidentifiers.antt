-- The numbers of an OBJECT IDENTIFIER, and the text that is put of one after another.
use Rattle.std.proofs.Common.{◌≡◌, ℕ, ◌-◌, ◌*◌, ◌/◌, min, true, false, List, ◌∷◌, ◌++◌, codes, decimal, refl, append_assoc}
use Rattle.std.specs.Prelude.{flat_map}
use Rattle.ill_schema.specs.Texts.{after_dot, hexadecimal, numbers_after, oid_components, oid_text, with_dots}
use Rattle.ill_grammar.specs.Identifiers.{are_short}

-- the first number is put as two components, and then each of the others
pub two_and_others : (n : ℕ) (numbers : List ℕ)
    → (decimal (min 2 (n / 40)) ++ after_dot (n - 40 * min 2 (n / 40))) ++ flat_map after_dot numbers ≡ with_dots (oid_components (n ∷ numbers))
two_and_others n numbers = let first = min 2 (n / 40) in append_assoc (decimal first) (after_dot (n - 40 * first)) (flat_map after_dot numbers)

pub small_text : (octets : List ℕ) → are_short (numbers_after 0 octets) ≡ true → with_dots (oid_components (numbers_after 0 octets)) ≡ oid_text octets
small_text octets e = rw e refl

pub great_text : (octets : List ℕ) → are_short (numbers_after 0 octets) ≡ false → codes "oid " ++ hexadecimal octets ≡ oid_text octets
great_text octets e = rw e refl
