-- Octets that are one element by their identifiers and lengths alone (X.690, 8.1.1 to 8.1.5).
use Rattle.std.specs.Prelude.{◌≡◌, ◌≢◌, ℕ, suc, ◌/◌, ◌%◌, ◌<◌, ◌≤◌, Bool, true, List, [], ◌∷◌, ◌++◌, length, nat_eq}
use Rattle.ber_tree.specs.Length.{IsLength}

-- bit 6 of an element's first octet (8.1.2.5)
abbrev pub is_constructed : ℕ → Bool
is_constructed first = nat_eq (first / 32 % 2) 1

-- a tag number's octets after the first one: bit 8 is set on each but the last (8.1.2.4.2), whatever number they say
pub data IsTagNumber : List ℕ → Type 0 where
  last : {octet : ℕ} → octet < 128 → IsTagNumber (octet ∷ [])
  more : {octet : ℕ} {rest : List ℕ} → 128 ≤ octet → IsTagNumber rest → IsTagNumber (octet ∷ rest)

-- identifier octets: one, or where bits 5 to 1 are ones, also those of a number (8.1.2.2, 8.1.2.4); 00 begins an end mark (8.1.5)
pub data IsIdentifier (constructed : Bool) : List ℕ → Type 0 where
  low : {first : ℕ} → first ≢ 0 → first % 32 ≢ 31 → constructed ≡ is_constructed first → IsIdentifier constructed (first ∷ [])
  high : {first : ℕ} {number : List ℕ} → first % 32 ≡ 31 → constructed ≡ is_constructed first → IsTagNumber number → IsIdentifier constructed (first ∷ number)

mutual
  -- one element, in which at most `deep` elements of the indefinite form are open at once
  pub data IsFramed : ℕ → List ℕ → Type 0 where
    -- identifier, length and as many octets (8.1.3.3), whatever they are
    definite : {deep : ℕ} {form : Bool} {id octets b : List ℕ} → (contents : List ℕ) → IsIdentifier form id → IsLength (length contents) octets
        → length contents ≤ 4_294_967_294 → b ≡ id ++ (octets ++ contents) → IsFramed deep b
    -- identifier, 80, elements and the end mark 00 00 (8.1.3.6, 8.1.5); only a constructed element may have this form (8.1.3.2)
    indefinite : {deep : ℕ} {id contents b : List ℕ} → IsIdentifier true id → AreFramed deep contents
        → b ≡ id ++ (128 ∷ (contents ++ 0 ∷ 0 ∷ [])) → IsFramed (suc deep) b

  -- elements, one after another
  pub data AreFramed : ℕ → List ℕ → Type 0 where
    none : {deep : ℕ} → AreFramed deep []
    next : {deep : ℕ} {x y b : List ℕ} → IsFramed deep x → AreFramed deep y → b ≡ x ++ y → AreFramed deep b

-- one framed element: lengths up to 4,294,967,294, and up to 18,446,744,073,709,551,615 elements of the indefinite form that are open at once
abbrev pub IsFrame : List ℕ → Type 0
IsFrame b = IsFramed 18_446_744_073_709_551_615 b

-- the first octets of a framed element, but not all
abbrev pub IsPartOfFrame : List ℕ → Type 0
IsPartOfFrame b = (rest : List ℕ) × (rest ≢ []) × IsFrame (b ++ rest)

-- the first octets of no framed element
abbrev pub IsUnframed : List ℕ → Type 0
IsUnframed b = (rest : List ℕ) → IsFrame (b ++ rest) → ⊥
