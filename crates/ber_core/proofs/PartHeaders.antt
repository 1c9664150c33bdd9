-- What is read of a part of an identifier or of a length.
use Rattle.std.proofs.Common.{◌≡◌, ℕ, zero, suc, ◌+◌, ◌-◌, ◌*◌, ◌%◌, ◌<◌, ◌≤◌, Bool, true, false, ◌||◌, List, [], ◌∷◌, ◌++◌, length, length-append, replicate, IsTrue, refl, sym, ap, subst, ◌∙◌, inl, inr, arith, if◌then◌else◌, lit<}
use Rattle.std.specs.Prelude.{nat_eq, nat_lt, nat_le}
use Rattle.std.proofs.lemmas.List.{length-replicate}
use Rattle.std.specs.Int.Digits.{AllBelowBase, number_from_digits}
use Rattle.ber_tree.specs.Identifier.{Tag, identifier, HasIdentifier}
use Rattle.ber_tree.specs.Length.{IsLength, short, long}
use Rattle.ber_tree.specs.Octets.{are_octets}
use Rattle.ber_core.specs.Reading.{IdentifierRead, identified, part_identifier, no_identifier, tagged, read_digits, read_number, read_identifier, LengthRead, definite, indefinite, part_length, no_length, read_length}
use Rattle.ber_core.proofs.ReadOctets.{identifier_read, length_read, read_is_identifier, no_identifier_longer, no_length_longer, octets_join, octet_small, below_256}
use Rattle.ber_tree.proofs.Lists.{two_cases}

-- no identifier begins with octets that are read as none
pub none_begins : (w : List ℕ) (t : Tag) (f : Bool) (x y : List ℕ) → read_identifier w ≡ no_identifier → HasIdentifier t f → w ++ y ≡ identifier t f ++ x → ⊥
none_begins w t f x y e h s =
    let a : no_identifier ≡ identified t f x = sym (no_identifier_longer w y e) ∙ ap read_identifier s ∙ identifier_read t f x h in cc

-- octets that are read as a part of an identifier are no whole one, nor begin with one
pub part_begins_none : (w : List ℕ) (t : Tag) (f : Bool) (x : List ℕ) → read_identifier w ≡ part_identifier → HasIdentifier t f → w ≡ identifier t f ++ x → ⊥
part_begins_none w t f x e h s = let a : part_identifier ≡ identified t f x = sym e ∙ ap read_identifier s ∙ identifier_read t f x h in cc

-- with one octet more they are whole
abbrev Completed : IdentifierRead → IdentifierRead → Type 0
Completed part_identifier r = (t : Tag) × (f : Bool) × (r ≡ identified t f [])
Completed no_identifier r = Unit {0}
Completed (identified t f rest) r = Unit {0}

completed_if : (b : Bool) (r s u v : IdentifierRead) → Completed r u → Completed s v → Completed (if b then r else s) (if b then u else v)
completed_if true r s u v h k = h
completed_if false r s u v h k = k

completed_body : (o left h a : ℕ) (w : List ℕ) (b : Bool) → Completed (read_digits o left (128 * h + (a - 128)) w) (read_digits o left (128 * h + (a - 128)) (w ++ 127 ∷ []))
    → Completed (elim b as (λ _. IdentifierRead) [ true ↦ tagged o (128 * h + a) w | false ↦ read_digits o left (128 * h + (a - 128)) w ])
    (elim b as (λ _. IdentifierRead) [ true ↦ tagged o (128 * h + a) (w ++ 127 ∷ []) | false ↦ read_digits o left (128 * h + (a - 128)) (w ++ 127 ∷ []) ])
completed_body o left h a w true k = tt
completed_body o left h a w false k = k

completed_digits : (o left h : ℕ) (w : List ℕ) → Completed (read_digits o left h w) (read_digits o left h (w ++ 127 ∷ []))
completed_digits o zero h w = tt
completed_digits o (suc left) h [] = (_, _, refl)
completed_digits o (suc left) h (a ∷ w) = completed_body o left h a w (nat_lt a 128) (completed_digits o left (128 * h + (a - 128)) w)

completed_number : (o : ℕ) (w : List ℕ) → Completed (read_number o w) (read_number o (w ++ 127 ∷ []))
completed_number o [] = (_, _, refl)
completed_number o (a ∷ w) = completed_if (nat_lt a 31 || nat_eq a 128) _ _ _ _ tt (completed_if (nat_lt a 128) _ _ _ _ tt (completed_digits o 3 (a - 128) w))

-- the octet that completes
abbrev pub completing : List ℕ → ℕ
completing [] = 1
completing (o ∷ w) = 127

completed : (w : List ℕ) → Completed (read_identifier w) (read_identifier (w ++ completing w ∷ []))
completed [] = (_, _, refl)
completed (o ∷ w) = completed_if (nat_eq o 0) _ _ _ _ tt (completed_if (nat_eq (o % 32) 31) _ _ _ _ (completed_number o w) tt)

small : (w : List ℕ) → IsTrue (are_octets (completing w ∷ []))
small [] = refl
small (o ∷ w) = refl

-- octets that are read as a part of an identifier begin one
pub part_begins : (w : List ℕ) → IsTrue (are_octets w) → read_identifier w ≡ part_identifier → (t : Tag) × (f : Bool) × HasIdentifier t f × (w ++ completing w ∷ [] ≡ identifier t f ++ [])
part_begins w h e =
    let c : Completed part_identifier (read_identifier (w ++ completing w ∷ [])) = subst (λ r. Completed r (read_identifier (w ++ completing w ∷ []))) e (completed w) in
    let q = read_is_identifier (w ++ completing w ∷ []) c.0 c.1 [] (octets_join w (completing w ∷ []) h (small w)) c.2 in
    (c.0, c.1, q.0, q.1)

-- the same of lengths
pub no_length_begins : (f : Bool) (w : List ℕ) (n : ℕ) (os x y : List ℕ) → read_length f w ≡ no_length → IsLength n os → w ++ y ≡ os ++ x → ⊥
no_length_begins f w n os x y e h s = let a : no_length ≡ definite n x = sym (no_length_longer f w y e) ∙ ap (read_length f) s ∙ length_read f n os x h in cc

pub part_begins_no_length : (f : Bool) (w : List ℕ) (n : ℕ) (os x : List ℕ) → read_length f w ≡ part_length → IsLength n os → w ≡ os ++ x → ⊥
part_begins_no_length f w n os x e h s = let a : part_length ≡ definite n x = sym e ∙ ap (read_length f) s ∙ length_read f n os x h in cc

-- octets that are read as a part of a length begin one
abbrev CompletedLength : List ℕ → LengthRead → Type 0
CompletedLength w part_length = (n : ℕ) × (os : List ℕ) × (y : List ℕ) × IsLength n os × (w ++ y ≡ os)
CompletedLength w no_length = Unit {0}
CompletedLength w (indefinite rest) = Unit {0}
CompletedLength w (definite n rest) = Unit {0}

zeros : (n : ℕ) → AllBelowBase 256 (replicate n 0)
zeros zero = tt
zeros (suc n) = (lit< tt, zeros n)

below_join : (a b : List ℕ) → AllBelowBase 256 a → AllBelowBase 256 b → AllBelowBase 256 (a ++ b)
below_join [] b h k = k
below_join (x ∷ a) b h k = (h.0, below_join a b h.1 k)

long_completed : (a : ℕ) (rest : List ℕ) → IsTrue (are_octets rest) → 128 < a → a ≤ 254 → length rest < a - 128 → CompletedLength (a ∷ rest) part_length
long_completed a rest h l m n =
    let y = replicate (a - 128 - length rest) 0 in
    let os = rest ++ y in
    let size : length os ≡ a - 128 = omega (arith, length-append rest y, length-replicate {A = ℕ} (a - 128 - length rest) 0) in
    let e : a ≡ 128 + length os = omega arith in (
      number_from_digits 256 os,
      (128 + length os) ∷ os,
      y,
      long (omega arith) (omega arith) (below_join rest y (below_256 rest h) (zeros (a - 128 - length rest))) refl,
      ap (λ (z : ℕ). z ∷ (rest ++ y)) e,
    )

length_completed : (f : Bool) (w : List ℕ) → IsTrue (are_octets w) → CompletedLength w (read_length f w)
length_completed f [] h = (0, 0 ∷ [], 0 ∷ [], short (omega arith), refl)
length_completed f (a ∷ rest) h =
    let s = octet_small a rest h in
    elim (two_cases (nat_lt a 128)) [
      | inl i ↦ rw i tt
      | inr i ↦ rw i (elim (two_cases (nat_eq a 255)) [
        | inl j ↦ rw j tt
        | inr j ↦ rw j (elim (two_cases (nat_eq a 128)) [
          | inl k ↦ rw k (marked f)
          | inr k ↦ rw k (elim (two_cases (nat_le (a - 128) (length rest))) [
            | inl m ↦ rw m tt
            | inr m ↦ rw m (long_completed a rest s.1 (let e : 128 < a = grind (arith, i, k) in e) (small_enough a s.0 j) (let e : length rest < a - 128 = grind (arith, m) in e))
          ])
        ])
      ])
    ]
  where
    marked : (f : Bool) → CompletedLength (a ∷ rest) (if f then indefinite rest else no_length)
    marked true = tt
    marked false = tt

    small_enough : (a : ℕ) → a < 256 → nat_eq a 255 ≡ false → a ≤ 254
    small_enough a l e = grind arith

pub part_begins_length : (f : Bool) (w : List ℕ) → IsTrue (are_octets w) → read_length f w ≡ part_length → (n : ℕ) × (os : List ℕ) × (y : List ℕ) × IsLength n os × (w ++ y ≡ os)
part_begins_length f w h e = subst (CompletedLength w) e (length_completed f w h)
