-- The octets that the bits of a BIT STRING fill, of which the last may have unused bits.
use Rattle.std.proofs.Common.{◌≡◌, ℕ, ◌-◌, ◌*◌, ◌<◌, ◌≤◌, true, IsTrue, List, [], ◌∷◌, ◌++◌, codes, decimal, length, map, refl, sym, ap, ◌∙◌, arith, eqb-true, Bool, false, Some, None, nat_eq, if◌then◌else◌}
use Rattle.std.specs.Prelude.{nat_le}
use Rattle.std.proofs.lemmas.List.Concat.{flat_map-append}
use Rattle.ber_leaf.specs.Leaf.{bit_count, bit_octets, bit_string, cleared, cleared_last, is_bits, value}
use Rattle.ber_leaf.proofs.Bits.{length-cleared}
use Rattle.ber_leaf.specs.declared.fault.LeafFault.{LeafFault}
use Rattle.ill_grammar.specs.LeafTypes.{IsContentIn}
use Rattle.ill_tables.specs.declared.profile.Profile.{Profile as Named}
use Rattle.ill_grammar.specs.declared.outline.Mark.{Mark}
use Rattle.ill_grammar.specs.declared.outline.Mark.TheVariants as mark
use Rattle.ill_grammar.specs.Marks.{octets_in}
use Rattle.ill_schema.specs.Texts.{digits, hexadecimal}
use Rattle.ill_text.specs.Shown.{leaf_text}
use Rattle.ill_text.specs.code.Bits.{filled_text}
use Rattle.ill_grammar.proofs.MarkedValues.{octets_back}

-- octets before the last, and the last
pub record IsSplit (octets : List ℕ) (front : List Mark) (final : Mark) : Type 0 where
  pub octet : ℕ
  pub is : final ≡ mark.Octet octet
  pub text : (u : ℕ) → codes " " ++ (hexadecimal (octets_in front) ++ hexadecimal (cleared u octet ∷ [])) ≡ filled_text (cleared_last u octets)

split_marks : (octets : List ℕ) (front : List Mark) (final : Mark) → map mark.Octet octets ≡ front ++ final ∷ []
    → (o : List ℕ) × (a : ℕ) × (octets ≡ o ++ a ∷ []) × (front ≡ map mark.Octet o) × (final ≡ mark.Octet a)
split_marks [] [] final e = absurd cc
split_marks [] (m ∷ front) final e = absurd cc
split_marks (a ∷ []) [] final e = ([], a, refl, refl, cc)
split_marks (a ∷ b ∷ octets) [] final e = absurd cc
split_marks (a ∷ octets) (m ∷ front) final e =
    let r = split_marks octets front final cc in
    (a ∷ r.0, r.1, ap (λ o. a ∷ o) r.2, (let f = r.3 in cc), r.4)

last_cleared : (u : ℕ) (o : List ℕ) (a : ℕ) → cleared_last u (o ++ a ∷ []) ≡ o ++ cleared u a ∷ []
last_cleared u [] a = refl
last_cleared u (b ∷ []) a = refl
last_cleared u (b ∷ c ∷ o) a = ap (λ x. b ∷ x) (last_cleared u (c ∷ o) a)

some_filled : (o : List ℕ) (a : ℕ) → codes " " ++ hexadecimal (o ++ a ∷ []) ≡ filled_text (o ++ a ∷ [])
some_filled [] a = refl
some_filled (b ∷ o) a = refl

pub split : (octets : List ℕ) (front : List Mark) (final : Mark) → map mark.Octet octets ≡ front ++ final ∷ [] → IsSplit octets front final
split octets front final e =
    let r = split_marks octets front final e in
    record {
      octet = r.1;
      is = r.4;
      text = λ u.
          ap (λ o. codes " " ++ (hexadecimal o ++ hexadecimal (cleared u r.1 ∷ []))) (ap octets_in r.3 ∙ octets_back r.0)
          ∙ ap (λ x. codes " " ++ x) (sym (flat_map-append digits r.0 (cleared u r.1 ∷ []))) ∙ some_filled r.0 (cleared u r.1)
          ∙ ap filled_text (sym (last_cleared u r.0 r.1) ∙ ap (cleared_last u) (sym r.2));
    }

filled_if : (n : ℕ) (octets : List ℕ) → (length octets ≡ 0 → n ≡ 0) → (0 < length octets → 0 < n) → filled_text octets ≡ (if nat_eq n 0 then [] else codes " " ++ hexadecimal octets)
filled_if n [] none some = let e : n ≡ 0 = none refl in let q : nat_eq n 0 ≡ true = grind (arith, e) in rw q refl
filled_if n (a ∷ octets) none some = let h : 0 < n = some (omega arith) in let q : nat_eq n 0 ≡ false = grind (arith, h) in rw q refl

-- the text of bits: their number, and the octets if there are any
pub bits_text : (name octets : List ℕ) → IsTrue (is_bits octets) → codes "bits " ++ (decimal (bit_count octets) ++ filled_text (bit_octets octets)) ≡ leaf_text name (value bit_string octets)
bits_text name [] h = absurd cc
bits_text name (u ∷ octets) h =
    let n = 8 * length octets - u in
    let l = length-cleared u octets in
    ap (λ x. codes "bits " ++ (decimal n ++ x)) (filled_if n (cleared_last u octets) (λ e. omega (arith, l, e)) (λ some. more_bits u octets h (omega (arith, l, some))))
  where
    more_bits : (u : ℕ) (octets : List ℕ) → IsTrue (is_bits (u ∷ octets)) → 0 < length octets → 0 < 8 * length octets - u
    more_bits u [] h some = absurd (omega (arith, some))
    more_bits u (a ∷ octets) h some = let q : nat_le u 7 ≡ true = h in let l : u ≤ 7 = grind (arith, q) in omega (arith, l)

pub unused_few : (u : ℕ) (octets : List ℕ) → IsTrue (is_bits (u ∷ octets)) → u ≤ 7
unused_few u [] h = let q : nat_eq u 0 ≡ true = h in omega (arith, eqb-true u 0 q)
unused_few u (a ∷ octets) h = let q : nat_le u 7 ≡ true = h in grind (arith, q)

pub are_bits : (p : Named) (octets : List ℕ) → IsContentIn p bit_string octets → IsTrue (is_bits octets)
are_bits p octets h = unless_none (is_bits octets) h.1
  where
    unless_none : (b : Bool) → (if b then None else Some LeafFault.BadBits) ≡ None → IsTrue b
    unless_none true e = refl
    unless_none false e = absurd cc
