-- The texts of OBJECT IDENTIFIERs.
use Rattle.std.proofs.Common.{◌≡◌, ℕ, ◌-◌, ◌*◌, ◌/◌, min, true, false, List, [], ◌∷◌, ◌++◌, codes, decimal, flat_map, IsTrue, refl, sym, ap, subst, ◌∙◌, arith, inl, inr}
use Rattle.std.proofs.lemmas.Fmt.{decimal_is_IsNumeral}
use Rattle.std.proofs.lemmas.List.{append_cancel_left}
use Rattle.std.proofs.lemmas.Str.Parse.{digit_from_value}
use Rattle.std.specs.Str.Parse.{IsNumeral}
use Rattle.ber_leaf.specs.Leaf.{is_oid}
use Rattle.ber_tree.specs.Octets.{are_octets}
use Rattle.ber_tree.proofs.Lists.{cells, two_cases}
use Rattle.ill_schema.specs.Texts.{after_dot, hexadecimal, numbers_after, oid_components, oid_text, with_dots}
use Rattle.oid_text.specs.Numbers.{are_short, subidentifier}
use Rattle.oid_text.proofs.Dots.{components_once}
use Rattle.oid_text.proofs.HexDigits.{hexadecimal_once}
use Rattle.oid_text.proofs.SevenBits.{numbers_are_octets, numbers_are_oid, numbers_read, same_numbers, some_number}

-- the text where each number takes at most 63 bits
pub short_text : (o : List ℕ) → are_short (numbers_after 0 o) ≡ true → oid_text o ≡ with_dots (oid_components (numbers_after 0 o))
short_text o e = rw e refl

-- and where one takes more
pub great_text : (o : List ℕ) → are_short (numbers_after 0 o) ≡ false → oid_text o ≡ codes "oid " ++ hexadecimal o
great_text o e = rw e refl

-- no numeral begins with a letter
numeral_is_no_letter : (ds x y : List ℕ) → IsNumeral 10 ds → ds ++ x ≡ codes "oid " ++ y → ⊥
numeral_is_no_letter [] x y h e = absurd (omega (arith, h.0))
numeral_is_no_letter (d ∷ ds) x y h e = let r = digit_from_value d h.1.0 in omega (arith, r.1, (cells e).0)

-- so decimals do not begin as the other texts do
pub decimals_are_not_great : (n : ℕ) (ns y : List ℕ) → with_dots (oid_components (n ∷ ns)) ≡ codes "oid " ++ y → ⊥
decimals_are_not_great n ns y e =
    let r = min 2 (n / 40) in
    numeral_is_no_letter (decimal r) (flat_map after_dot ((n - 40 * r) ∷ ns)) y (decimal_is_IsNumeral r (omega arith)).0 e

-- nor does the text of short numbers
pub short_is_not_great : (o y : List ℕ) → IsTrue (are_octets o) → IsTrue (is_oid o) → are_short (numbers_after 0 o) ≡ true → oid_text o ≡ codes "oid " ++ y → ⊥
short_is_not_great o y ok h short e =
    let numbers = some_number o ok h in
    decimals_are_not_great numbers.0 numbers.1 y (sym (ap (λ ns. with_dots (oid_components ns)) numbers.2) ∙ sym (short_text o short) ∙ e)

-- the octets of numbers are those of the identifier with the text of these numbers
pub components_said : (text octets : List ℕ) (n : ℕ) (ns : List ℕ) → IsTrue (are_short (n ∷ ns)) → text ≡ with_dots (oid_components (n ∷ ns)) → octets ≡ flat_map subidentifier (n ∷ ns)
    → IsTrue (are_octets octets) × IsTrue (is_oid octets) × (text ≡ oid_text octets)
components_said text octets n ns short e f =
    let numbers : numbers_after 0 octets ≡ n ∷ ns = ap (numbers_after 0) f ∙ numbers_read (n ∷ ns) in (
      subst (λ z. IsTrue (are_octets z)) (sym f) (numbers_are_octets (n ∷ ns)),
      subst (λ z. IsTrue (is_oid z)) (sym f) (numbers_are_oid n ns),
      e ∙ ap (λ z. with_dots (oid_components z)) (sym numbers) ∙ sym (short_text octets (ap are_short numbers ∙ short)),
    )

-- where a text is no decimals and no digits behind `oid `, it is of no identifier
pub components_unsaid : (text : List ℕ) → ((n : ℕ) (ns : List ℕ) → IsTrue (are_short (n ∷ ns)) → text ≡ with_dots (oid_components (n ∷ ns)) → ⊥) → ((rest : List ℕ) → text ≡ codes "oid " ++ rest → ⊥)
    → (o : List ℕ) → IsTrue (are_octets o) → IsTrue (is_oid o) → text ≡ oid_text o → ⊥
components_unsaid text lacks other o ok h e = elim (two_cases (are_short (numbers_after 0 o))) [
  | inl s ↦
      let numbers = some_number o ok h in
      lacks numbers.0 numbers.1 (sym (ap are_short numbers.2) ∙ s) (e ∙ short_text o s ∙ ap (λ ns. with_dots (oid_components ns)) numbers.2)
  | inr g ↦ other (hexadecimal o) (e ∙ great_text o g)
]

-- octets behind `oid ` are those of an identifier, if one of its numbers is not short
pub great_said : (text digits octets : List ℕ) → text ≡ codes "oid " ++ digits → are_short (numbers_after 0 octets) ≡ false → digits ≡ hexadecimal octets → text ≡ oid_text octets
great_said text digits octets e great f = e ∙ ap (λ z. codes "oid " ++ z) f ∙ sym (great_text octets great)

-- where none are behind `oid `, the text is of no identifier
pub great_unsaid : (text digits : List ℕ) → text ≡ codes "oid " ++ digits
    → ((o : List ℕ) → IsTrue (are_octets o) → IsTrue (is_oid o) → are_short (numbers_after 0 o) ≡ false → digits ≡ hexadecimal o → ⊥)
    → (o : List ℕ) → IsTrue (are_octets o) → IsTrue (is_oid o) → text ≡ oid_text o → ⊥
great_unsaid text digits e lacks o ok h f = elim (two_cases (are_short (numbers_after 0 o))) [
  | inl s ↦ short_is_not_great o digits ok h s (sym f ∙ e)
  | inr g ↦ lacks o ok h g (append_cancel_left (codes "oid ") digits (hexadecimal o) (sym e ∙ f ∙ great_text o g))
]

-- an identifier is all that its text says
pub oid_text_once : (a b : List ℕ) → IsTrue (are_octets a) → IsTrue (is_oid a) → IsTrue (are_octets b) → IsTrue (is_oid b) → oid_text a ≡ oid_text b → a ≡ b
oid_text_once a b i h j k e = elim (two_cases (are_short (numbers_after 0 a))) [
  | inl s ↦ elim (two_cases (are_short (numbers_after 0 b))) [
    | inl t ↦
        let m = some_number a i h in
        let n = some_number b j k in
        let text = λ (ns : List ℕ). with_dots (oid_components ns) in
        let same = components_once m.0 n.0 m.1 n.1 (sym (ap are_short m.2) ∙ s) (sym (ap are_short n.2) ∙ t) (sym (ap text m.2) ∙ sym (short_text a s) ∙ e ∙ short_text b t ∙ ap text n.2) in
        same_numbers a b i h j k (m.2 ∙ same ∙ sym n.2)
    | inr t ↦ absurd (short_is_not_great a (hexadecimal b) i h s (e ∙ great_text b t))
  ]
  | inr s ↦ elim (two_cases (are_short (numbers_after 0 b))) [
    | inl t ↦ absurd (short_is_not_great b (hexadecimal a) j k t (sym e ∙ great_text a s))
    | inr t ↦ hexadecimal_once a b i j (append_cancel_left (codes "oid ") (hexadecimal a) (hexadecimal b) (sym (great_text a s) ∙ e ∙ great_text b t))
  ]
]
