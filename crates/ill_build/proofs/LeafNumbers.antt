-- Numbers, and the contents that are made of them.
use Rattle.std.proofs.Common.{◌≡◌, ◌≢◌, inl, inr, ℕ, zero, suc, ◌<◌, ◌≤◌, ◌+◌, ◌-◌, ◌*◌, ◌/◌, ◌%◌, ◌^◌, ℤ, pos, negsuc, Bool, true, false, IsTrue, List, [], ◌∷◌, codes, length, map, get_or, Option, Some, None, refl, sym, ap, ap₂, subst, ◌∙◌, arith, below_more, nat_eq, slice_get, FitsSigned, w64}
use Rattle.std.specs.Borrow.{Bor}
use Rattle.std.specs.Fmt.{decimal, signed_decimal}
use Rattle.std.specs.Prelude.{◌≤ℤ◌, ◌<ℤ◌, if◌then◌else◌, neg_ℤ, nat_lt, option_map}
use Rattle.std.proofs.lemmas.Bool.Decides.{nat_tests}
use Rattle.std.proofs.lemmas.Int.{ints}
use Rattle.std.proofs.lemmas.List.{length-map}
use Rattle.std.proofs.lemmas.Option.{slice_get-get_or, slice_get-map, slice_get_within}
use Rattle.std.proofs.Math.Nat.{div-mul-le_self}
use Rattle.json.specs.Find.{as_number, as_str, get}
use Rattle.json.specs.Json.{Json, number, object, string}
use Rattle.ber_leaf.specs.Leaf.{Holds, bit_string, cleared, cleared_last, enumerated, integer, is_bits, normal_content}
use Rattle.ber_leaf.specs.declared.fault.LeafFault.{LeafFault}
use Rattle.ber_leaf.specs.Profile.{Profile}
use Rattle.ber_leaf.specs.Simple.{Simple, bits, whole}
use Rattle.ber_leaf.proofs.Bits.{few_unused}
use Rattle.ber_leaf.proofs.Integers.{whole_bounds}
use Rattle.ber_leaf.proofs.Leaves.{normal_holds}
use Rattle.ber_tree.specs.Octets.{are_octets}
use Rattle.ill_schema.specs.Texts.{hexadecimal}
use Rattle.ill_tables.specs.Numbers.{number_name, number_names}
use Rattle.ill_tables.specs.code.Numbers.{named}
use Rattle.ill_tables.proofs.NumberNames.{number_at_place, number_there}
use Rattle.ill_tables.specs.declared.node.Kind.{Kind}
use Rattle.ill_tables.specs.declared.node.LeafKind.{LeafKind}
use Rattle.ill_texts.specs.Numbers.{is_whole}
use Rattle.ill_texts.proofs.NumberTexts.{number_is_whole, number_once}
use Rattle.ill_build.specs.declared.cause.BuildCause.{BuildCause}
use Rattle.ill_build.specs.declared.leaf.LeafContents.{LeafContents}
use Rattle.ill_build.specs.Faulty.{IsBitsFault, IsCountFault, IsFaultOf, IsHexadecimalFault, IsMemberFault, IsNumberFault, IsWholeFault}
use Rattle.ill_build.specs.Members.{IsObjectOf, of_names}
use Rattle.ill_build.specs.Path.{Step}
use Rattle.ill_build.specs.Said.{LeafSays}
use Rattle.ill_build.specs.code.Built.{ReadsLeaf}
use Rattle.ill_build.proofs.LeafTexts.{later_fault}

-- ---- the names of numbers

-- the numbers of a row are those that are read
named_at : (row : List ℕ) (items : List (ℤ × Bor (List ℕ))) (k : ℕ) (d : ℤ × Bor (List ℕ)) → map named items ≡ number_names row → k < length items → slice_get (number_names row) k ≡ Some (named (get_or items k d))
named_at row items k d same within = sym (ap (λ ns. slice_get ns k) same) ∙ slice_get-map named items k ∙ ap (option_map named) (slice_get-get_or items k d within)

-- the number beside a name has it
pub name_found : (row name : List ℕ) (items : List (ℤ × Bor (List ℕ))) (k : ℕ) (d : ℤ × Bor (List ℕ)) (z : ℤ) → map named items ≡ number_names row → k < length items → (get_or items k d).1.now ≡ name → z ≡ (get_or items k d).0
    → number_name row z ≡ Some name
name_found row name items k d z same within is e =
    number_at_place row k z name
    (named_at row items k d same within ∙ ap (λ (x : ℤ). Some (x, (get_or items k d).1.now)) (sym e) ∙ ap (λ (x : List ℕ). Some (z, x)) is)

-- no number at the first k places has the name
abbrev pub IsPast : List ℕ → List ℕ → ℕ → Type 0
IsPast row name k = (i : ℕ) → i < k → (n : ℤ) → slice_get (number_names row) i ≡ Some (n, name) → ⊥

-- nor one at the next place
pub name_further : (row name : List ℕ) (items : List (ℤ × Bor (List ℕ))) (k : ℕ) (d : ℤ × Bor (List ℕ)) → map named items ≡ number_names row → k < length items → ((get_or items k d).1.now ≡ name → ⊥) → IsPast row name k → IsPast row name (k + 1)
name_further row name items k d same within other past =
    below_more (λ i. (n : ℤ) → slice_get (number_names row) i ≡ Some (n, name) → ⊥) k past
    (λ n at. other (ap name_of (sym (named_at row items k d same within) ∙ at)))
  where
    name_of : Option (ℤ × List ℕ) → List ℕ
    name_of (Some n) = n.1
    name_of None = []

-- a row in which no number has the name
pub name_absent : (row name : List ℕ) (items : List (ℤ × Bor (List ℕ))) (k : ℕ) → map named items ≡ number_names row → length items ≤ k → IsPast row name k → (n : ℤ) → number_name row n ≡ Some name → ⊥
name_absent row name items k same end past n e =
    let there = number_there row n name e in
    let within = slice_get_within (number_names row) there.0 (n, name) there.1 in
    past there.0 (omega (arith, within, ap length same, length-map items named, end)) n there.1

-- ---- the number of bits

count_fits : (n : ℕ) → n < 2 ^ 63 → FitsSigned w64 (pos n)
count_fits n h = grind arith

-- a whole number of more than 64 bits is no number of bits
pub too_long : (text : List ℕ) → IsTrue (is_whole text) × ((z : ℤ) → FitsSigned w64 z → text ≡ signed_decimal z → ⊥) → IsCountFault text BuildCause.NumberTooLong
too_long text h = inr (refl, h.0, λ n below same. h.1 (pos n) (count_fits n below) same)

-- a number below 0 is no number of bits
pub below_zero : (text : List ℕ) (z : ℤ) → FitsSigned w64 z → text ≡ signed_decimal z → z <ℤ pos 0 → IsCountFault text BuildCause.NumberTooLong
below_zero text z fits is below =
    inr (
      refl,
      subst (λ t. IsTrue (is_whole t)) (sym is) (number_is_whole z fits),
      λ n small same.
          let q : z ≡ pos n = number_once z (pos n) fits (count_fits n small) (sym is ∙ same) in
          absurd (omega (arith, ints, subst (λ x. x <ℤ pos 0) q below)),
    )

-- ---- INTEGER and ENUMERATED

bounded : (z : ℤ) → FitsSigned w64 z → (neg_ℤ (pos 9_223_372_036_854_775_808) ≤ℤ z) × (z ≤ℤ pos 9_223_372_036_854_775_807)
bounded (pos n) h = (omega (arith, ints), omega (arith, ints, h))
bounded (negsuc n) h = (omega (arith, ints, h), omega (arith, ints))

-- the normal content of a number of 64 bits holds it
whole_held : (p : Profile) (z : ℤ) → FitsSigned w64 z → Holds p integer (whole z) (normal_content (whole z))
whole_held p z fits = let some = (whole_bounds p z).1 (bounded z fits) in normal_holds p integer (whole z) some.0 some.1

-- what is read of a whole number: its normal content, and this tag
abbrev pub IsWholeRead : List ℕ → ℕ → Json → LeafContents → Type 0
IsWholeRead row tag j read = (z : ℤ) × FitsSigned w64 z × LeafSays row j (whole z) × (read.octets.items ≡ normal_content (whole z)) × (read.number ≡ tag)

-- a whole number is read as an INTEGER
pub integer_read : (p : Profile) (row : List ℕ) (j : Json) (read : LeafContents) → IsWholeRead row 2 j read → ReadsLeaf p (Kind.Leaf LeafKind.Integer) row j read.number read.octets.items
integer_read p row j read h = (whole h.0, integer, refl, whole_held p h.0 h.1, h.2, h.3, h.4)

-- and as an ENUMERATED
pub enumerated_read : (p : Profile) (row : List ℕ) (j : Json) (read : LeafContents) → IsWholeRead row 10 j read → ReadsLeaf p (Kind.Leaf LeafKind.Enumerated) row j read.number read.octets.items
enumerated_read p row j read h = (whole h.0, enumerated, refl, whole_held p h.0 h.1, h.2, h.3, h.4)

-- the number is refused beside a name
pub number_refused : (row : List ℕ) (j : Json) → number_names row ≢ [] → IsObjectOf (of_names (codes "number" ∷ codes "name" ∷ [])) j → (cause : BuildCause) (path : List Step)
    → IsMemberFault (codes "number") (λ k. IsFaultOf (as_number k) IsNumberFault) j cause path → IsWholeFault row j cause path
number_refused row (object ms) names named cause path f = inr (names, later_fault (of_names (codes "number" ∷ codes "name" ∷ [])) (object ms) cause path _ named (inl f))
number_refused row _ names named cause path f = absurd named

-- the name is refused beside a number
pub name_refused : (row : List ℕ) (j : Json) (z : ℤ) → number_names row ≢ [] → IsObjectOf (of_names (codes "number" ∷ codes "name" ∷ [])) j → FitsSigned w64 z → get (codes "number") j ≡ Some (number (signed_decimal z))
    → (cause : BuildCause) (path : List Step) → IsMemberFault (codes "name") (λ k. IsFaultOf (as_str k) (λ text c. (number_name row z ≢ Some text) × (c ≡ BuildCause.OtherName))) j cause path → IsWholeFault row j cause path
name_refused row (object ms) z names named fits at cause path f = inr (names, later_fault (of_names (codes "number" ∷ codes "name" ∷ [])) (object ms) cause path _ named (inr (z, fits, at, f)))
name_refused row _ z names named fits at cause path f = absurd named

-- ---- bits that are 0

-- the last octet is the one that is cleared
clear_at : (u : ℕ) (xs : List ℕ) (i x : ℕ) → suc i ≡ length xs → slice_get xs i ≡ Some x → slice_get (cleared_last u xs) i ≡ Some (cleared u x)
clear_at u [] i x e at = absurd cc
clear_at u (a ∷ []) zero x e at = let q : a ≡ x = cc in ap (λ y. Some (cleared u y)) q
clear_at u (a ∷ []) (suc i) x e at = absurd cc
clear_at u (a ∷ b ∷ xs) zero x e at = absurd (omega (arith, e))
clear_at u (a ∷ b ∷ xs) (suc i) x e at = clear_at u (b ∷ xs) i x (omega (arith, e)) at

clear_last : (u : ℕ) (xs : List ℕ) (i x : ℕ) → suc i ≡ length xs → slice_get xs i ≡ Some x → cleared u x ≡ x → cleared_last u xs ≡ xs
clear_last u [] i x e at h = refl
clear_last u (a ∷ []) zero x e at h = let q : a ≡ x = cc in ap (λ y. y ∷ []) (ap (cleared u) q ∙ h ∙ sym q)
clear_last u (a ∷ []) (suc i) x e at h = absurd cc
clear_last u (a ∷ b ∷ xs) zero x e at h = absurd (omega (arith, e))
clear_last u (a ∷ b ∷ xs) (suc i) x e at h = ap (λ ys. a ∷ ys) (clear_last u (b ∷ xs) i x (omega (arith, e)) at h)

last_place : (xs : List ℕ) (x : ℕ) → slice_get xs (length xs - 1) ≡ Some x → suc (length xs - 1) ≡ length xs
last_place xs x at = let q = slice_get_within xs (length xs - 1) x at in omega (arith, q)

-- the bits of an octet, of which those that are cleared fit it
octet_cleared : (u x : ℕ) → x < 256 → x / 2 ^ u * 2 ^ u % 256 ≡ cleared u x
octet_cleared u x h = let q = div-mul-le_self x (2 ^ u) in omega (arith, q, h)

same_octet : (a b : ℕ) → nat_eq a b ≡ true → a ≡ b
same_octet a b h = grind (arith, nat_tests)

other_octet : (a b : ℕ) → nat_eq a b ≡ false → a ≡ b → ⊥
other_octet a b h e = grind (arith, nat_tests)

-- octets are as they are with bits cleared, if the last one is
pub is_cleared : (u x : ℕ) (xs : List ℕ) → slice_get xs (length xs - 1) ≡ Some x → x < 256 → nat_eq (x / 2 ^ u * 2 ^ u % 256) x ≡ true → cleared_last u xs ≡ xs
is_cleared u x xs at small h = clear_last u xs (length xs - 1) x (last_place xs x at) at (sym (octet_cleared u x small) ∙ same_octet _ x h)

-- and only then
pub not_cleared : (u x : ℕ) (xs : List ℕ) → slice_get xs (length xs - 1) ≡ Some x → x < 256 → nat_eq (x / 2 ^ u * 2 ^ u % 256) x ≡ false → cleared_last u xs ≡ xs → ⊥
not_cleared u x xs at small h e =
    let q : Some (cleared u x) ≡ Some x = sym (clear_at u xs (length xs - 1) x (last_place xs x at) at) ∙ ap (λ ys. slice_get ys (length xs - 1)) e ∙ at in
    let same : cleared u x ≡ x = cc in
    other_octet _ x h (octet_cleared u x small ∙ same)

-- ---- BIT STRING

more_octets : (u : ℕ) (o : List ℕ) → u < 256 → IsTrue (are_octets o) → IsTrue (are_octets (u ∷ o))
more_octets u o small are = let q : nat_lt u 256 ≡ true = grind (arith, nat_tests) in rw q are

unused_fit : (n u : ℕ) (o : List ℕ) → 8 * length o ≡ n + u → u ≤ 7 → is_bits (u ∷ o) ≡ true
unused_fit n u [] e under = let q : u ≡ 0 = omega (arith, e) in ap (λ x. nat_eq x 0) q
unused_fit n u (a ∷ o) e under = grind (arith, nat_tests)

held_at : (p : Profile) (n u : ℕ) (o : List ℕ) → IsTrue (are_octets o) → 8 * length o ≡ n + u → u ≤ 7 → cleared_last u o ≡ o → Holds p bit_string (bits n o) (u ∷ o)
held_at p n u o are e under clear = (
  more_octets u o (omega (arith, under)) are,
  ap (λ (b : Bool). if b then None else Some LeafFault.BadBits) (unused_fit n u o e under),
  let q : n ≡ 8 * length o - u = omega (arith, e) in ap₂ bits q (sym clear),
)

-- bits that fill the octets but for at most seven, which are 0
bits_held : (p : Profile) (n u : ℕ) (o : List ℕ) → IsTrue (are_octets o) → 8 * length o ≡ n + u → u ≤ 7 → cleared_last u o ≡ o → Holds p bit_string (bits n o) (normal_content (bits n o)) × (normal_content (bits n o) ≡ u ∷ o)
bits_held p n u o are e under clear =
    let q : 8 * length o - n ≡ u = omega (arith, e) in
    (subst (λ x. Holds p bit_string (bits n o) (x ∷ o)) (sym q) (held_at p n u o are e under clear), ap (λ x. x ∷ o) q)

few : (u : ℕ) (o : List ℕ) → is_bits (u ∷ o) ≡ true → u ≤ 7
few u [] h = let q = same_octet u 0 h in omega (arith, q)
few u (a ∷ o) h = grind (arith, nat_tests)

tested : (b : Bool) → (if b then None else Some LeafFault.BadBits) ≡ None → b ≡ true
tested true e = refl
tested false e = absurd cc

abbrev bits_of : Simple → ℕ × List ℕ
bits_of (bits n o) = (n, o)
bits_of _ = (0, [])

-- and no other bits have a content
bits_unheld : (p : Profile) (n : ℕ) (o : List ℕ) → ((u : ℕ) → 8 * length o ≡ n + u → u ≤ 7 → cleared_last u o ≡ o → ⊥) → Holds p bit_string (bits n o) (normal_content (bits n o)) → ⊥
bits_unheld p n o none h =
    let u = 8 * length o - n in
    let are : is_bits (u ∷ o) ≡ true = tested (is_bits (u ∷ o)) h.1 in
    let count : n ≡ 8 * length o - u = ap (λ (v : Simple). (bits_of v).0) h.2 in
    let same : o ≡ cleared_last u o = ap (λ (v : Simple). (bits_of v).1) h.2 in
    let within = few_unused u o are in
    none u (omega (arith, count, within)) (few u o are) (sym same)

-- a number of bits and hexadecimal say a BIT STRING
pub bits_read : (p : Profile) (row : List ℕ) (j : Json) (n u : ℕ) (o octets : List ℕ) → IsObjectOf (of_names (codes "bits" ∷ codes "octets" ∷ [])) j → n < 2 ^ 63 → get (codes "bits") j ≡ Some (number (decimal n))
    → IsTrue (are_octets o) → get (codes "octets") j ≡ Some (string (hexadecimal o)) → 8 * length o ≡ n + u → u ≤ 7 → cleared_last u o ≡ o → octets ≡ u ∷ o → ReadsLeaf p (Kind.Leaf LeafKind.BitString) row j 3 octets
bits_read p row j n u o octets named small count are at e under clear is =
    let h = bits_held p n u o are e under clear in
    (bits n o, bit_string, refl, h.0, (small, (named, count, at)), is ∙ sym h.1, refl)

-- the octets are refused beside a number of bits
pub octets_refused : (p : Profile) (j : Json) (n : ℕ) → IsObjectOf (of_names (codes "bits" ∷ codes "octets" ∷ [])) j → n < 2 ^ 63 → get (codes "bits") j ≡ Some (number (decimal n)) → (cause : BuildCause) (path : List Step)
    → IsMemberFault (codes "octets") (λ k. IsFaultOf (as_str k) IsHexadecimalFault) j cause path → IsBitsFault p j cause path
octets_refused p j n named small count cause path f = later_fault (of_names (codes "bits" ∷ codes "octets" ∷ [])) j cause path _ named (inr (n, small, count, inl f))

-- and the bits beside octets that have others
pub bits_refused : (p : Profile) (j : Json) (n : ℕ) (o : List ℕ) → IsObjectOf (of_names (codes "bits" ∷ codes "octets" ∷ [])) j → n < 2 ^ 63 → get (codes "bits") j ≡ Some (number (decimal n)) → IsTrue (are_octets o)
    → get (codes "octets") j ≡ Some (string (hexadecimal o)) → ((u : ℕ) → 8 * length o ≡ n + u → u ≤ 7 → cleared_last u o ≡ o → ⊥) → IsBitsFault p j BuildCause.BadBits []
bits_refused p j n o named small count are at none =
    later_fault (of_names (codes "bits" ∷ codes "octets" ∷ [])) j BuildCause.BadBits [] _ named (inr (n, small, count, inr (o, are, at, bits_unheld p n o none, refl, refl)))
