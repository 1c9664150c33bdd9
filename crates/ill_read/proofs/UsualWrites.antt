-- Octets that were written from one offset to another.
use Rattle.std.proofs.Common.{◌≡◌, ◌∙◌, ℕ, ◌+◌, ◌-◌, ◌≤◌, List, [], ◌++◌, get_or, length, length-append, take, drop, IsTrue, false, ◌∷◌, ◌<◌, refl, sym, ap, ap₂, subst, arith, rules}
use Rattle.std.proofs.Math.Seq.{take-add}
use Rattle.std.proofs.lemmas.List.{drop-drop, length-drop, take-append-drop, length-take-le, drop-take, take-take, take_all, take_at}
use Rattle.std.proofs.lemmas.Simd.{put_chunk_whole}
use lib.Lanes.{chunk, put_chunk}
use Rattle.std.proofs.lemmas.List.Edits.{between_more, between_none, length-between}
use Rattle.std.proofs.lemmas.Slice.{between_is, overwrites, take-put_mid_below, between-put_mid}
use Rattle.std.specs.List.{between}
use borrow.Rule.Slice.PartMut.{put_mid}
use Rattle.ber_core.proofs.ReadOctets.{octets_left, octets_right, read_is_length}
use Rattle.ber_core.specs.HeaderRead.{IsLengthRead}
use Rattle.ber_core.specs.Reading.{read_length}
use Rattle.ber_core.specs.declared.header.Len.TheVariants.{Definite}
use Rattle.ber_core.specs.declared.header_read.LengthRead.TheVariants.{Whole}
use Rattle.ber_tree.specs.Length.{IsLength}
use Rattle.ber_tree.specs.Length as lengths
use Rattle.ber_tree.specs.Octets.{are_octets}
use Rattle.ill_read.specs.code.Usual.{Puts}

-- octets between two offsets, in two parts
pub between_split : (xs : List ℕ) (a b c : ℕ) → a ≤ b → b ≤ c → between a c xs ≡ between a b xs ++ between b c xs
between_split xs a b c ab bc =
    let n : c - a ≡ b - a + (c - b) = omega arith in
    let m : a + (b - a) ≡ b = omega arith in
    ap (λ k. take k (drop a xs)) n ∙ take-add (b - a) (c - b) (drop a xs)
    ∙ ap (λ ys. take (b - a) (drop a xs) ++ take (c - b) ys) (drop-drop (b - a) a xs ∙ ap (λ k. drop k xs) m)

-- what stands before an offset, by what was kept before it
pub between_kept : (xs ys : List ℕ) (a b : ℕ) → take b ys ≡ take b xs → between a b ys ≡ between a b xs
between_kept xs ys a b e = between_is ys a b ∙ ap (drop a) e ∙ sym (between_is xs a b)

-- the first of these octets
pub between_less : (xs : List ℕ) (a n m : ℕ) → n ≤ m → between a (a + n) xs ≡ take n (between a (a + m) xs)
between_less xs a n m le =
    let i : a + n - a ≡ n = omega arith in
    let j : a + m - a ≡ m = omega arith in
    ap (λ k. take k (drop a xs)) i ∙ sym (take-take n m (drop a xs) le) ∙ ap (λ k. take n (take k (drop a xs))) (sym j)

pub kept_before : (xs ys : List ℕ) (a b : ℕ) → a ≤ b → take b ys ≡ take b xs → take a ys ≡ take a xs
kept_before xs ys a b le e = sym (take-take a b ys le) ∙ ap (take a) e ∙ take-take a b xs le

-- octets and then others
pub puts_then : (xs ys zs : List ℕ) (a b c : ℕ) (v w : List ℕ) → Puts xs ys a b v → Puts ys zs b c w → Puts xs zs a c (v ++ w)
puts_then xs ys zs a b c v w h k = record {
  room = k.room ∙ h.room;
  forward = (omega (arith, h.forward.0, k.forward.0), k.forward.1);
  before = kept_before ys zs a b h.forward.0 k.before ∙ h.before;
  put = between_split zs a b c h.forward.0 k.forward.0 ∙ ap₂ (λ s t. s ++ t) (between_kept ys zs a b k.before ∙ h.put) k.put;
}

-- others in their place
pub puts_over : (xs ys zs : List ℕ) (a b c : ℕ) (v w : List ℕ) → Puts xs ys a b v → Puts ys zs a c w → Puts xs zs a c w
puts_over xs ys zs a b c v w h k = record { room = k.room ∙ h.room; forward = k.forward; before = k.before ∙ h.before; put = k.put }

-- the first of them alone
pub puts_less : (xs ys : List ℕ) (a n m : ℕ) (w : List ℕ) → n ≤ m → Puts xs ys a (a + m) w → Puts xs ys a (a + n) (take n w)
puts_less xs ys a n m w le h = record {
  room = h.room;
  forward = (omega arith, omega (arith, h.forward.1, le));
  before = h.before;
  put = between_less ys a n m le ∙ ap (take n) h.put;
}

-- nothing
pub puts_none : (xs : List ℕ) (a : ℕ) → a ≤ length xs → Puts xs xs a a []
puts_none xs a le = record { room = refl; forward = (omega arith, le); before = refl; put = ap (λ n. take n (drop a xs)) (let z : a - a ≡ 0 = omega arith in z) }

-- a part of a list that was written anew
pub puts_part : (xs ys : List ℕ) (a k : ℕ) → a + k ≤ length xs → length ys ≡ k → Puts xs (put_mid a k xs ys) a (a + k) ys
puts_part xs ys a k le long = record {
  room = search (rules, overwrites);
  forward = (omega arith, search (rules, overwrites));
  before = take-put_mid_below a k xs ys a (omega arith) (omega (arith, le));
  put = between-put_mid a k xs ys (a + k) (omega (arith, le)) (omega (arith, long));
}

-- the octets that were written, by any name
pub puts_as : (xs ys : List ℕ) (a b c : ℕ) (v w : List ℕ) → Puts xs ys a b v → b ≡ c → v ≡ w → Puts xs ys a c w
puts_as xs ys a b c v w h e f = subst (λ z. Puts xs ys a c z) f (subst (λ k. Puts xs ys a k v) e h)

-- a block of octets that is loaded and stored
pub puts_block : (octets xs : List ℕ) (at to n : ℕ) → at + n ≤ length octets → to + n ≤ length xs
    → Puts xs (put_mid to (to + n - to) xs (put_chunk 0 (take (to + n - to) (drop to xs)) (chunk 0 n (take (at + n - at) (drop at octets))))) to (to + n) (between at (at + n) octets)
puts_block octets xs at to n there room =
    let k = to + n - to in
    let width : k ≡ n = omega arith in
    let lanes = chunk 0 n (between at (at + n) octets) in
    let few : length (between at (at + n) octets) ≤ n = omega (arith, length-between octets at (at + n) there) in
    let is : lanes ≡ between at (at + n) octets = take_all n (between at (at + n) octets) few in
    let long : length lanes ≡ n = ap length is ∙ length-between octets at (at + n) there ∙ (let m : at + n - at ≡ n = omega arith in m) in
    let whole = put_chunk_whole (take k (drop to xs)) lanes (length-take-le k (drop to xs) (omega (arith, length-drop to xs)) ∙ width ∙ sym long) in
    subst (λ ys. Puts xs (put_mid to k xs ys) to (to + n) (between at (at + n) octets)) (sym (whole ∙ is))
    (puts_as xs (put_mid to k xs (between at (at + n) octets)) to (to + k) (to + n) _ _ (puts_part xs (between at (at + n) octets) to k (omega arith) (sym (ap length is) ∙ long ∙ sym width)) (ap (λ j. to + j) width) refl)

-- a part of octets
pub between_octets : (xs : List ℕ) (a b : ℕ) → IsTrue (are_octets xs) → IsTrue (are_octets (between a b xs))
between_octets xs a b ok =
    let rest = octets_right (take a xs) (drop a xs) (subst (λ z. IsTrue (are_octets z)) (sym (take-append-drop a xs)) ok) in
    octets_left (take (b - a) (drop a xs)) (drop (b - a) (drop a xs)) (subst (λ z. IsTrue (are_octets z)) (sym (take-append-drop (b - a) (drop a xs))) rest)

pub one_octet : (xs : List ℕ) (i : ℕ) → i < length xs → between i (i + 1) xs ≡ get_or xs i 0 ∷ []
one_octet xs i lt = between_more xs i i 0 (omega arith) lt ∙ ap (λ ys. ys ++ get_or xs i 0 ∷ []) (between_none xs i)

pub two_octets : (xs : List ℕ) (i : ℕ) → i + 1 < length xs → between i (i + 2) xs ≡ get_or xs i 0 ∷ get_or xs (i + 1) 0 ∷ []
two_octets xs i lt =
    let next : i + 1 + 1 ≡ i + 2 = omega arith in
    ap (λ k. between i k xs) (sym next) ∙ between_more xs i (i + 1) 0 (omega arith) lt ∙ ap (λ ys. ys ++ get_or xs (i + 1) 0 ∷ []) (one_octet xs i (omega (arith, lt)))

-- a part of a part
pub between_inside : (xs : List ℕ) (a b k : ℕ) → k ≤ b - a → between 1 k (between a b xs) ≡ between (a + 1) (a + k) xs
between_inside xs a b k le =
    between_is (between a b xs) 1 k ∙ ap (drop 1) (take-take k (b - a) (drop a xs) le ∙ sym (drop-take a k xs)) ∙ drop-drop 1 a (take (a + k) xs) ∙ sym (between_is xs (a + 1) (a + k))

length_some : (n : ℕ) (os : List ℕ) → IsLength n os → 1 ≤ length os
length_some n os (lengths.short h) = omega arith
length_some n os (lengths.long h k a e) = omega arith

-- a length that was read behind an octet
pub length_read : (w : List ℕ) (held k : ℕ) → IsTrue (are_octets w) → IsLengthRead (Whole (Definite held) k) (read_length false (drop 1 w)) w → (1 < k) × (k ≤ length w) × (held ≤ 1_048_576 → IsLength held (between 1 k w))
length_read w held k ok read =
    let n = read.2.0 in
    let right : IsTrue (are_octets (drop 1 w)) = octets_right (take 1 w) (drop 1 w) (subst (λ z. IsTrue (are_octets z)) (sym (take-append-drop 1 w)) ok) in
    let whole = read_is_length false (drop 1 w) n (drop k w) right read.2.1 in
    let some : 1 ≤ length whole.0 = length_some n whole.0 whole.1 in
    let count : length whole.0 + (length w - k) ≡ length w - 1 = omega (arith, ap length whole.2, length-append whole.0 (drop k w), length-drop k w, length-drop 1 w) in
    let is : between 1 k w ≡ whole.0 = ap (take (k - 1)) whole.2 ∙ take_at whole.0 (drop k w) (k - 1) (omega (arith, count, read.1, some)) in (
      omega (arith, count, some, read.1),
      read.1,
      λ few.
          let same : n ≡ held = omega (arith, read.2.2, few) in
          subst (λ x. IsLength held x) (sym is) (subst (λ m. IsLength m whole.0) same whole.1),
    )

-- what stands there already
pub puts_kept : (xs : List ℕ) (a b : ℕ) → a ≤ b → b ≤ length xs → Puts xs xs a b (between a b xs)
puts_kept xs a b le few = record { room = refl; forward = (le, few); before = refl; put = refl }
