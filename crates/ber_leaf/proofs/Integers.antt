-- The octets of integers: the number that octets hold, and the octets that DER takes for a number.
use Rattle.std.proofs.Common.{◌≡◌, ◌≤◌, ◌<◌, ℕ, zero, suc, ◌+◌, ◌-◌, ◌*◌, ◌/◌, ◌%◌, ◌^◌, ℤ, pos, negsuc, neg_ℤ, ◌≤ℤ◌, ◌↔◌, Bool, true, false, ◌&&◌, ◌||◌, nat_lt, List, [], ◌∷◌, ◌++◌, length, Some, None, IsTrue, refl, sym, ap, ap₂, subst, ◌∙◌, arith, inl, inr, append_assoc, append-nil, replicate, w64, length-append, lt-ltb, le-ltb, ltb-true, ltb-false}
use Rattle.std.specs.Prelude.{if◌then◌else◌, nat_le, nat_eq}
use Rattle.std.specs.Int.{from_be_bytes, cast_signed}
use Rattle.std.specs.Int.Digits.{number_from_digits, number_from_digits_after, AllBelowBase}
use Rattle.std.proofs.Math.Nat.{pow-succ', pow-le-pow_right, mul-le-mul_left}
use Rattle.std.proofs.lemmas.Bool.{cases_lt}
use Rattle.std.proofs.lemmas.Int.{ints, to_z_pos}
use Rattle.std.proofs.lemmas.Int.Digits.{number_lt, number_push}
use Rattle.std.proofs.lemmas.List.{length-replicate}
use Rattle.std.proofs.lemmas.List.Folds.{list_all-append}
use Rattle.ber_leaf.specs.declared.fault.LeafFault.{LeafFault}
use Rattle.ber_leaf.specs.Simple.{whole}
use Rattle.ber_tree.specs.Octets.{are_octets}
use Rattle.ber_leaf.specs.Leaf.{integer, normal_content, Holds, integer_of, content_fault, big_endian, octet_count, is_padded}
use Rattle.ber_leaf.specs.code.Sign.{magnitude, sign_octet}
use Rattle.ber_leaf.specs.Profile.{Profile}
use Rattle.ber_tree.proofs.Lists.{two_cases}

pub and_parts : (a b : Bool) → IsTrue (a && b) → IsTrue a × IsTrue b
and_parts true b h = (refl, h)
and_parts false b h = absurd (cc)

pub small : (a : ℕ) (r : List ℕ) → IsTrue (are_octets (a ∷ r)) → (a < 256) × IsTrue (are_octets r)
small a r h = let p = and_parts _ _ h in (ltb-true _ _ p.0, p.1)

all_small : (ds : List ℕ) → IsTrue (are_octets ds) → AllBelowBase 256 ds
all_small [] h = tt
all_small (d ∷ ds) h = let p = small d ds h in (p.0, all_small ds p.1)

-- octets are read back from the number that they are
big_endian-after : (ds : List ℕ) → IsTrue (are_octets ds) → (j n : ℕ) → big_endian (length ds + j) (number_from_digits_after 256 n ds) ≡ big_endian j n ++ ds
big_endian-after [] h j n = ap (λ (k : ℕ). big_endian k n) (let e : 0 + j ≡ j = omega arith in e) ∙ sym (append-nil (big_endian j n))
big_endian-after (d ∷ ds) h j n =
    let p = small d ds h in
    let e : suc (length ds) + j ≡ length ds + suc j = omega arith in
    let q : (n * 256 + d) / 256 ≡ n = omega (arith, p.0) in
    let r : (n * 256 + d) % 256 ≡ d = omega (arith, p.0) in
    ap (λ (k : ℕ). big_endian k (number_from_digits_after 256 (n * 256 + d) ds)) e
    ∙ big_endian-after ds p.1 (suc j) (n * 256 + d)
    ∙ ap₂ (λ (m x : ℕ). (big_endian j m ++ (x ∷ [])) ++ ds) q r
    ∙ append_assoc (big_endian j n) (d ∷ []) ds

read_back : (ds : List ℕ) → IsTrue (are_octets ds) → big_endian (length ds) (number_from_digits 256 ds) ≡ ds
read_back ds h = ap (λ (k : ℕ). big_endian k (number_from_digits 256 ds)) (let e : length ds ≡ length ds + 0 = omega arith in e) ∙ big_endian-after ds h 0 0

not_padded : (u v : Bool) → (if u then Some LeafFault.BadInteger else (if v then None else Some LeafFault.IntegerTooLong)) ≡ None → (u ≡ false) × (v ≡ true)
not_padded true v e = absurd cc
not_padded false true e = (refl, refl)
not_padded false false e = absurd cc

or_false : (u v : Bool) → u || v ≡ false → (u ≡ false) × (v ≡ false)
or_false true v e = absurd cc
or_false false v e = (refl, e)

low_part : (a b : ℕ) → (nat_eq a 0 && nat_lt b 128) ≡ false → 128 ≤ 256 * a + b
low_part a b e = grind arith

high_part : (a b : ℕ) → a < 256 → b < 256 → (nat_eq a 255 && nat_le 128 b) ≡ false → 256 * a + b < 65_408
high_part a b h k e = grind arith

count_1 : (n : ℕ) → n < 128 → octet_count n ≡ 1
count_1 n k = rw (lt-ltb n 128 k) refl

count_2 : (n : ℕ) → 128 ≤ n → n < 32768 → octet_count n ≡ 2
count_2 n h k = rw (le-ltb n 128 (omega (arith, h))) (rw (lt-ltb n 32768 k) refl)

count_3 : (n : ℕ) → 32768 ≤ n → n < 8388608 → octet_count n ≡ 3
count_3 n h k = rw (le-ltb n 128 (omega (arith, h))) (rw (le-ltb n 32768 (omega (arith, h))) (rw (lt-ltb n 8388608 k) refl))

count_4 : (n : ℕ) → 8388608 ≤ n → n < 2147483648 → octet_count n ≡ 4
count_4 n h k = rw (le-ltb n 128 (omega (arith, h))) (rw (le-ltb n 32768 (omega (arith, h))) (rw (le-ltb n 8388608 (omega (arith, h))) (rw (lt-ltb n 2147483648 k) refl)))

count_5 : (n : ℕ) → 2147483648 ≤ n → n < 549755813888 → octet_count n ≡ 5
count_5 n h k = rw (le-ltb n 128 (omega (arith, h))) (rw (le-ltb n 32768 (omega (arith, h))) (rw (le-ltb n 8388608 (omega (arith, h))) (rw (le-ltb n 2147483648 (omega (arith, h))) (rw (lt-ltb n 549755813888 k) refl))))

count_6 : (n : ℕ) → 549755813888 ≤ n → n < 140737488355328 → octet_count n ≡ 6
count_6 n h k = rw (le-ltb n 128 (omega (arith, h))) (rw (le-ltb n 32768 (omega (arith, h))) (rw (le-ltb n 8388608 (omega (arith, h))) (rw (le-ltb n 2147483648 (omega (arith, h))) (rw (le-ltb n 549755813888 (omega (arith, h))) (rw (lt-ltb n 140737488355328 k) refl)))))

count_7 : (n : ℕ) → 140737488355328 ≤ n → n < 36028797018963968 → octet_count n ≡ 7
count_7 n h k = rw (le-ltb n 128 (omega (arith, h))) (rw (le-ltb n 32768 (omega (arith, h))) (rw (le-ltb n 8388608 (omega (arith, h))) (rw (le-ltb n 2147483648 (omega (arith, h))) (rw (le-ltb n 549755813888 (omega (arith, h))) (rw (le-ltb n 140737488355328 (omega (arith, h))) (rw (lt-ltb n 36028797018963968 k) refl))))))

count_8 : (n : ℕ) → 36028797018963968 ≤ n → octet_count n ≡ 8
count_8 n h = rw (le-ltb n 128 (omega (arith, h))) (rw (le-ltb n 32768 (omega (arith, h))) (rw (le-ltb n 8388608 (omega (arith, h))) (rw (le-ltb n 2147483648 (omega (arith, h))) (rw (le-ltb n 549755813888 (omega (arith, h))) (rw (le-ltb n 140737488355328 (omega (arith, h))) (rw (le-ltb n 36028797018963968 (omega (arith, h))) refl))))))

-- n takes more than j octets of two's complement, or j is 0
abbrev Needs : ℕ → ℕ → Type 0
Needs zero n = Unit {0}
Needs (suc i) n = 128 * 256 ^ i ≤ n

count_is : (j n : ℕ) → j ≤ 7 → n < 128 * 256 ^ j → Needs j n → octet_count n ≡ suc j
count_is zero n le lt h = count_1 n lt
count_is (suc zero) n le lt h = count_2 n h lt
count_is (suc (suc zero)) n le lt h = count_3 n h lt
count_is (suc (suc (suc zero))) n le lt h = count_4 n h lt
count_is (suc (suc (suc (suc zero)))) n le lt h = count_5 n h lt
count_is (suc (suc (suc (suc (suc zero))))) n le lt h = count_6 n h lt
count_is (suc (suc (suc (suc (suc (suc zero)))))) n le lt h = count_7 n h lt
count_is (suc (suc (suc (suc (suc (suc (suc zero))))))) n le lt h = count_8 n h
count_is (suc (suc (suc (suc (suc (suc (suc (suc j)))))))) n le lt h = absurd (omega (arith, le))

-- the least count that does
count_of : (j n : ℕ) → j ≤ 7 → n < 128 * 256 ^ j → (i : ℕ) × (i ≤ 7) × (n < 128 * 256 ^ i) × Needs i n
count_of zero n le lt = (0, omega arith, lt, tt)
count_of (suc j) n le lt = elim (cases_lt n (128 * 256 ^ j)) [ inl h ↦ count_of j n (omega (arith, le)) h | inr h ↦ (suc j, le, lt, h) ]

-- a number that digits go on, by the weight of what stood there
number-after : (n : ℕ) (ds : List ℕ) → number_from_digits_after 256 n ds ≡ n * 256 ^ length ds + number_from_digits 256 ds
number-after n [] = omega arith
number-after n (d ∷ ds) =
    let p = ap (λ (x : ℕ). n * x) (pow-succ' 256 (length ds)) in
    omega (arith, p, number-after (n * 256 + d) ds, number-after (0 * 256 + d) ds)

number-cons : (a : ℕ) (r : List ℕ) → number_from_digits 256 (a ∷ r) ≡ a * 256 ^ length r + number_from_digits 256 r
number-cons a r = omega (arith, number-after (0 * 256 + a) r)

-- the first bit of octets says in which half their number lies
low_half : (a : ℕ) (r : List ℕ) → IsTrue (are_octets (a ∷ r)) → a < 128 → number_from_digits 256 (a ∷ r) < 128 * 256 ^ length r
low_half a r h lt =
    let s = small a r h in
    omega (arith, number-cons a r, number_lt 256 r (all_small r s.1), mul-le-mul_left {m = a} {n = 127} (256 ^ length r) (omega (arith, lt)))

high_half : (a : ℕ) (r : List ℕ) → 128 ≤ a → 128 * 256 ^ length r ≤ number_from_digits 256 (a ∷ r)
high_half a r ge = omega (arith, number-cons a r, mul-le-mul_left {m = 128} {n = a} (256 ^ length r) ge)

-- octets that aren't padded are no more than their number needs
needs_low : (a : ℕ) (r : List ℕ) → is_padded (a ∷ r) ≡ false → Needs (length r) (number_from_digits 256 (a ∷ r))
needs_low a [] u = tt
needs_low a (b ∷ s) u =
    let w = low_part a b ((or_false (nat_eq a 0 && nat_lt b 128) (nat_eq a 255 && nat_le 128 b) u).0) in
    let p = ap (λ (x : ℕ). a * x) (pow-succ' 256 (length s)) in
    omega (arith, p, number-cons a (b ∷ s), number-cons b s, mul-le-mul_left {m = 128} {n = 256 * a + b} (256 ^ length s) w)

needs_high : (a : ℕ) (r : List ℕ) → IsTrue (are_octets (a ∷ r)) → is_padded (a ∷ r) ≡ false → Needs (length r) (256 ^ suc (length r) - 1 - number_from_digits 256 (a ∷ r))
needs_high a [] h u = tt
needs_high a (b ∷ s) h u =
    let q = small a (b ∷ s) h in
    let t = small b s q.1 in
    let w : 256 * a + b < 65408 = high_part a b q.0 t.0 ((or_false (nat_eq a 0 && nat_lt b 128) (nat_eq a 255 && nat_le 128 b) u).1) in
    let p = ap (λ (x : ℕ). a * x) (pow-succ' 256 (length s)) in
    omega (arith, p, pow-succ' 256 (length s), pow-succ' 256 (suc (length s)), number-cons a (b ∷ s), number-cons b s, number_lt 256 s (all_small s t.1), mul-le-mul_left {m = 256 * a + b} {n = 65407} (256 ^ length s) (omega arith))

-- and octets that are no more than their number needs aren't padded
lean_low : (a : ℕ) (r : List ℕ) → IsTrue (are_octets (a ∷ r)) → a < 128 → Needs (length r) (number_from_digits 256 (a ∷ r)) → is_padded (a ∷ r) ≡ false
lean_low a [] h lt n = refl
lean_low a (b ∷ s) h lt n =
    let q = small a (b ∷ s) h in
    let t = small b s q.1 in
    let p = ap (λ (x : ℕ). a * x) (pow-succ' 256 (length s)) in
    elim (cases_lt (256 * a + b) 128) [
      | inl w ↦ absurd (omega (arith, n, p, number-cons a (b ∷ s), number-cons b s, number_lt 256 s (all_small s t.1), mul-le-mul_left {m = 256 * a + b} {n = 127} (256 ^ length s) (omega (arith, w))))
      | inr w ↦ lean_pair_low a b lt w
    ]
  where
    lean_pair_low : (a b : ℕ) → a < 128 → 128 ≤ 256 * a + b → (nat_eq a 0 && nat_lt b 128) || (nat_eq a 255 && nat_le 128 b) ≡ false
    lean_pair_low a b lt w = grind arith

lean_high : (a : ℕ) (r : List ℕ) → IsTrue (are_octets (a ∷ r)) → 128 ≤ a → Needs (length r) (256 ^ suc (length r) - 1 - number_from_digits 256 (a ∷ r)) → is_padded (a ∷ r) ≡ false
lean_high a [] h ge n = refl
lean_high a (b ∷ s) h ge n =
    let q = small a (b ∷ s) h in
    let t = small b s q.1 in
    let p = ap (λ (x : ℕ). a * x) (pow-succ' 256 (length s)) in
    elim (cases_lt (256 * a + b) 65408) [
      | inl w ↦ lean_pair_high a b ge w
      | inr w ↦ absurd (omega (arith, n, p, pow-succ' 256 (length s), pow-succ' 256 (suc (length s)), number-cons a (b ∷ s), number-cons b s, number_lt 256 s (all_small s t.1), mul-le-mul_left {m = 65408} {n = 256 * a + b} (256 ^ length s) w))
    ]
  where
    lean_pair_high : (a b : ℕ) → 128 ≤ a → 256 * a + b < 65408 → (nat_eq a 0 && nat_lt b 128) || (nat_eq a 255 && nat_le 128 b) ≡ false
    lean_pair_high a b ge w = grind arith

-- a content of an integer is the normal content of its number
pub integer_same : (o : List ℕ) → IsTrue (are_octets o) → (p : Profile) → content_fault p integer o ≡ None → normal_content (whole (integer_of o)) ≡ o
integer_same [] h p e = absurd cc
integer_same (a ∷ r) h p e =
    let parts = not_padded (is_padded (a ∷ r)) (nat_le (length (a ∷ r)) 8) e in
    let le : length (a ∷ r) ≤ 8 = grind (arith, parts.1) in
    let n = number_from_digits 256 (a ∷ r) in
    let m = 256 ^ suc (length r) - 1 - n in
    let lt = number_lt 256 (a ∷ r) (all_small (a ∷ r) h) in
    let w = pow-succ' 256 (length r) in
    elim (two_cases (nat_lt a 128)) [
      | inl l ↦
          ap (λ (b : Bool). normal_content (whole (if b then pos n else negsuc m))) l
          ∙ ap (λ (k : ℕ). big_endian k n) (count_is (length r) n (omega (arith, le)) (low_half a r h (ltb-true _ _ l)) (needs_low a r parts.0))
          ∙ read_back (a ∷ r) h
      | inr l ↦
          ap (λ (b : Bool). normal_content (whole (if b then pos n else negsuc m))) l
          ∙ ap (λ (k : ℕ). big_endian k (256 ^ k - 1 - m)) (count_is (length r) m (omega (arith, le)) (omega (arith, w, high_half a r (ltb-false _ _ l))) (needs_high a r h parts.0))
          ∙ ap (λ (x : ℕ). big_endian (length (a ∷ r)) x) (let q : 256 ^ suc (length r) - 1 - m ≡ n = omega (arith, lt) in q)
          ∙ read_back (a ∷ r) h
    ]

pub length-big_endian : (k n : ℕ) → length (big_endian k n) ≡ k
length-big_endian zero n = refl
length-big_endian (suc k) n = omega (arith, length-append (big_endian k (n / 256)) (n % 256 ∷ []), length-big_endian k (n / 256))

-- how many octets the normal content of a number has
pub length-normal : (z : ℤ) → length (normal_content (whole z)) ≡ octet_count (magnitude z)
length-normal (pos n) = length-big_endian (octet_count n) n
length-normal (negsuc n) = length-big_endian (octet_count n) (256 ^ octet_count n - 1 - n)

-- an integer's content has one to eight octets
pub integer_size : (p : Profile) (o : List ℕ) → content_fault p integer o ≡ None → (0 < length o) × (length o ≤ 8)
integer_size p [] e = absurd cc
integer_size p (a ∷ r) e =
    let parts = not_padded (is_padded (a ∷ r)) (nat_le (length (a ∷ r)) 8) e in
    (omega arith, grind (arith, parts.1))

octets-big_endian : (k n : ℕ) → IsTrue (are_octets (big_endian k n))
octets-big_endian zero n = refl
octets-big_endian (suc k) n =
    list_all-append (λ octet. nat_lt octet 256) (big_endian k (n / 256)) (n % 256 ∷ [])
    ∙ ap₂ (λ (b c : Bool). b && (c && true)) (octets-big_endian k (n / 256)) (lt-ltb (n % 256) 256 (omega arith))

number-big_endian : (k n : ℕ) → n < 256 ^ k → number_from_digits 256 (big_endian k n) ≡ n
number-big_endian zero n lt = omega (arith, lt)
number-big_endian (suc k) n lt =
    let w = pow-succ' 256 k in
    omega (arith, number_push 256 (big_endian k (n / 256)) (n % 256), number-big_endian k (n / 256) (omega (arith, lt, w)))

faultless : (p : Profile) (o : List ℕ) → is_padded o ≡ false → length o ≤ 8 → content_fault p integer o ≡ None
faultless p o u le =
    ap₂ (λ (b c : Bool). if b then Some LeafFault.BadInteger else (if c then None else Some LeafFault.IntegerTooLong)) u (let t : nat_le (length o) 8 ≡ true = grind arith in t)

-- octets that are as many as their number needs hold it
held_low : (p : Profile) (o : List ℕ) (j n : ℕ) → IsTrue (are_octets o) → length o ≡ suc j → number_from_digits 256 o ≡ n → j ≤ 7 → n < 128 * 256 ^ j → Needs j n → Holds p integer (whole (pos n)) o
held_low p [] j n h l e le lt need = absurd (omega (arith, l))
held_low p (a ∷ r) j n h l e le lt need =
    let size : j ≡ length r = omega (arith, l) in
    let below : number_from_digits 256 (a ∷ r) < 128 * 256 ^ length r = omega (arith, lt, e, ap (λ (x : ℕ). 256 ^ x) size) in
    let needed = subst (λ (x : ℕ). Needs (length r) x) (sym e) (subst (λ (x : ℕ). Needs x n) size need) in
    elim (cases_lt a 128) [
      | inl l ↦ (h, faultless p (a ∷ r) (lean_low a r h l needed) (omega (arith, le, size)), ap whole (ap pos (sym e) ∙ sym (ap (λ (b : Bool). if b then pos (number_from_digits 256 (a ∷ r)) else negsuc (256 ^ suc (length r) - 1 - number_from_digits 256 (a ∷ r))) (lt-ltb a 128 l))))
      | inr l ↦ absurd (omega (arith, below, high_half a r l))
    ]

held_high : (p : Profile) (o : List ℕ) (j n : ℕ) → IsTrue (are_octets o) → length o ≡ suc j → number_from_digits 256 o ≡ 256 ^ suc j - 1 - n → j ≤ 7 → n < 128 * 256 ^ j → Needs j n → Holds p integer (whole (negsuc n)) o
held_high p [] j n h l e le lt need = absurd (omega (arith, l))
held_high p (a ∷ r) j n h l e le lt need =
    let size : j ≡ length r = omega (arith, l) in
    let weight = ap (λ (x : ℕ). 256 ^ suc x) size in
    let w = pow-succ' 256 j in
    let back : 256 ^ suc (length r) - 1 - number_from_digits 256 (a ∷ r) ≡ n = omega (arith, lt, e, weight, w) in
    let needed = subst (λ (x : ℕ). Needs (length r) x) (sym back) (subst (λ (x : ℕ). Needs x n) size need) in
    elim (cases_lt a 128) [
      | inl l ↦ absurd (omega (arith, low_half a r h l, lt, e, ap (λ (x : ℕ). 256 ^ x) size, weight, w))
      | inr l ↦ (h, faultless p (a ∷ r) (lean_high a r h l needed) (omega (arith, le, size)), ap whole (ap negsuc (sym back) ∙ sym (ap (λ (b : Bool). if b then pos (number_from_digits 256 (a ∷ r)) else negsuc (256 ^ suc (length r) - 1 - number_from_digits 256 (a ∷ r))) (le-ltb a 128 l))))
    ]

-- each number within the bounds is held by its normal content
pub whole_held : (p : Profile) (z : ℤ) → magnitude z < 9_223_372_036_854_775_808 → Holds p integer (whole z) (normal_content (whole z))
whole_held p (pos n) lt =
    let s = count_of 7 n (omega arith) lt in
    let w = pow-succ' 256 s.0 in
    subst (λ (k : ℕ). Holds p integer (whole (pos n)) (big_endian k n)) (sym (count_is s.0 n s.1 s.2 s.3))
    (held_low p (big_endian (suc s.0) n) s.0 n (octets-big_endian (suc s.0) n) (length-big_endian (suc s.0) n) (number-big_endian (suc s.0) n (omega (arith, w, s.2))) s.1 s.2 s.3)
whole_held p (negsuc n) lt =
    let s = count_of 7 n (omega arith) lt in
    let w = pow-succ' 256 s.0 in
    let m = 256 ^ suc s.0 - 1 - n in
    subst (λ (k : ℕ). Holds p integer (whole (negsuc n)) (big_endian k (256 ^ k - 1 - n))) (sym (count_is s.0 n s.1 s.2 s.3))
    (held_high p (big_endian (suc s.0) m) s.0 n (octets-big_endian (suc s.0) m) (length-big_endian (suc s.0) m) (number-big_endian (suc s.0) m (omega (arith, w, s.2))) s.1 s.2 s.3)

-- copies of the sign before a number's octets
zeros : (j : ℕ) (o : List ℕ) → number_from_digits 256 (replicate j 0 ++ o) ≡ number_from_digits 256 o
zeros zero o = refl
zeros (suc j) o = zeros j o

ones : (j : ℕ) (o : List ℕ) → number_from_digits 256 (replicate j 255 ++ o) + 256 ^ length o ≡ 256 ^ (j + length o) + number_from_digits 256 o
ones zero o = let e : 0 + length o ≡ length o = omega arith in omega (arith, ap (λ (x : ℕ). 256 ^ x) e)
ones (suc j) o =
    let size : length (replicate j 255 ++ o) ≡ j + length o = simp (length-append, length-replicate) refl in
    let next : suc j + length o ≡ suc (j + length o) = omega arith in
    omega (arith, ones j o, number-after 255 (replicate j 255 ++ o), ap (λ (x : ℕ). 256 ^ x) size, ap (λ (x : ℕ). 256 ^ x) next, pow-succ' 256 (j + length o))

eight : (o : List ℕ) → length o ≡ 8 → from_be_bytes w64 o ≡ number_from_digits 256 o
eight (a ∷ b ∷ c ∷ d ∷ e ∷ f ∷ g ∷ h ∷ []) l = omega arith
eight _ l = absurd (omega (arith, l))

size_eight : (s : ℕ) (o : List ℕ) → length o ≤ 8 → length (replicate (8 - length o) s ++ o) ≡ 8
size_eight s o le = simp (length-append, length-replicate) (omega (arith, le))

low_value : (a : ℕ) (r : List ℕ) → IsTrue (are_octets (a ∷ r)) → length (a ∷ r) ≤ 8 → a < 128
    → cast_signed w64 (from_be_bytes w64 (replicate (8 - length (a ∷ r)) 0 ++ (a ∷ r))) ≡ pos (number_from_digits 256 (a ∷ r))
low_value a r h le lt =
    let weight = pow-le-pow_right {n = 256} (omega arith) {i = length r} {j = 7} (omega (arith, le)) in
    ap (cast_signed w64) (eight (replicate (8 - length (a ∷ r)) 0 ++ (a ∷ r)) (size_eight 0 (a ∷ r) le) ∙ zeros (8 - length (a ∷ r)) (a ∷ r))
    ∙ to_z_pos w64 (number_from_digits 256 (a ∷ r)) (omega (arith, weight, low_half a r h lt))

to_z_negsuc : (n : ℕ) → 2 ^ 63 ≤ n → cast_signed w64 n ≡ negsuc (2 ^ 64 - suc n)
to_z_negsuc n h = rw (le-ltb n 9_223_372_036_854_775_808 h) refl

high_value : (a : ℕ) (r : List ℕ) → IsTrue (are_octets (a ∷ r)) → length (a ∷ r) ≤ 8 → 128 ≤ a
    → cast_signed w64 (from_be_bytes w64 (replicate (8 - length (a ∷ r)) 255 ++ (a ∷ r))) ≡ negsuc (256 ^ suc (length r) - 1 - number_from_digits 256 (a ∷ r))
high_value a r h le ge =
    let weight = pow-le-pow_right {n = 256} (omega arith) {i = length r} {j = 7} (omega (arith, le)) in
    let whole_size : 8 - length (a ∷ r) + length (a ∷ r) ≡ 8 = omega (arith, le) in
    let m = number_from_digits 256 (replicate (8 - length (a ∷ r)) 255 ++ (a ∷ r)) in
    let worth : m + 256 ^ suc (length r) ≡ 256 ^ 8 + number_from_digits 256 (a ∷ r) = ones (8 - length (a ∷ r)) (a ∷ r) ∙ ap (λ (x : ℕ). 256 ^ x + number_from_digits 256 (a ∷ r)) whole_size in
    let below : number_from_digits 256 (a ∷ r) < 256 ^ suc (length r) = number_lt 256 (a ∷ r) (all_small (a ∷ r) h) in
    ap (cast_signed w64) (eight (replicate (8 - length (a ∷ r)) 255 ++ (a ∷ r)) (size_eight 255 (a ∷ r) le))
    ∙ to_z_negsuc m (omega (arith, worth, below, weight, pow-succ' 256 (length r), high_half a r ge))
    ∙ ap negsuc (let rest : 2 ^ 64 - suc m ≡ 256 ^ suc (length r) - 1 - number_from_digits 256 (a ∷ r) = omega (arith, worth, below) in rest)

-- eight octets hold what the octets after their sign do
pub extended_value : (o : List ℕ) → IsTrue (are_octets o) → 0 < length o → length o ≤ 8
    → cast_signed w64 (from_be_bytes w64 (replicate (8 - length o) (sign_octet o) ++ o)) ≡ integer_of o
extended_value [] h lt le = absurd (omega (arith, lt))
extended_value (a ∷ r) h lt le =
    let n = number_from_digits 256 (a ∷ r) in
    let m = 256 ^ suc (length r) - 1 - n in
    let spread = λ (b : Bool). cast_signed w64 (from_be_bytes w64 (replicate (8 - length (a ∷ r)) (if b then 0 else 255) ++ (a ∷ r))) in
    elim (two_cases (nat_lt a 128)) [
      | inl l ↦ ap spread l ∙ low_value a r h le (ltb-true _ _ l) ∙ sym (ap (λ (b : Bool). if b then pos n else negsuc m) l)
      | inr l ↦ ap spread l ∙ high_value a r h le (ltb-false _ _ l) ∙ sym (ap (λ (b : Bool). if b then pos n else negsuc m) l)
    ]

-- the number that octets hold is within the bounds
whole_within : (p : Profile) (o : List ℕ) → IsTrue (are_octets o) → content_fault p integer o ≡ None → magnitude (integer_of o) < 9_223_372_036_854_775_808
whole_within p [] h e = absurd cc
whole_within p (a ∷ r) h e =
    let size = integer_size p (a ∷ r) e in
    let n = number_from_digits 256 (a ∷ r) in
    let m = 256 ^ suc (length r) - 1 - n in
    let weight = pow-le-pow_right {n = 256} (omega arith) {i = length r} {j = 7} (omega (arith, size.1)) in
    elim (two_cases (nat_lt a 128)) [
      | inl l ↦ subst (λ (b : Bool). magnitude (if b then pos n else negsuc m) < 9_223_372_036_854_775_808) (sym l) (omega (arith, weight, low_half a r h (ltb-true _ _ l)))
      | inr l ↦ subst (λ (b : Bool). magnitude (if b then pos n else negsuc m) < 9_223_372_036_854_775_808) (sym l) (omega (arith, weight, pow-succ' 256 (length r), high_half a r (ltb-false _ _ l)))
    ]

magnitude_bounds : (z : ℤ) → magnitude z < 9_223_372_036_854_775_808 ↔ ((neg_ℤ (pos 9_223_372_036_854_775_808) ≤ℤ z) × (z ≤ℤ pos 9_223_372_036_854_775_807))
magnitude_bounds (pos n) = (λ h. (omega (arith, ints), omega (arith, ints)), λ h. let top = h.1 in omega (arith, ints))
magnitude_bounds (negsuc n) = (λ h. (omega (arith, ints), omega (arith, ints)), λ h. let low = h.0 in omega (arith, ints))

-- some octets hold a whole number exactly within the bounds
pub whole_bounds : (p : Profile) (z : ℤ) → ((o : List ℕ) × Holds p integer (whole z) o) ↔ ((neg_ℤ (pos 9_223_372_036_854_775_808) ≤ℤ z) × (z ≤ℤ pos 9_223_372_036_854_775_807))
whole_bounds p z = (
  λ h.
      let same : z ≡ integer_of h.0 = let e : whole z ≡ whole (integer_of h.0) = h.1.2 in cc in
      (magnitude_bounds z).0 (subst (λ (x : ℤ). magnitude x < 9_223_372_036_854_775_808) (sym same) (whole_within p h.0 h.1.0 h.1.1)),
  λ h. (normal_content (whole z), whole_held p z ((magnitude_bounds z).1 h)),
)
