-- Lengths in the fewest octets.
use Rattle.std.proofs.Common.{◌≡◌, ℕ, suc, ◌+◌, ◌*◌, ◌^◌, ◌<◌, ◌≤◌, List, [], ◌∷◌, ◌++◌, length, get_or, take, drop, IsTrue, sym, ap, ap₂, subst, ◌∙◌, arith, inl, inr, nat_lt, ltb-true, ltb-false, lit≤, lit<, take-append-drop}
use Rattle.std.proofs.Math.Nat.{pow-succ', pow-zero, mul-le-mul_right, mul-one, mul_assoc, pow-le-pow_right}
use Rattle.std.proofs.lemmas.Bool.{cases_lt}
use Rattle.std.proofs.lemmas.List.{length-take-le, take_at}
use Rattle.std.specs.Int.Digits.{AllBelowBase, digits_of, number_from_digits, number_from_digits_after}
use Rattle.std.proofs.lemmas.Int.Digits.{number_lt, length-digits_of-le, all_below_base_digits_of, first_digits_of, number_digits_of, number_more, same_from_digits_of}
use Rattle.ber_tree.specs.Length.{long, shortest_length}
use Rattle.ber_tree.proofs.Lists.{cells, fronts, two_cases}
use Rattle.ber_tree.specs.Octets.{are_octets}
use Rattle.ber_core.proofs.ReadOctets.{below_256, octets_left}
use Rattle.ber_core.proofs.Shortest.{is_long, is_short, shortest_only}

-- a length's fewest octets say it, and where they end
pub shortest_unique : (m n : ℕ) (x y : List ℕ) → shortest_length m ++ x ≡ shortest_length n ++ y → (m ≡ n) × (x ≡ y)
shortest_unique m n x y e = elim (two_cases (nat_lt m 128)) [
  | inl l ↦ let p = ap (λ z. z ++ x) (is_short m (ltb-true _ _ l)) in
      elim (two_cases (nat_lt n 128)) [
        | inl k ↦ cells (sym p ∙ e ∙ ap (λ z. z ++ y) (is_short n (ltb-true _ _ k)))
        | inr k ↦ let q = cells (sym p ∙ e ∙ ap (λ z. z ++ y) (is_long n (ltb-false _ _ k))) in absurd (omega (arith, q.0, ltb-true _ _ l))
      ]
  | inr l ↦ let p = ap (λ z. z ++ x) (is_long m (ltb-false _ _ l)) in
      elim (two_cases (nat_lt n 128)) [
        | inl k ↦ let q = cells (sym p ∙ e ∙ ap (λ z. z ++ y) (is_short n (ltb-true _ _ k))) in absurd (omega (arith, q.0, ltb-true _ _ k))
        | inr k ↦
            let q = cells (sym p ∙ e ∙ ap (λ z. z ++ y) (is_long n (ltb-false _ _ k))) in
            let d = fronts (digits_of 256 m) (digits_of 256 n) x y (omega (arith, q.0)) q.1 in
            (same_from_digits_of 256 m n (lit≤ tt) d.0, d.1)
      ]
]

-- digits after a number give at least that number, moved by as many places
number_after_low : (b m n : ℕ) (ds : List ℕ) → m ≤ n → m * b ^ length ds ≤ number_from_digits_after b n ds
number_after_low b m n [] le = let e : m * b ^ 0 ≡ m = ap (λ z. m * z) (pow-zero b) ∙ mul-one m in omega (arith, e, le)
number_after_low b m n (d ∷ ds) le =
    let e : m * b ^ suc (length ds) ≡ m * b * b ^ length ds = ap (λ z. m * z) (pow-succ' b (length ds)) ∙ sym (mul_assoc m b (b ^ length ds)) in
    let k : m * b ≤ n * b + d = omega (arith, mul-le-mul_right b le) in
    omega (arith, number_after_low b (m * b) (n * b + d) ds k, e)

-- a number takes at least as many digits as any that begin with one that is not 0
digits_count : (n : ℕ) (ds : List ℕ) → 0 < length ds → 0 < get_or ds 0 0 → n ≡ number_from_digits 256 ds → length ds ≤ length (digits_of 256 n)
digits_count n [] some first e = absurd (omega (arith, some))
digits_count n (d ∷ ds) some first e =
    let low : 1 * 256 ^ length ds ≤ number_from_digits_after 256 (0 * 256 + d) ds = number_after_low 256 1 (0 * 256 + d) ds (omega (arith, first)) in
    let high : number_from_digits 256 (digits_of 256 n) < 256 ^ length (digits_of 256 n) = number_lt 256 (digits_of 256 n) (all_below_base_digits_of 256 n (lit≤ tt)) in
    elim (cases_lt (length ds) (length (digits_of 256 n))) [
      | inl l ↦ omega (arith, l)
      | inr l ↦
          let p : 256 ^ length (digits_of 256 n) ≤ 256 ^ length ds = pow-le-pow_right (lit< tt) l in
          absurd (omega (arith, low, high, p, e, number_digits_of 256 n (lit≤ tt)))
    ]

-- such digits are the fewest for their number
digits_fewest : (n : ℕ) (ds : List ℕ) → AllBelowBase 256 ds → 0 < length ds → length ds ≤ 126 → 0 < get_or ds 0 0 → n ≡ number_from_digits 256 ds → 128 ≤ n → digits_of 256 n ≡ ds
digits_fewest n ds small some few first e le =
    let f = is_long n le in
    let size : length (shortest_length n) ≡ suc (length (digits_of 256 n)) = ap length f in
    let only = shortest_only n ((128 + length ds) ∷ ds) (long some few small e) (omega (arith, size, digits_count n ds some first e)) in
    sym ((cells (only ∙ f)).1)

-- a number of at least 128 has a digit
some_digits : (ds : List ℕ) → 128 ≤ number_from_digits 256 ds → 0 < length ds
some_digits [] h = absurd (omega (arith, h))
some_digits (d ∷ ds) h = omega arith

-- the front that is read as a length is its digits
pub digits_front : (octets front behind : List ℕ) (count n : ℕ) → IsTrue (are_octets octets) → front ≡ take count octets → behind ≡ drop count octets → count ≤ length octets → count ≤ 8
    → n ≡ number_from_digits 256 front → 128 ≤ n → 0 < get_or front 0 0 → (count ≡ length (digits_of 256 n)) × (octets ≡ digits_of 256 n ++ behind)
digits_front octets front behind count n ok e f le few value high first =
    let joined : octets ≡ front ++ behind = sym (take-append-drop count octets) ∙ ap₂ ◌++◌ (sym e) (sym f) in
    let small : AllBelowBase 256 front = below_256 front (octets_left front behind (subst (λ z. IsTrue (are_octets z)) joined ok)) in
    let size : length front ≡ count = ap length e ∙ length-take-le count octets le in
    let some : 0 < length front = some_digits front (omega (arith, value, high)) in
    let d : digits_of 256 n ≡ front = digits_fewest n front small some (omega (arith, size, few)) first value high in
    (omega (arith, ap length d, size), joined ∙ ap (λ z. z ++ behind) (sym d))

-- a number below 2 to the power 64 has at most eight digits
pub few_digits : (n : ℕ) → n < 2 ^ 64 → length (digits_of 256 n) ≤ 8
few_digits n h = length-digits_of-le 256 8 n (lit≤ tt) (omega (arith, h))

-- digits at the front are those that are read
pub digits_read : (octets front behind : List ℕ) (count n : ℕ) → front ≡ take count octets → count ≡ length (digits_of 256 n) → octets ≡ digits_of 256 n ++ behind → front ≡ digits_of 256 n
digits_read octets front behind count n e size joined = e ∙ ap (take count) joined ∙ take_at (digits_of 256 n) behind count (sym size)

-- the digits of a number give it
pub digits_value : (n : ℕ) → number_from_digits 256 (digits_of 256 n) ≡ n
digits_value n = number_digits_of 256 n (lit≤ tt)

-- and begin with one that is not 0
pub digits_first : (n : ℕ) → 128 ≤ n → 0 < get_or (digits_of 256 n) 0 0
digits_first n le = first_digits_of 256 n (lit≤ tt) (omega (arith, le))

-- a number with one digit more, of eight at most, takes no more than 64 bits
pub number_fits : (ds : List ℕ) (i : ℕ) → IsTrue (are_octets ds) → length ds ≤ 8 → i < length ds → number_from_digits 256 (take i ds) * 256 + get_or ds i 0 < 2 ^ 64
number_fits ds i ok few le =
    let front = take (i + 1) ds in
    let small : AllBelowBase 256 front = below_256 front (octets_left front (drop (i + 1) ds) (subst (λ z. IsTrue (are_octets z)) (sym (take-append-drop (i + 1) ds)) ok)) in
    let size : length front ≡ i + 1 = length-take-le (i + 1) ds (omega (arith, le)) in
    let count : length front ≤ 8 = omega (arith, size, few, le) in
    let most : 256 ^ length front ≤ 256 ^ 8 = pow-le-pow_right (lit< tt) count in
    omega (arith, number_lt 256 front small, most, number_more 256 ds i le)
