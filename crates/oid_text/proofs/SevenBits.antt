-- Subidentifiers: octets that have seven bits of a number each.
use Rattle.std.proofs.Common.{◌≡◌, ℕ, zero, suc, ◌+◌, ◌-◌, ◌*◌, ◌/◌, ◌%◌, ◌<◌, ◌≤◌, true, false, not, ◌&&◌, List, [], ◌∷◌, ◌++◌, length, get_or, map, flat_map, IsTrue, refl, sym, ap, ap₂, subst, ◌∙◌, arith, inl, inr, nat_lt, nat_eq, ltb-true, ltb-false, lt-ltb, le-ltb, lit≤, append_assoc, length-append}
use Rattle.std.proofs.lemmas.Bool.{and_from, and_parts, ne_eqb}
use Rattle.std.proofs.lemmas.Bool.Decides.{nat_tests}
use Rattle.std.proofs.lemmas.List.{map-append}
use Rattle.std.specs.Int.Digits.{AllBelowBase, digits_of, number_from_digits_after}
use Rattle.std.proofs.lemmas.Int.Digits.{all_below_base_digits_of, digits_of_step, first_digits_of, number_digits_of}
use Rattle.ber_tree.specs.Octets.{are_octets}
use Rattle.ber_tree.proofs.Lists.{two_cases}
use Rattle.ber_leaf.specs.Leaf.{goes_on, is_oid}
use Rattle.ill_schema.specs.Texts.{numbers_after}
use Rattle.oid_text.specs.Numbers.{subidentifier}
use Rattle.oid_text.proofs.HexDigits.{octet_parts}

-- digits with bit 8 set on each
abbrev high : List ℕ → List ℕ
high digits = map (λ digit. 128 + digit) digits

-- seven bits more are one digit more
more_bits : (n d : ℕ) → 0 < 128 * n + d → d < 128 → high (digits_of 128 (128 * n + d)) ≡ high (digits_of 128 n) ++ (128 + d) ∷ []
more_bits n d some small =
    let front : (128 * n + d) / 128 ≡ n = omega arith in
    let last : (128 * n + d) % 128 ≡ d = omega arith in
    ap high (digits_of_step 128 (128 * n + d) (lit≤ tt) some ∙ ap₂ (λ (m k : ℕ). digits_of 128 m ++ k ∷ []) front last) ∙ map-append (λ (digit : ℕ). 128 + digit) (digits_of 128 n) (d ∷ [])

-- the last seven bits are the last octet
last_bits : (n d : ℕ) → d < 128 → subidentifier (128 * n + d) ≡ high (digits_of 128 n) ++ d ∷ []
last_bits n d small =
    let front : (128 * n + d) / 128 ≡ n = omega arith in
    let last : (128 * n + d) % 128 ≡ d = omega arith in
    ap₂ (λ (m k : ℕ). high (digits_of 128 m) ++ k ∷ []) front last

-- after an octet below 80 another subidentifier begins
after_last : (a : ℕ) (o : List ℕ) → a < 128 → goes_on a o ≡ goes_on 0 o
after_last a [] l = lt-ltb a 128 l
after_last a (b ∷ o) l = ap (λ t. not (t && nat_eq b 128) && goes_on b o) (lt-ltb a 128 l)

-- octets that are subidentifiers are those of their numbers
mutual
  pub whole_numbers : (o : List ℕ) → IsTrue (are_octets o) → IsTrue (goes_on 0 o) → flat_map subidentifier (numbers_after 0 o) ≡ o
  whole_numbers [] ok h = refl
  whole_numbers (a ∷ o) ok h =
      let p = and_parts (not (nat_eq a 128)) (goes_on a o) h in
      let small = octet_parts a o ok in
      elim (two_cases (nat_lt a 128)) [
        | inl l ↦ rw l (ap₂ ◌++◌ (last_bits 0 a (ltb-true _ _ l)) (whole_numbers o small.1 (sym (after_last a o (ltb-true _ _ l)) ∙ p.1)))
        | inr l ↦ rw l (
            let le = ltb-false _ _ l in
            let some : 0 < 128 * 0 + (a - 128) = grind (arith, nat_tests, p.0) in
            let same : 128 + (a - 128) ≡ a = omega (arith, le) in
            part_numbers (128 * 0 + (a - 128)) a o some le small.1 p.1
            ∙ ap (λ z. z ++ o) (more_bits 0 (a - 128) some (omega (arith, small.0)) ∙ ap (λ (b : ℕ). b ∷ []) same))
      ]

  part_numbers : (n before : ℕ) (o : List ℕ) → 0 < n → 128 ≤ before → IsTrue (are_octets o) → IsTrue (goes_on before o) → flat_map subidentifier (numbers_after n o) ≡ high (digits_of 128 n) ++ o
  part_numbers n before [] some le ok h = absurd (omega (arith, ltb-true _ _ h, le))
  part_numbers n before (a ∷ o) some le ok h =
      let p = and_parts (not (nat_lt before 128 && nat_eq a 128)) (goes_on a o) h in
      let small = octet_parts a o ok in
      elim (two_cases (nat_lt a 128)) [
        | inl l ↦ rw l (ap₂ ◌++◌ (last_bits n a (ltb-true _ _ l)) (whole_numbers o small.1 (sym (after_last a o (ltb-true _ _ l)) ∙ p.1)) ∙ append_assoc (high (digits_of 128 n)) (a ∷ []) o)
        | inr l ↦ rw l (
            let more = ltb-false _ _ l in
            let same : 128 + (a - 128) ≡ a = omega (arith, more) in
            part_numbers (128 * n + (a - 128)) a o (omega (arith, some)) more small.1 p.1
            ∙ ap (λ z. z ++ o) (more_bits n (a - 128) (omega (arith, some)) (omega (arith, small.0)) ∙ ap (λ (b : ℕ). high (digits_of 128 n) ++ b ∷ []) same)
            ∙ append_assoc (high (digits_of 128 n)) (a ∷ []) o)
      ]

-- digits with bit 8 set are read after those before them
digits_read : (n : ℕ) (ds rest : List ℕ) → numbers_after n (high ds ++ rest) ≡ numbers_after (number_from_digits_after 128 n ds) rest
digits_read n [] rest = refl
digits_read n (d ∷ ds) rest =
    let l : nat_lt (128 + d) 128 ≡ false = le-ltb (128 + d) 128 (omega arith) in
    let e : 128 * n + (128 + d - 128) ≡ n * 128 + d = omega arith in
    rw (l, e) (digits_read (n * 128 + d) ds rest)

-- the octets of a number are read as that number
number_read : (n : ℕ) (rest : List ℕ) → numbers_after 0 (subidentifier n ++ rest) ≡ n ∷ numbers_after 0 rest
number_read n rest =
    let ds = digits_of 128 (n / 128) in
    let l : nat_lt (n % 128) 128 ≡ true = lt-ltb (n % 128) 128 (omega arith) in
    let e : 128 * (n / 128) + n % 128 ≡ n = omega arith in
    let last : numbers_after (n / 128) (n % 128 ∷ rest) ≡ n ∷ numbers_after 0 rest = rw (l, e) refl in
    ap (numbers_after 0) (append_assoc (high ds) (n % 128 ∷ []) rest) ∙ digits_read 0 ds (n % 128 ∷ rest) ∙ ap (λ m. numbers_after m (n % 128 ∷ rest)) (number_digits_of 128 (n / 128) (lit≤ tt)) ∙ last

-- the octets of numbers have these numbers
pub numbers_read : (ns : List ℕ) → numbers_after 0 (flat_map subidentifier ns) ≡ ns
numbers_read [] = refl
numbers_read (n ∷ ns) = number_read n (flat_map subidentifier ns) ∙ ap (λ z. n ∷ z) (numbers_read ns)

-- an octet below 80 ends a subidentifier, and others may follow
part_goes_on : (before : ℕ) (ds : List ℕ) (a : ℕ) (rest : List ℕ) → 128 ≤ before → a < 128 → goes_on before (high ds ++ (a ∷ rest)) ≡ goes_on 0 rest
part_goes_on before [] a rest le l = ap (λ t. not (t && nat_eq a 128) && goes_on a rest) (le-ltb before 128 le) ∙ after_last a rest l
part_goes_on before (d ∷ ds) a rest le l =
    ap (λ t. not (t && nat_eq (128 + d) 128) && goes_on (128 + d) (high ds ++ (a ∷ rest))) (le-ltb before 128 le) ∙ part_goes_on (128 + d) ds a rest (omega arith) l

-- the same from its first octet on, which is not 80
first_goes_on : (ds : List ℕ) (a : ℕ) (rest : List ℕ) → (0 < length ds → 0 < get_or ds 0 0) → a < 128 → goes_on 0 (high ds ++ (a ∷ rest)) ≡ goes_on 0 rest
first_goes_on [] a rest first l = ap (λ t. not t && goes_on a rest) (ne_eqb a 128 (λ e. omega (arith, e, l))) ∙ after_last a rest l
first_goes_on (d ∷ ds) a rest first l =
    let some : 0 < d = first (omega arith) in
    ap (λ t. not t && goes_on (128 + d) (high ds ++ (a ∷ rest))) (ne_eqb (128 + d) 128 (λ e. omega (arith, e, some))) ∙ part_goes_on (128 + d) ds a rest (omega arith) l

-- the first digit of a number is not 0
first_digit : (m : ℕ) → 0 < length (digits_of 128 m) → 0 < get_or (digits_of 128 m) 0 0
first_digit zero h = absurd (omega (arith, h))
first_digit (suc m) h = first_digits_of 128 (suc m) (lit≤ tt) (omega arith)

-- the octets of numbers are subidentifiers
numbers_go_on : (ns : List ℕ) → goes_on 0 (flat_map subidentifier ns) ≡ true
numbers_go_on [] = refl
numbers_go_on (n ∷ ns) =
    let rest = flat_map subidentifier ns in
    ap (goes_on 0) (append_assoc (high (digits_of 128 (n / 128))) (n % 128 ∷ []) rest) ∙ first_goes_on (digits_of 128 (n / 128)) (n % 128) rest (first_digit (n / 128)) (omega arith) ∙ numbers_go_on ns

-- the octets of a number or more are those of an identifier
pub numbers_are_oid : (n : ℕ) (ns : List ℕ) → IsTrue (is_oid (flat_map subidentifier (n ∷ ns)))
numbers_are_oid n ns =
    let o = flat_map subidentifier (n ∷ ns) in
    let size = length-append (subidentifier n) (flat_map subidentifier ns) in
    let one = length-append (high (digits_of 128 (n / 128))) (n % 128 ∷ []) in
    let some : nat_eq (length o) 0 ≡ false = ne_eqb (length o) 0 (λ e. omega (arith, e, size, one)) in
    rw some (numbers_go_on (n ∷ ns))

-- the octets of an identifier are subidentifiers
goes_on_oid : (o : List ℕ) → IsTrue (is_oid o) → IsTrue (goes_on 0 o)
goes_on_oid o h = (and_parts _ _ h).1

-- an identifier is all that its numbers say
pub same_numbers : (a b : List ℕ) → IsTrue (are_octets a) → IsTrue (is_oid a) → IsTrue (are_octets b) → IsTrue (is_oid b) → numbers_after 0 a ≡ numbers_after 0 b → a ≡ b
same_numbers a b i h j k e = sym (whole_numbers a i (goes_on_oid a h)) ∙ ap (flat_map subidentifier) e ∙ whole_numbers b j (goes_on_oid b k)

-- an identifier has a number
pub some_number : (o : List ℕ) → IsTrue (are_octets o) → IsTrue (is_oid o) → (n : ℕ) × (ns : List ℕ) × (numbers_after 0 o ≡ n ∷ ns)
some_number o ok h = by (numbers_after 0 o) refl
  where
    by : (ns : List ℕ) → numbers_after 0 o ≡ ns → (m : ℕ) × (ms : List ℕ) × (numbers_after 0 o ≡ m ∷ ms)
    by [] e =
        let none : [] ≡ o = sym (ap (flat_map subidentifier) e) ∙ whole_numbers o ok (goes_on_oid o h) in
        let wrong : IsTrue (is_oid []) = subst (λ z. IsTrue (is_oid z)) (sym none) h in
        absurd cc
    by (n ∷ ns) e = (n, ns, e)

-- digits with bit 8 set are octets
digits_are_octets : (ds rest : List ℕ) → AllBelowBase 128 ds → IsTrue (are_octets rest) → IsTrue (are_octets (high ds ++ rest))
digits_are_octets [] rest h ok = ok
digits_are_octets (d ∷ ds) rest h ok = and_from (nat_lt (128 + d) 256) (are_octets (high ds ++ rest)) (lt-ltb (128 + d) 256 (omega (arith, h.0))) (digits_are_octets ds rest h.1 ok)

-- the octets of numbers are octets
pub numbers_are_octets : (ns : List ℕ) → IsTrue (are_octets (flat_map subidentifier ns))
numbers_are_octets [] = refl
numbers_are_octets (n ∷ ns) =
    let rest = flat_map subidentifier ns in
    let ds = digits_of 128 (n / 128) in
    let last : IsTrue (are_octets (n % 128 ∷ rest)) = and_from (nat_lt (n % 128) 256) (are_octets rest) (lt-ltb (n % 128) 256 (omega arith)) (numbers_are_octets ns) in
    subst (λ z. IsTrue (are_octets z)) (sym (append_assoc (high ds) (n % 128 ∷ []) rest)) (digits_are_octets ds (n % 128 ∷ rest) (all_below_base_digits_of 128 (n / 128) (lit≤ tt)) last)

-- a number's digits are those of all but its last seven bits, and one of these
pub digits_more : (n : ℕ) (old front now : List ℕ) → 0 < n → front ≡ old ++ map (λ digit. 128 + digit) (digits_of 128 (n / 128)) → now ≡ front ++ (128 + n % 128) ∷ []
    → now ≡ old ++ map (λ digit. 128 + digit) (digits_of 128 n)
digits_more n old front now some e f =
    let last = (128 + n % 128) ∷ [] in
    let step : high (digits_of 128 n) ≡ high (digits_of 128 (n / 128)) ++ last = ap high (digits_of_step 128 n (lit≤ tt) some) ∙ map-append (λ (digit : ℕ). 128 + digit) (digits_of 128 (n / 128)) (n % 128 ∷ []) in
    f ∙ ap (λ z. z ++ last) e ∙ append_assoc old (high (digits_of 128 (n / 128))) last ∙ ap (λ z. old ++ z) (sym step)
