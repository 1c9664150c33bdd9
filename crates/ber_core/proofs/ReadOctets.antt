-- Reading identifiers and lengths finds the octets that spell them, and no others.
use Rattle.std.proofs.Common.{◌≡◌, ℕ, zero, suc, ◌+◌, ◌-◌, ◌*◌, ◌%◌, ◌<◌, ◌≤◌, Bool, true, false, ◌||◌, List, [], ◌∷◌, ◌++◌, length, take, drop, IsTrue, refl, sym, ap, ap₂, subst, ◌∙◌, inl, inr, arith, if◌then◌else◌, length-append, ltb-true, ltb-false}
use Rattle.std.specs.Prelude.{nat_eq, nat_lt, nat_le}
use Rattle.std.specs.Int.Digits.{AllBelowBase, number_from_digits}
use Rattle.ber_tree.specs.declared.class.Class.{Class}
use Rattle.ber_tree.specs.Identifier.{Tag, class_bits, form_bit, base_128, identifier, HasIdentifier}
use Rattle.ber_tree.specs.Length.{IsLength, short, long}
use Rattle.ber_core.proofs.Identifiers.{Digits, one, two, three, four, digits, Identified, low, high, identified}
use Rattle.std.proofs.lemmas.List.{take-append-drop, length-take-le, take-append-le, drop-append-le}
use Rattle.ber_tree.specs.Octets.{are_octets}
use Rattle.ber_core.specs.Reading.{IdentifierRead, identified as found, part_identifier, no_identifier, class_of, tagged, read_digits, read_number, read_identifier, LengthRead, definite, indefinite, part_length, no_length, read_length}
use Rattle.ber_tree.proofs.Lists.{two_cases}
use Rattle.std.proofs.lemmas.Bool.{and_parts}

-- the first octet
leading_class : (c : Class) (f : Bool) (k : ℕ) → k < 32 → class_of (class_bits c + form_bit f + k) ≡ c
leading_class Class.Universal false k h = grind arith
leading_class Class.Universal true k h = grind arith
leading_class Class.Application false k h = grind arith
leading_class Class.Application true k h = grind arith
leading_class Class.Context false k h = grind arith
leading_class Class.Context true k h = grind arith
leading_class Class.Private false k h = grind arith
leading_class Class.Private true k h = grind arith

leading_form : (c : Class) (f : Bool) (k : ℕ) → k < 32 → nat_le 32 ((class_bits c + form_bit f + k) % 64) ≡ f
leading_form Class.Universal false k h = grind arith
leading_form Class.Universal true k h = grind arith
leading_form Class.Application false k h = grind arith
leading_form Class.Application true k h = grind arith
leading_form Class.Context false k h = grind arith
leading_form Class.Context true k h = grind arith
leading_form Class.Private false k h = grind arith
leading_form Class.Private true k h = grind arith

leading_low : (c : Class) (f : Bool) (k : ℕ) → k < 32 → (class_bits c + form_bit f + k) % 32 ≡ k
leading_low Class.Universal false k h = omega arith
leading_low Class.Universal true k h = omega arith
leading_low Class.Application false k h = omega arith
leading_low Class.Application true k h = omega arith
leading_low Class.Context false k h = omega arith
leading_low Class.Context true k h = omega arith
leading_low Class.Private false k h = omega arith
leading_low Class.Private true k h = omega arith

leading_octet : (o : ℕ) → o < 256 → class_bits (class_of o) + form_bit (nat_le 32 (o % 64)) + o % 32 ≡ o
leading_octet o h = grind arith

abbrev digit_body : ℕ → ℕ → ℕ → ℕ → List ℕ → Bool → IdentifierRead
digit_body o left h a rest b = elim b as (λ _. IdentifierRead) [ true ↦ tagged o (128 * h + a) rest | false ↦ read_digits o left (128 * h + (a - 128)) rest ]

last_digit : (o left h a : ℕ) (rest : List ℕ) → a < 128 → read_digits o (suc left) h (a ∷ rest) ≡ tagged o (128 * h + a) rest
last_digit o left h a rest l = let e : nat_lt a 128 ≡ true = grind arith in ap (digit_body o left h a rest) e

more_digit : (o left h a : ℕ) (rest : List ℕ) → 128 ≤ a → read_digits o (suc left) h (a ∷ rest) ≡ read_digits o left (128 * h + (a - 128)) rest
more_digit o left h a rest l = let e : nat_lt a 128 ≡ false = grind arith in ap (digit_body o left h a rest) e

-- number octets
pub digits_read : (o n : ℕ) (ds rest : List ℕ) → 31 ≤ n → Digits n ds → read_number o (ds ++ rest) ≡ tagged o n rest
digits_read o n ds rest h (one a) =
    let x : (nat_lt n 31 || nat_eq n 128) ≡ false = grind arith in
    let y : nat_lt n 128 ≡ true = grind arith in
    rw (x, y) refl
digits_read o n ds rest h (two a b pa la lb e) =
    let x : (nat_lt (128 + a) 31 || nat_eq (128 + a) 128) ≡ false = grind arith in
    let y : nat_lt (128 + a) 128 ≡ false = grind arith in
    let v : 128 * (128 + a - 128) + b ≡ n = omega arith in
    rw (x, y) (last_digit o 2 (128 + a - 128) b rest lb ∙ ap (λ k. tagged o k rest) v)
digits_read o n ds rest h (three a b c pa la lb lc e) =
    let x : (nat_lt (128 + a) 31 || nat_eq (128 + a) 128) ≡ false = grind arith in
    let y : nat_lt (128 + a) 128 ≡ false = grind arith in
    let v : 128 * (128 * (128 + a - 128) + (128 + b - 128)) + c ≡ n = omega arith in
    rw (x, y) (more_digit o 2 (128 + a - 128) (128 + b) (c ∷ rest) (omega arith) ∙ last_digit o 1 (128 * (128 + a - 128) + (128 + b - 128)) c rest lc ∙ ap (λ k. tagged o k rest) v)
digits_read o n ds rest h (four a b c d pa la lb lc ld e) =
    let x : (nat_lt (128 + a) 31 || nat_eq (128 + a) 128) ≡ false = grind arith in
    let y : nat_lt (128 + a) 128 ≡ false = grind arith in
    let v : 128 * (128 * (128 * (128 + a - 128) + (128 + b - 128)) + (128 + c - 128)) + d ≡ n = omega arith in
    rw (x, y) (more_digit o 2 (128 + a - 128) (128 + b) ((128 + c) ∷ d ∷ rest) (omega arith)
    ∙ more_digit o 1 (128 * (128 + a - 128) + (128 + b - 128)) (128 + c) (d ∷ rest) (omega arith)
    ∙ last_digit o 0 (128 * (128 * (128 + a - 128) + (128 + b - 128)) + (128 + c - 128)) d rest ld ∙ ap (λ k. tagged o k rest) v)

same_digits : (n : ℕ) (a b : List ℕ) → Digits n a → Digits n b → a ≡ b
same_digits n a b (one h) (one k) = refl
same_digits n a b (one h) (two a2 b2 p2 q2 r2 e2) = absurd (omega arith)
same_digits n a b (one h) (three a2 b2 c2 p2 q2 r2 s2 e2) = absurd (omega arith)
same_digits n a b (one h) (four a2 b2 c2 d2 p2 q2 r2 s2 t2 e2) = absurd (omega arith)
same_digits n a b (two a1 b1 p1 q1 r1 e1) (one k) = absurd (omega arith)
same_digits n a b (two a1 b1 p1 q1 r1 e1) (two a2 b2 p2 q2 r2 e2) = let e : a1 ≡ a2 = omega arith in let f : b1 ≡ b2 = omega arith in cc
same_digits n a b (two a1 b1 p1 q1 r1 e1) (three a2 b2 c2 p2 q2 r2 s2 e2) = absurd (omega arith)
same_digits n a b (two a1 b1 p1 q1 r1 e1) (four a2 b2 c2 d2 p2 q2 r2 s2 t2 e2) = absurd (omega arith)
same_digits n a b (three a1 b1 c1 p1 q1 r1 s1 e1) (one k) = absurd (omega arith)
same_digits n a b (three a1 b1 c1 p1 q1 r1 s1 e1) (two a2 b2 p2 q2 r2 e2) = absurd (omega arith)
same_digits n a b (three a1 b1 c1 p1 q1 r1 s1 e1) (three a2 b2 c2 p2 q2 r2 s2 e2) = let e : a1 ≡ a2 = omega arith in let f : b1 ≡ b2 = omega arith in let g : c1 ≡ c2 = omega arith in cc
same_digits n a b (three a1 b1 c1 p1 q1 r1 s1 e1) (four a2 b2 c2 d2 p2 q2 r2 s2 t2 e2) = absurd (omega arith)
same_digits n a b (four a1 b1 c1 d1 p1 q1 r1 s1 t1 e1) (one k) = absurd (omega arith)
same_digits n a b (four a1 b1 c1 d1 p1 q1 r1 s1 t1 e1) (two a2 b2 p2 q2 r2 e2) = absurd (omega arith)
same_digits n a b (four a1 b1 c1 d1 p1 q1 r1 s1 t1 e1) (three a2 b2 c2 p2 q2 r2 s2 e2) = absurd (omega arith)
same_digits n a b (four a1 b1 c1 d1 p1 q1 r1 s1 t1 e1) (four a2 b2 c2 d2 p2 q2 r2 s2 t2 e2) =
    let e : a1 ≡ a2 = omega arith in let f : b1 ≡ b2 = omega arith in let g : c1 ≡ c2 = omega arith in let i : d1 ≡ d2 = omega arith in cc

same_tag_record : (t : Tag) (c : Class) (n : ℕ) → c ≡ t.class → n ≡ t.number → record { class = c; number = n } ≡ t
same_tag_record t c n e f = ap₂ (λ (c : Class) (n : ℕ). let x : Tag = record { class = c; number = n } in x) e f

tagged_is : (t : Tag) (f : Bool) (k n : ℕ) (rest : List ℕ) → k < 32 → n ≡ t.number → tagged (class_bits t.class + form_bit f + k) n rest ≡ found t f rest
tagged_is t f k n rest h e =
    ap₂ (λ (x : Tag) (y : Bool). found x y rest) (same_tag_record t _ n (leading_class t.class f k h) e) (leading_form t.class f k h)

not_zero : (t : Tag) (f : Bool) → HasIdentifier t f → t.number < 31 → nat_eq (class_bits t.class + form_bit f + t.number) 0 ≡ false
not_zero t f h l = elim (two_cases (nat_eq (class_bits t.class + form_bit f + t.number) 0)) [
  | inr e ↦ e
  | inl e ↦
      let z : class_bits t.class + form_bit f + t.number ≡ 0 = grind (arith, e) in
      absurd (zero t.class f t.number z (λ a b. h.not_end a b))
]
  where
    zero : (c : Class) (f : Bool) (n : ℕ) → class_bits c + form_bit f + n ≡ 0 → (c ≡ Class.Universal → n ≡ 0 → f ≡ true) → ⊥
    zero Class.Universal false n e k = let q : false ≡ true = k refl (omega arith) in cc
    zero Class.Universal true n e k = omega arith
    zero Class.Application f n e k = omega arith
    zero Class.Context f n e k = omega arith
    zero Class.Private f n e k = omega arith

identified_read : (t : Tag) (f : Bool) (a rest : List ℕ) → HasIdentifier t f → Identified t f a → read_identifier (a ++ rest) ≡ found t f rest
identified_read t f a rest h (low l) =
    let k : nat_eq (class_bits t.class + form_bit f + t.number) 0 ≡ false = not_zero t f h l in
    let m : (class_bits t.class + form_bit f + t.number) % 32 ≡ t.number = leading_low t.class f t.number (omega arith) in
    let n : nat_eq t.number 31 ≡ false = grind arith in
    rw (k, m, n) (tagged_is t f t.number t.number rest (omega arith) refl)
identified_read t f a rest h (high {octets = ds} l d) =
    let k : nat_eq (class_bits t.class + form_bit f + 31) 0 ≡ false = grind arith in
    let m : (class_bits t.class + form_bit f + 31) % 32 ≡ 31 = leading_low t.class f 31 (omega arith) in
    rw (k, m) (digits_read (class_bits t.class + form_bit f + 31) t.number ds rest l d ∙ tagged_is t f 31 t.number rest (omega arith) refl)

-- an identifier is read
pub identifier_read : (t : Tag) (f : Bool) (rest : List ℕ) → HasIdentifier t f → read_identifier (identifier t f ++ rest) ≡ found t f rest
identifier_read t f rest h = identified_read t f (identifier t f) rest h (identified t f h)

pub take-all : (a b : List ℕ) → take (length a) (a ++ b) ≡ a
take-all [] b = refl
take-all (x ∷ a) b = ap (λ z. x ∷ z) (take-all a b)

pub drop-all : (a b : List ℕ) → drop (length a) (a ++ b) ≡ b
drop-all [] b = refl
drop-all (x ∷ a) b = drop-all a b

-- a length is read
pub length_read : (f : Bool) (n : ℕ) (os rest : List ℕ) → IsLength n os → read_length f (os ++ rest) ≡ definite n rest
length_read f n os rest (short h) = let e : nat_lt n 128 ≡ true = grind arith in rw e refl
length_read f n os rest (long {octets = ds} h k s e) =
    let a : nat_lt (128 + length ds) 128 ≡ false = grind arith in
    let b : nat_eq (128 + length ds) 255 ≡ false = grind arith in
    let c : nat_eq (128 + length ds) 128 ≡ false = grind arith in
    let d : nat_le (128 + length ds - 128) (length (ds ++ rest)) ≡ true = grind (arith, length-append ds rest) in
    let g : 128 + length ds - 128 ≡ length ds = omega arith in
    rw (a, b, c, d, g) (ap₂ definite (ap (number_from_digits 256) (take-all ds rest) ∙ sym e) (drop-all ds rest))

pub indefinite_read : (rest : List ℕ) → read_length true (128 ∷ rest) ≡ indefinite rest
indefinite_read rest = refl

-- the other way round: what is read spells
found_same : (s t : Tag) (f g : Bool) (x y : List ℕ) → found s f x ≡ found t g y → (s ≡ t) × (f ≡ g) × (x ≡ y)
found_same s t f g x y e = (cc, cc, cc)

-- an identifier with these number octets
high_identifier : (o n : ℕ) (ds : List ℕ) → o < 256 → o % 32 ≡ 31 → 31 ≤ n → Digits n ds → n ≤ 268_435_455
    → HasIdentifier (record { class = class_of o; number = n }) (nat_le 32 (o % 64)) × (o ∷ ds ≡ identifier (record { class = class_of o; number = n }) (nat_le 32 (o % 64)))
high_identifier o n ds l e h d m =
    let k : nat_lt n 31 ≡ false = grind arith in
    let i : class_bits (class_of o) + form_bit (nat_le 32 (o % 64)) + 31 ≡ o = ap (λ z. class_bits (class_of o) + form_bit (nat_le 32 (o % 64)) + z) (sym e) ∙ leading_octet o l in
    (record { number = m; not_end = λ _ z. absurd (omega arith) }, rw k (ap₂ ◌∷◌ (sym i) (same_digits n ds (base_128 n) d (digits n m))))

universal_low : (o : ℕ) → class_of o ≡ Class.Universal → o < 64
universal_low o e = elim (two_cases (nat_lt o 64)) [
  | inl h ↦ ltb-true _ _ h
  | inr h ↦ absurd (elim (two_cases (nat_lt o 128)) [
    | inl i ↦ let q : class_of o ≡ Class.Application = rw (h, i) refl in let r : Class.Application ≡ Class.Universal = sym q ∙ e in cc
    | inr i ↦ elim (two_cases (nat_lt o 192)) [
      | inl j ↦ let q : class_of o ≡ Class.Context = rw (h, i, j) refl in let r : Class.Context ≡ Class.Universal = sym q ∙ e in cc
      | inr j ↦ let q : class_of o ≡ Class.Private = rw (h, i, j) refl in let r : Class.Private ≡ Class.Universal = sym q ∙ e in cc
    ]
  ])
]

universal_form : (o : ℕ) → nat_eq o 0 ≡ false → class_of o ≡ Class.Universal → o % 32 ≡ 0 → nat_le 32 (o % 64) ≡ true
universal_form o z c n = let l = universal_low o c in grind arith

low_identifier : (o : ℕ) → o < 256 → nat_eq o 0 ≡ false → nat_eq (o % 32) 31 ≡ false
    → HasIdentifier (record { class = class_of o; number = o % 32 }) (nat_le 32 (o % 64)) × (o ∷ [] ≡ identifier (record { class = class_of o; number = o % 32 }) (nat_le 32 (o % 64)))
low_identifier o l z e =
    let k : nat_lt (o % 32) 31 ≡ true = grind arith in
    (record { number = omega arith; not_end = λ c n. universal_form o z c n }, rw k (ap (λ x. x ∷ []) (sym (leading_octet o l))))

abbrev Spelled : List ℕ → IdentifierRead → Type 0
Spelled w (found t f rest) = HasIdentifier t f × (w ≡ identifier t f ++ rest)
Spelled w part_identifier = Unit {0}
Spelled w no_identifier = Unit {0}

pub octet_small : (a : ℕ) (rest : List ℕ) → IsTrue (are_octets (a ∷ rest)) → (a < 256) × IsTrue (are_octets rest)
octet_small a rest h = let p = and_parts (nat_lt a 256) (are_octets rest) h in (ltb-true _ _ p.0, p.1)

spelled_by : (o n : ℕ) (ds rest : List ℕ) → o < 256 → o % 32 ≡ 31 → 31 ≤ n → Digits n ds → n ≤ 268_435_455 → Spelled (o ∷ (ds ++ rest)) (tagged o n rest)
spelled_by o n ds rest l e h d m = let q = high_identifier o n ds l e h d m in (q.0, ap (λ z. z ++ rest) q.1)

third_spelled : (o a b c : ℕ) (rest : List ℕ) → o < 256 → o % 32 ≡ 31 → 0 < a → a < 128 → b < 128 → c < 128 → IsTrue (are_octets rest)
    → Spelled (o ∷ (128 + a) ∷ (128 + b) ∷ (128 + c) ∷ rest) (read_digits o 1 (128 * (128 * a + b) + c) rest)
third_spelled o a b c [] l e pa la lb lc h = tt
third_spelled o a b c (d ∷ rest) l e pa la lb lc h = elim (two_cases (nat_lt d 128)) [
  | inl i ↦ let ld = ltb-true _ _ i in
      subst (Spelled (o ∷ (128 + a) ∷ (128 + b) ∷ (128 + c) ∷ d ∷ rest)) (sym (last_digit o 0 (128 * (128 * a + b) + c) d rest ld))
      (spelled_by o (128 * (128 * (128 * a + b) + c) + d) ((128 + a) ∷ (128 + b) ∷ (128 + c) ∷ d ∷ []) rest l e (omega arith) (four a b c d pa la lb lc ld refl) (omega arith))
  | inr i ↦ subst (Spelled (o ∷ (128 + a) ∷ (128 + b) ∷ (128 + c) ∷ d ∷ rest)) (sym (more_digit o 0 (128 * (128 * a + b) + c) d rest (ltb-false _ _ i))) tt
]

second_spelled : (o a b : ℕ) (rest : List ℕ) → o < 256 → o % 32 ≡ 31 → 0 < a → a < 128 → b < 128 → IsTrue (are_octets rest)
    → Spelled (o ∷ (128 + a) ∷ (128 + b) ∷ rest) (read_digits o 2 (128 * a + b) rest)
second_spelled o a b [] l e pa la lb h = tt
second_spelled o a b (c ∷ rest) l e pa la lb h = elim (two_cases (nat_lt c 128)) [
  | inl i ↦ let lc = ltb-true _ _ i in
      subst (Spelled (o ∷ (128 + a) ∷ (128 + b) ∷ c ∷ rest)) (sym (last_digit o 1 (128 * a + b) c rest lc))
      (spelled_by o (128 * (128 * a + b) + c) ((128 + a) ∷ (128 + b) ∷ c ∷ []) rest l e (omega arith) (three a b c pa la lb lc refl) (omega arith))
  | inr i ↦
      let s = octet_small c rest h in let lc = ltb-false _ _ i in
      let f : 128 + (c - 128) ≡ c = omega arith in
      subst (Spelled (o ∷ (128 + a) ∷ (128 + b) ∷ c ∷ rest)) (sym (more_digit o 1 (128 * a + b) c rest lc))
      (subst (λ (z : ℕ). Spelled (o ∷ (128 + a) ∷ (128 + b) ∷ z ∷ rest) (read_digits o 1 (128 * (128 * a + b) + (c - 128)) rest)) f
      (third_spelled o a b (c - 128) rest l e pa la lb (omega arith) s.1))
]

first_spelled : (o a : ℕ) (rest : List ℕ) → o < 256 → o % 32 ≡ 31 → 0 < a → a < 128 → IsTrue (are_octets rest) → Spelled (o ∷ (128 + a) ∷ rest) (read_digits o 3 a rest)
first_spelled o a [] l e pa la h = tt
first_spelled o a (b ∷ rest) l e pa la h = elim (two_cases (nat_lt b 128)) [
  | inl i ↦ let lb = ltb-true _ _ i in
      subst (Spelled (o ∷ (128 + a) ∷ b ∷ rest)) (sym (last_digit o 2 a b rest lb))
      (spelled_by o (128 * a + b) ((128 + a) ∷ b ∷ []) rest l e (omega arith) (two a b pa la lb refl) (omega arith))
  | inr i ↦
      let s = octet_small b rest h in let lb = ltb-false _ _ i in
      let f : 128 + (b - 128) ≡ b = omega arith in
      subst (Spelled (o ∷ (128 + a) ∷ b ∷ rest)) (sym (more_digit o 2 a b rest lb))
      (subst (λ (z : ℕ). Spelled (o ∷ (128 + a) ∷ z ∷ rest) (read_digits o 2 (128 * a + (b - 128)) rest)) f
      (second_spelled o a (b - 128) rest l e pa la (omega arith) s.1))
]

number_spelled : (o : ℕ) (rest : List ℕ) → o < 256 → o % 32 ≡ 31 → IsTrue (are_octets rest) → Spelled (o ∷ rest) (read_number o rest)
number_spelled o [] l e h = tt
number_spelled o (a ∷ rest) l e h = elim (two_cases (nat_lt a 31 || nat_eq a 128)) [
  | inl i ↦ rw i tt
  | inr i ↦ rw i (elim (two_cases (nat_lt a 128)) [
    | inl j ↦ rw j (let la : a < 128 = ltb-true _ _ j in let m : 31 ≤ a = grind (arith, i) in spelled_by o a (a ∷ []) rest l e m (one la) (omega arith))
    | inr j ↦ rw j (
        let s = octet_small a rest h in let la = ltb-false _ _ j in
        let f : 128 + (a - 128) ≡ a = omega arith in
        let g : 0 < a - 128 = grind (arith, i) in
        subst (λ (z : ℕ). Spelled (o ∷ z ∷ rest) (read_digits o 3 (a - 128) rest)) f (first_spelled o (a - 128) rest l e g (omega arith) s.1))
  ])
]

identifier_spelled : (w : List ℕ) → IsTrue (are_octets w) → Spelled w (read_identifier w)
identifier_spelled [] h = tt
identifier_spelled (o ∷ rest) h =
    let s = octet_small o rest h in
    elim (two_cases (nat_eq o 0)) [
      | inl i ↦ rw i tt
      | inr i ↦ rw i (elim (two_cases (nat_eq (o % 32) 31)) [
        | inl j ↦ rw j (number_spelled o rest s.0 (let e : o % 32 ≡ 31 = grind (arith, j) in e) s.1)
        | inr j ↦ rw j (let q = low_identifier o s.0 i j in (q.0, ap (λ z. z ++ rest) q.1))
      ])
    ]

pub read_is_identifier : (w : List ℕ) (t : Tag) (f : Bool) (rest : List ℕ) → IsTrue (are_octets w) → read_identifier w ≡ found t f rest → HasIdentifier t f × (w ≡ identifier t f ++ rest)
read_is_identifier w t f rest h e = subst (Spelled w) e (identifier_spelled w h)

pub octets_left : (a b : List ℕ) → IsTrue (are_octets (a ++ b)) → IsTrue (are_octets a)
octets_left [] b h = refl
octets_left (x ∷ a) b h = let p = and_parts (nat_lt x 256) (are_octets (a ++ b)) h in let q : nat_lt x 256 ≡ true = p.0 in rw q (octets_left a b p.1)

pub octets_right : (a b : List ℕ) → IsTrue (are_octets (a ++ b)) → IsTrue (are_octets b)
octets_right [] b h = h
octets_right (x ∷ a) b h = octets_right a b ((and_parts (nat_lt x 256) (are_octets (a ++ b)) h).1)

pub octets_join : (a b : List ℕ) → IsTrue (are_octets a) → IsTrue (are_octets b) → IsTrue (are_octets (a ++ b))
octets_join [] b h k = k
octets_join (x ∷ a) b h k = let p = and_parts (nat_lt x 256) (are_octets a) h in let q : nat_lt x 256 ≡ true = p.0 in rw q (octets_join a b p.1 k)

pub below_256 : (a : List ℕ) → IsTrue (are_octets a) → AllBelowBase 256 a
below_256 [] h = tt
below_256 (x ∷ a) h = let p = octet_small x a h in (p.0, below_256 a p.1)

-- a length that is read
abbrev SpelledLength : Bool → List ℕ → LengthRead → Type 0
SpelledLength f w (definite n rest) = (os : List ℕ) × IsLength n os × (w ≡ os ++ rest)
SpelledLength f w (indefinite rest) = (f ≡ true) × (w ≡ 128 ∷ rest)
SpelledLength f w part_length = Unit {0}
SpelledLength f w no_length = Unit {0}

long_spelled : (f : Bool) (a : ℕ) (rest : List ℕ) → IsTrue (are_octets rest) → a < 256 → 128 < a → nat_eq a 255 ≡ false → a - 128 ≤ length rest
    → SpelledLength f (a ∷ rest) (definite (number_from_digits 256 (take (a - 128) rest)) (drop (a - 128) rest))
long_spelled f a rest h l g n le =
    let os = take (a - 128) rest in
    let s : take (a - 128) rest ++ drop (a - 128) rest ≡ rest = take-append-drop (a - 128) rest in
    let k : length os ≡ a - 128 = length-take-le (a - 128) rest le in
    let b : a ≤ 254 = grind (arith, n) in
    let o : AllBelowBase 256 os = below_256 os (octets_left os (drop (a - 128) rest) (subst (λ z. IsTrue (are_octets z)) (sym s) h)) in
    let i : a ≡ 128 + length os = omega (arith, k) in
    ((128 + length os) ∷ os, long (omega (arith, k)) (omega (arith, k)) o refl, ap₂ ◌∷◌ i (sym s))

length_spelled : (f : Bool) (w : List ℕ) → IsTrue (are_octets w) → SpelledLength f w (read_length f w)
length_spelled f [] h = tt
length_spelled f (a ∷ rest) h =
    let s = octet_small a rest h in
    elim (two_cases (nat_lt a 128)) [
      | inl i ↦ let la = ltb-true _ _ i in rw i (a ∷ [], short (omega arith), refl)
      | inr i ↦ rw i (elim (two_cases (nat_eq a 255)) [
        | inl j ↦ rw j tt
        | inr j ↦ rw j (elim (two_cases (nat_eq a 128)) [
          | inl k ↦ rw k (marked f (let e : a ≡ 128 = grind (arith, k) in e))
          | inr k ↦ rw k (elim (two_cases (nat_le (a - 128) (length rest))) [
            | inl m ↦ rw m (long_spelled f a rest s.1 s.0 (let e : 128 < a = grind (arith, i, k) in e) j (let e : a - 128 ≤ length rest = grind (arith, m) in e))
            | inr m ↦ rw m tt
          ])
        ])
      ])
    ]
  where
    marked : (f : Bool) → a ≡ 128 → SpelledLength f (a ∷ rest) (if f then indefinite rest else no_length)
    marked true e = (refl, ap (λ (z : ℕ). z ∷ rest) e)
    marked false e = tt

pub read_is_length : (f : Bool) (w : List ℕ) (n : ℕ) (rest : List ℕ) → IsTrue (are_octets w) → read_length f w ≡ definite n rest → (os : List ℕ) × IsLength n os × (w ≡ os ++ rest)
read_is_length f w n rest h e = subst (SpelledLength f w) e (length_spelled f w h)

pub read_is_indefinite : (f : Bool) (w rest : List ℕ) → IsTrue (are_octets w) → read_length f w ≡ indefinite rest → (f ≡ true) × (w ≡ 128 ∷ rest)
read_is_indefinite f w rest h e = subst (SpelledLength f w) e (length_spelled f w h)

-- what is read stays where octets are appended
abbrev LongerIdentifier : List ℕ → IdentifierRead → IdentifierRead → Type 0
LongerIdentifier x (found t f rest) r = r ≡ found t f (rest ++ x)
LongerIdentifier x no_identifier r = r ≡ no_identifier
LongerIdentifier x part_identifier r = Unit {0}

longer_if : (x : List ℕ) (b : Bool) (r s u v : IdentifierRead) → LongerIdentifier x r u → LongerIdentifier x s v → LongerIdentifier x (if b then r else s) (if b then u else v)
longer_if x true r s u v h k = h
longer_if x false r s u v h k = k

longer_body : (x : List ℕ) (o left h a : ℕ) (w : List ℕ) → LongerIdentifier x (read_digits o left (128 * h + (a - 128)) w) (read_digits o left (128 * h + (a - 128)) (w ++ x)) → (b : Bool)
    → LongerIdentifier x (digit_body o left h a w b) (digit_body o left h a (w ++ x) b)
longer_body x o left h a w k true = refl
longer_body x o left h a w k false = k

longer_digits : (x : List ℕ) (o left h : ℕ) (w : List ℕ) → LongerIdentifier x (read_digits o left h w) (read_digits o left h (w ++ x))
longer_digits x o zero h w = refl
longer_digits x o (suc left) h [] = tt
longer_digits x o (suc left) h (a ∷ w) = longer_body x o left h a w (longer_digits x o left (128 * h + (a - 128)) w) (nat_lt a 128)

longer_number : (x : List ℕ) (o : ℕ) (w : List ℕ) → LongerIdentifier x (read_number o w) (read_number o (w ++ x))
longer_number x o [] = tt
longer_number x o (a ∷ w) =
    longer_if x (nat_lt a 31 || nat_eq a 128) _ _ _ _ refl (longer_if x (nat_lt a 128) _ _ _ _ refl (longer_digits x o 3 (a - 128) w))

longer_identifier : (x w : List ℕ) → LongerIdentifier x (read_identifier w) (read_identifier (w ++ x))
longer_identifier x [] = tt
longer_identifier x (o ∷ w) = longer_if x (nat_eq o 0) _ _ _ _ refl (longer_if x (nat_eq (o % 32) 31) _ _ _ _ (longer_number x o w) refl)

pub identifier_longer : (w x : List ℕ) (t : Tag) (f : Bool) (rest : List ℕ) → read_identifier w ≡ found t f rest → read_identifier (w ++ x) ≡ found t f (rest ++ x)
identifier_longer w x t f rest e = subst (λ r. LongerIdentifier x r (read_identifier (w ++ x))) e (longer_identifier x w)

pub no_identifier_longer : (w x : List ℕ) → read_identifier w ≡ no_identifier → read_identifier (w ++ x) ≡ no_identifier
no_identifier_longer w x e = subst (λ r. LongerIdentifier x r (read_identifier (w ++ x))) e (longer_identifier x w)

abbrev LongerLength : List ℕ → LengthRead → LengthRead → Type 0
LongerLength x (definite n rest) r = r ≡ definite n (rest ++ x)
LongerLength x (indefinite rest) r = r ≡ indefinite (rest ++ x)
LongerLength x no_length r = r ≡ no_length
LongerLength x part_length r = Unit {0}

longer_length_if : (x : List ℕ) (b : Bool) (r s u v : LengthRead) → LongerLength x r u → LongerLength x s v → LongerLength x (if b then r else s) (if b then u else v)
longer_length_if x true r s u v h k = h
longer_length_if x false r s u v h k = k

longer_mark : (x w : List ℕ) (f : Bool) → LongerLength x (if f then indefinite w else no_length) (if f then indefinite (w ++ x) else no_length)
longer_mark x w true = refl
longer_mark x w false = refl

longer_long : (x w : List ℕ) (n : ℕ) → LongerLength x (if nat_le n (length w) then definite (number_from_digits 256 (take n w)) (drop n w) else part_length)
    (if nat_le n (length (w ++ x)) then definite (number_from_digits 256 (take n (w ++ x))) (drop n (w ++ x)) else part_length)
longer_long x w n = elim (two_cases (nat_le n (length w))) [
  | inl m ↦
      let le : n ≤ length w = grind (arith, m) in
      let k : nat_le n (length (w ++ x)) ≡ true = grind (arith, length-append w x) in
      rw (m, k, take-append-le n w x le, drop-append-le n w x le) refl
  | inr m ↦ rw m tt
]

longer_length : (x : List ℕ) (f : Bool) (w : List ℕ) → LongerLength x (read_length f w) (read_length f (w ++ x))
longer_length x f [] = tt
longer_length x f (a ∷ w) =
    longer_length_if x (nat_lt a 128) _ _ _ _ refl (longer_length_if x (nat_eq a 255) _ _ _ _ refl (longer_length_if x (nat_eq a 128) _ _ _ _ (longer_mark x w f) (longer_long x w (a - 128))))

pub length_longer : (f : Bool) (w x : List ℕ) (n : ℕ) (rest : List ℕ) → read_length f w ≡ definite n rest → read_length f (w ++ x) ≡ definite n (rest ++ x)
length_longer f w x n rest e = subst (λ r. LongerLength x r (read_length f (w ++ x))) e (longer_length x f w)

pub indefinite_longer : (f : Bool) (w x rest : List ℕ) → read_length f w ≡ indefinite rest → read_length f (w ++ x) ≡ indefinite (rest ++ x)
indefinite_longer f w x rest e = subst (λ r. LongerLength x r (read_length f (w ++ x))) e (longer_length x f w)

pub no_length_longer : (f : Bool) (w x : List ℕ) → read_length f w ≡ no_length → read_length f (w ++ x) ≡ no_length
no_length_longer f w x e = subst (λ r. LongerLength x r (read_length f (w ++ x))) e (longer_length x f w)
