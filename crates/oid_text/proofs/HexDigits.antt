-- Octets in hexadecimal digits.
use Rattle.std.proofs.Common.{◌≡◌, ℕ, ◌+◌, ◌*◌, ◌/◌, ◌%◌, ◌<◌, true, List, [], ◌∷◌, ◌++◌, length, codes, slice_index, IsTrue, refl, sym, ap, ap₂, subst, ◌∙◌, arith, nat_lt, nat_eq, ltb-true, lt-ltb, append_assoc}
use Rattle.std.proofs.lemmas.Bool.{agree_below_at, and_from, and_parts, eqb-true}
use Rattle.std.proofs.lemmas.List.Concat.{flat_map-append}
use Rattle.std.proofs.lemmas.Str.{digit_value-digit_char}
use Rattle.std.specs.Char.{digit_char, digit_value}
use Rattle.ber_tree.specs.Octets.{are_octets}
use Rattle.ber_tree.proofs.Lists.{cells}
use Rattle.ill_schema.specs.Texts.{digits, hexadecimal}

-- the digit of a value is the character that std says
digit_at : (n : ℕ) → n < 16 → slice_index (codes "0123456789abcdef") n ≡ digit_char n
digit_at n l = eqb-true _ _ (agree_below_at (λ k. nat_eq (slice_index (codes "0123456789abcdef") k) (digit_char k)) (λ _. true) 16 n refl l)

-- the digits of an octet, by the values of its halves
pub digits_are : (n : ℕ) → n < 256 → digits n ≡ digit_char (n / 16) ∷ digit_char (n % 16) ∷ []
digits_are n l = ap₂ (λ (a b : ℕ). a ∷ b ∷ []) (digit_at (n / 16) (omega (arith, l))) (digit_at (n % 16) (omega arith))

-- a digit says its value
pub digit_once : (m n : ℕ) → m < 16 → n < 16 → digit_char m ≡ digit_char n → m ≡ n
digit_once m n h k e = sym (digit_value-digit_char m (omega (arith, h))) ∙ ap digit_value e ∙ digit_value-digit_char n (omega (arith, k))

-- digits say their octet, and where they end
pub digits_once : (m n : ℕ) (x y : List ℕ) → m < 256 → n < 256 → digits m ++ x ≡ digits n ++ y → (m ≡ n) × (x ≡ y)
digits_once m n x y h k e =
    let f = cells (sym (ap (λ z. z ++ x) (digits_are m h)) ∙ e ∙ ap (λ z. z ++ y) (digits_are n k)) in
    let g = cells f.1 in
    let high : m / 16 ≡ n / 16 = digit_once (m / 16) (n / 16) (omega (arith, h)) (omega (arith, k)) f.0 in
    let low : m % 16 ≡ n % 16 = digit_once (m % 16) (n % 16) (omega arith) (omega arith) g.0 in
    (omega (arith, high, low), g.1)

-- octets are an octet and others
pub octet_parts : (a : ℕ) (o : List ℕ) → IsTrue (are_octets (a ∷ o)) → (a < 256) × IsTrue (are_octets o)
octet_parts a o h = let p = and_parts (nat_lt a 256) (are_octets o) h in (ltb-true _ _ p.0, p.1)

-- octets are all that their digits say
pub hexadecimal_once : (a b : List ℕ) → IsTrue (are_octets a) → IsTrue (are_octets b) → hexadecimal a ≡ hexadecimal b → a ≡ b
hexadecimal_once [] [] h k e = refl
hexadecimal_once [] (y ∷ b) h k e = absurd (omega (arith, ap length e))
hexadecimal_once (x ∷ a) [] h k e = absurd (omega (arith, ap length e))
hexadecimal_once (x ∷ a) (y ∷ b) h k e =
    let i = octet_parts x a h in
    let j = octet_parts y b k in
    let u = digits_once x y (hexadecimal a) (hexadecimal b) i.0 j.0 e in
    ap₂ ◌∷◌ u.0 (hexadecimal_once a b i.1 j.1 u.1)

-- a text whose first octet is no digit begins with the digits of no octet
pub no_high : (text after rest : List ℕ) (high n : ℕ) → text ≡ high ∷ after → ((m : ℕ) → m < 16 → high ≡ digit_char m → ⊥) → n < 256 → text ≡ digits n ++ rest → ⊥
no_high text after rest high n e lacks l f = lacks (n / 16) (omega (arith, l)) (cells (sym e ∙ f ∙ ap (λ z. z ++ rest) (digits_are n l))).0

-- the same of the second octet
pub no_low : (text after rest more : List ℕ) (high low n : ℕ) → text ≡ high ∷ after → after ≡ low ∷ more → ((m : ℕ) → m < 16 → low ≡ digit_char m → ⊥) → n < 256 → text ≡ digits n ++ rest → ⊥
no_low text after rest more high low n e g lacks l f =
    lacks (n % 16) (omega arith) (cells (sym g ∙ (cells (sym e ∙ f ∙ ap (λ z. z ++ rest) (digits_are n l))).1)).0

-- two digits are those of an octet
pub octet_digits : (text after rest : List ℕ) (high low a b : ℕ) → text ≡ high ∷ after → after ≡ low ∷ rest → a < 16 → high ≡ digit_char a → b < 16 → low ≡ digit_char b → (16 * a + b < 256) × (text ≡ digits (16 * a + b) ++ rest)
octet_digits text after rest high low a b e f h p k q =
    let front : (16 * a + b) / 16 ≡ a = omega (arith, k) in
    let back : (16 * a + b) % 16 ≡ b = omega (arith, k) in
    let both : digits (16 * a + b) ≡ digit_char a ∷ digit_char b ∷ [] = digits_are (16 * a + b) (omega (arith, h, k)) ∙ ap₂ (λ (m n : ℕ). digit_char m ∷ digit_char n ∷ []) front back in
    (omega (arith, h, k), e ∙ ap (λ z. high ∷ z) f ∙ ap₂ (λ (m n : ℕ). m ∷ n ∷ rest) p q ∙ ap (λ z. z ++ rest) (sym both))

-- one octet more is two digits more
pub hexadecimal_more : (text octets now left rest : List ℕ) (octet : ℕ) → text ≡ hexadecimal octets ++ left → left ≡ digits octet ++ rest → now ≡ octets ++ octet ∷ [] → text ≡ hexadecimal now ++ rest
hexadecimal_more text octets now left rest octet e f g =
    let all : hexadecimal now ≡ hexadecimal octets ++ digits octet = ap hexadecimal g ∙ flat_map-append digits octets (octet ∷ []) in
    e ∙ ap (λ z. hexadecimal octets ++ z) f ∙ sym (append_assoc (hexadecimal octets) (digits octet) rest) ∙ ap (λ z. z ++ rest) (sym all)

-- octets and one more are octets
pub octets_more : (octets now : List ℕ) (octet : ℕ) → IsTrue (are_octets octets) → octet < 256 → now ≡ octets ++ octet ∷ [] → IsTrue (are_octets now)
octets_more octets now octet ok l e = subst (λ z. IsTrue (are_octets z)) (sym e) (push octets ok)
  where
    push : (o : List ℕ) → IsTrue (are_octets o) → IsTrue (are_octets (o ++ octet ∷ []))
    push [] h = and_from (nat_lt octet 256) true (lt-ltb octet 256 l) refl
    push (x ∷ o) h = let p = and_parts (nat_lt x 256) (are_octets o) h in and_from (nat_lt x 256) (are_octets (o ++ octet ∷ [])) p.0 (push o p.1)

-- where the digits of an octet begin a text of octets, the others follow
pub octets_behind : (left rest : List ℕ) (octet : ℕ) (all : List ℕ) → octet < 256 → left ≡ digits octet ++ rest → IsTrue (are_octets all) → left ≡ hexadecimal all → (more : List ℕ) × IsTrue (are_octets more) × (rest ≡ hexadecimal more)
octets_behind left rest octet [] l e ok f = absurd (omega (arith, ap length (sym e ∙ f)))
octets_behind left rest octet (x ∷ all) l e ok f =
    let p = octet_parts x all ok in
    (all, p.1, (digits_once octet x rest (hexadecimal all) l p.0 (sym e ∙ f)).1)

-- where none do, it is of no octets
pub no_octets : (left all : List ℕ) → 0 < length left → ((n : ℕ) (rest : List ℕ) → n < 256 → left ≡ digits n ++ rest → ⊥) → IsTrue (are_octets all) → left ≡ hexadecimal all → ⊥
no_octets left [] some lacks ok e = absurd (omega (arith, some, ap length e))
no_octets left (x ∷ all) some lacks ok e = lacks x (hexadecimal all) (octet_parts x all ok).0 e
