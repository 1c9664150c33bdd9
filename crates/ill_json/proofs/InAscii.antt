-- A text of JSON in ASCII is read as the same tokens as the text: DEL and what is beyond ASCII stands in strings only.
use Rattle.std.proofs.Common.{◌≡◌, ◌⊎◌, inl, inr, ℕ, zero, suc, ◌+◌, ◌-◌, ◌*◌, ◌/◌, ◌%◌, ◌<◌, ◌≤◌, Bool, true, false, cond, ◌&&◌, ◌||◌, ◌==◌, nat_lt, List, [], ◌∷◌, ◌++◌, length, get_or, drop, flat_map, Option, Some, None, option_and_then, IsUtf8, encode_utf8_all, refl, sym, ap, ap₂, subst, ◌∙◌, arith, append_assoc, append-nil, lt-ltb, le-ltb, ltb-true}
use Rattle.std.specs.Bool.{⊤}
use Rattle.std.specs.Char.{digit_char, digit_value, encode_utf8, is_ascii_digit}
use Rattle.std.specs.Char.Escape.{encode_utf16}
use Rattle.std.specs.List.{list_all, prefix_len}
use Rattle.std.specs.Str.{chars}
use Rattle.std.proofs.lemmas.Bool.{and_parts, cases_eq, cases_lt, ne_eqb, eqb-true, or_cases}
use Rattle.std.proofs.lemmas.Bool.Decides.{nat_tests}
use Rattle.std.proofs.lemmas.List.Concat.{flat_map-append}
use Rattle.std.proofs.lemmas.Str.{IsUtf8-append, IsUtf8-nil, IsUtf8-encode, chars-append, chars-encodes, chars-nil, digit_value-digit_char, encode_ascii, inside_one}
use lib.Utf8.{low_scalar, scalar, scalars, scalar_cases}
use Rattle.json.specs.Json.{Items, Json, Members}
use Rattle.json.specs.Json as json
use Rattle.json.specs.Lex.{Lexeme, Mode, between, colon, comma, in_string, lex, lex_byte, operator, other, punctuate, fresh, space, string_token, token, tokens}
use Rattle.json.specs.Print.{ArePrintable, IsNumber, IsPrintable, begins, ends, escape, escape_byte, escape_letter, print, print_from, quoted, token_text}
use Rattle.json.specs.Text.{after_high, code_unit, content, is_high_surrogate, is_low_surrogate, plain as in_text, prepend, short_escape, surrogate_pair}
use Rattle.json.specs.Token.{Token, bad, begin_array, begin_object, boolean, end_array, end_object, key, null, number, string}
use Rattle.json.specs.Tree.{items_tokens, json_tokens, members_tokens}
use Rattle.json.specs.Word.{after_digits, after_exponent, after_fraction, after_minus, after_number, after_sign, after_whole, ends_word, head, is_operator, is_space, word}
use Rattle.json.proofs.Printed.Numbers.{in_word-ended, lex-number}
use Rattle.json.proofs.Printed.Strings.{content-escape, escape_byte_plain, lex-escape}
use Rattle.json.proofs.Printed.Tokens.{tokens-print}
use Rattle.json.proofs.Printed.Utf8.{IsUtf8-are_ascii, IsUtf8-key, IsUtf8-quoted, are_ascii}
use Rattle.ill_json.specs.Json.{plain, unit_text}

abbrev pub in_ascii : List ℕ → List ℕ
in_ascii text = flat_map plain (chars text)

-- ---- texts below DEL

abbrev pub are_low : List ℕ → Bool
are_low = list_all (λ x. nat_lt x 127)

low_ascii : (xs : List ℕ) → are_low xs ≡ true → are_ascii xs ≡ true
low_ascii [] e = refl
low_ascii (x ∷ xs) e =
    let p = and_parts _ _ e in
    let small : x < 127 = ltb-true x 127 p.0 in
    rw (lt-ltb x 128 (omega arith)) (low_ascii xs p.1)

pub IsUtf8-are_low : (xs : List ℕ) → are_low xs ≡ true → IsUtf8 xs
IsUtf8-are_low xs e = IsUtf8-are_ascii xs (low_ascii xs e)

pub in_ascii-append : (xs ys : List ℕ) → IsUtf8 xs → in_ascii (xs ++ ys) ≡ in_ascii xs ++ in_ascii ys
in_ascii-append xs ys u = ap (flat_map plain) (chars-append xs ys u) ∙ flat_map-append plain (chars xs) (chars ys)

in_ascii-encode : (c : ℕ) → scalar c ≡ true → in_ascii (encode_utf8 c) ≡ plain c
in_ascii-encode c ok =
    ap (λ (l : List ℕ). in_ascii l) (sym (append-nil (encode_utf8 c)))
    ∙ ap (flat_map plain) (chars-encodes (c ∷ []) (ap (λ b. b && true) ok)) ∙ append-nil (plain c)

plain_low : (x : ℕ) → x < 127 → plain x ≡ x ∷ []
plain_low x h = rw (lt-ltb x 127 h) refl

pub in_ascii-cons : (x : ℕ) (xs : List ℕ) → x < 127 → in_ascii (x ∷ xs) ≡ x ∷ in_ascii xs
in_ascii-cons x xs h =
    let small : x < 128 = omega arith in
    let ok = low_scalar x (omega arith) in
    let one = encode_ascii x small in
    in_ascii-append (x ∷ []) xs (subst IsUtf8 one (IsUtf8-encode x ok))
    ∙ ap (λ (l : List ℕ). l ++ in_ascii xs) (ap in_ascii (sym one) ∙ in_ascii-encode x ok ∙ plain_low x h)

pub in_ascii-are_low : (xs : List ℕ) → are_low xs ≡ true → in_ascii xs ≡ xs
in_ascii-are_low [] e = ap (flat_map plain) chars-nil
in_ascii-are_low (x ∷ xs) e =
    let p = and_parts _ _ e in
    in_ascii-cons x xs (ltb-true x 127 p.0) ∙ ap (λ (l : List ℕ). x ∷ l) (in_ascii-are_low xs p.1)

-- ---- a unit of UTF-16 in four digits

code_of : (a b c d p q r s : ℕ) → digit_value a ≡ p → digit_value b ≡ q → digit_value c ≡ r → digit_value d ≡ s → p < 16 → q < 16 → r < 16 → s < 16
    → code_unit a b c d ≡ Some (p * 4096 + q * 256 + r * 16 + s)
unfolding code_unit
code_of a b c d p q r s e f g h i j k l = rw (e, f, g, h, lt-ltb p 16 i, lt-ltb q 16 j, lt-ltb r 16 k, lt-ltb s 16 l) refl

unit_code : (u : ℕ) → u < 65536 → code_unit (digit_char (u / 4096 % 16)) (digit_char (u / 256 % 16)) (digit_char (u / 16 % 16)) (digit_char (u % 16)) ≡ Some u
unit_code u h =
    code_of _ _ _ _ _ _ _ _ (digit_value-digit_char (u / 4096 % 16) (omega arith)) (digit_value-digit_char (u / 256 % 16) (omega arith)) (digit_value-digit_char (u / 16 % 16) (omega arith))
    (digit_value-digit_char (u % 16) (omega arith)) (omega arith) (omega arith) (omega arith) (omega arith)
    ∙ ap Some (let same : u / 4096 % 16 * 4096 + u / 256 % 16 * 256 + u / 16 % 16 * 16 + u % 16 ≡ u = omega arith in same)

-- what follows a unit that was read
abbrev after_unit : List ℕ → ℕ → Option (List ℕ)
after_unit r u = cond (is_high_surrogate u) (content (after_high u) r) (cond (is_low_surrogate u) None (prepend (encode_utf8 u) (content in_text r)))

content-unit : (u : ℕ) (r : List ℕ) → u < 65536 → content in_text (unit_text u ++ r) ≡ after_unit r u
unfolding content
content-unit u r h = ap (option_and_then (after_unit r)) (unit_code u h)

-- ---- a character in a string

-- the lexer stays inside a string
stays : (o s : Bool) (x : ℕ) (r : List ℕ) (k : Mode → List Lexeme) → lex_byte in_string (cond o operator (cond s space other)) x r k ≡ k in_string
stays true s x r k = refl
stays false true x r k = refl
stays false false x r k = refl

lex-inside : (x : ℕ) (r : List ℕ) → (x ≡ 34 → ⊥) → (x ≡ 92 → ⊥) → lex in_string (x ∷ r) ≡ lex in_string r
unfolding lex
lex-inside x r q b = rw (ne_eqb x 34 q, ne_eqb x 92 b) (stays (is_operator x) (is_space x) x r (λ m. lex m r))

lex-digit : (d : ℕ) (r : List ℕ) → d < 16 → lex in_string (digit_char d ∷ r) ≡ lex in_string r
lex-digit d r h =
    let value : digit_value (digit_char d) ≡ d = digit_value-digit_char d (omega arith) in
    lex-inside (digit_char d) r
    (λ e. let q : 36 ≡ d = sym (ap digit_value e) ∙ value in absurd (omega (arith, q)))
    (λ e. let q : 36 ≡ d = sym (ap digit_value e) ∙ value in absurd (omega (arith, q)))

lex-digits : (p q s t : ℕ) (r : List ℕ) → p < 16 → q < 16 → s < 16 → t < 16 → lex in_string (92 ∷ 117 ∷ digit_char p ∷ digit_char q ∷ digit_char s ∷ digit_char t ∷ r) ≡ lex in_string r
unfolding lex
lex-digits p q s t r h i j k = lex-digit p _ h ∙ lex-digit q _ i ∙ lex-digit s _ j ∙ lex-digit t r k

lex-unit : (u : ℕ) (r : List ℕ) → lex in_string (unit_text u ++ r) ≡ lex in_string r
lex-unit u r = lex-digits (u / 4096 % 16) (u / 256 % 16) (u / 16 % 16) (u % 16) r (omega arith) (omega arith) (omega arith) (omega arith)

-- w is what stands in a string for the character c
record StandsFor (c : ℕ) (w : List ℕ) : Type 0 where
  read : (r : List ℕ) → content in_text (w ++ r) ≡ prepend (encode_utf8 c) (content in_text r)
  lexed : (r : List ℕ) → lex in_string (w ++ r) ≡ lex in_string r

one_unit : (c : ℕ) → scalar c ≡ true → c < 65536 → StandsFor c (unit_text c)
one_unit c ok h =
    let high : is_high_surrogate c ≡ false = grind (arith, nat_tests, scalar_cases c ok) in
    let low : is_low_surrogate c ≡ false = grind (arith, nat_tests, scalar_cases c ok) in
    record { read = λ r. content-unit c r h ∙ rw (high, low) refl; lexed = lex-unit c }

after_high_unit : (u : ℕ) (r : List ℕ) → is_high_surrogate u ≡ true → after_unit r u ≡ content (after_high u) r
after_high_unit u r e = ap (λ (b : Bool). cond b (content (after_high u) r) (cond (is_low_surrogate u) None (prepend (encode_utf8 u) (content in_text r)))) e

-- the second unit of a pair
content-low : (h l : ℕ) (r : List ℕ) → l < 65536 → is_low_surrogate l ≡ true → content (after_high h) (unit_text l ++ r) ≡ prepend (encode_utf8 (surrogate_pair h l)) (content in_text r)
unfolding content
content-low h l r small low =
    ap (option_and_then (λ (u : ℕ). cond (is_low_surrogate u) (prepend (encode_utf8 (surrogate_pair h u)) (content in_text r)) None)) (unit_code l small)
    ∙ ap (λ (b : Bool). cond b (prepend (encode_utf8 (surrogate_pair h l)) (content in_text r)) None) low

two_units : (c : ℕ) → scalar c ≡ true → 65536 ≤ c → StandsFor c (unit_text (0xD800 + (c - 65536) / 1024) ++ unit_text (0xDC00 + (c - 65536) % 1024))
two_units c ok h =
    let u = 0xD800 + (c - 65536) / 1024 in
    let v = 0xDC00 + (c - 65536) % 1024 in
    let top : c < 1114112 = grind (arith, scalar_cases c ok) in
    let high : is_high_surrogate u ≡ true = grind (arith, nat_tests) in
    let low : is_low_surrogate v ≡ true = grind (arith, nat_tests) in
    let same : surrogate_pair u v ≡ c = omega arith in
    record {
      read = λ r. ap (content in_text) (append_assoc (unit_text u) (unit_text v) r) ∙ content-unit u (unit_text v ++ r) (omega arith)
          ∙ after_high_unit u (unit_text v ++ r) high ∙ content-low u v r (omega arith) low ∙ ap (λ (x : ℕ). prepend (encode_utf8 x) (content in_text r)) same;
      lexed = λ r. ap (lex in_string) (append_assoc (unit_text u) (unit_text v) r) ∙ lex-unit u _ ∙ lex-unit v r;
    }

by_units : (c : ℕ) → scalar c ≡ true → StandsFor c (flat_map unit_text (encode_utf16 c))
by_units c ok = elim (cases_lt c 65536) [
  | inl small ↦ rw (lt-ltb c 65536 small, append-nil) (one_unit c ok small)
  | inr big ↦ rw (le-ltb c 65536 big, append-nil) (two_units c ok big)
]

-- ---- the escape of a byte

abbrev lows : ℕ → Bool
lows zero = true
lows (suc n) = are_low (escape_byte n) && lows n

lows_at : (n : ℕ) → lows n ≡ true → (x : ℕ) → x < n → are_low (escape_byte x) ≡ true
lows_at zero e x h = absurd (omega arith)
lows_at (suc n) e x h =
    let p = and_parts _ _ e in
    elim (cases_eq x n) [ inl same ↦ rw same p.0 | inr different ↦ lows_at n p.1 x (omega arith) ]

all_low : lows 127 ≡ true
unfolding escape_byte
all_low = refl

-- a letter after the backslash
short : (x : ℕ) → (x ≡ 34) ⊎ (x ≡ 92) ⊎ (x ≡ 8) ⊎ (x ≡ 12) ⊎ (x ≡ 10) ⊎ (x ≡ 13) ⊎ (x ≡ 9) → StandsFor x (escape_byte x)
unfolding escape_byte content lex short_escape encode_utf8
short x (inl e) = subst (λ y. StandsFor y (escape_byte y)) (sym e) (record { read = λ r. refl; lexed = λ r. refl })
short x (inr (inl e)) = subst (λ y. StandsFor y (escape_byte y)) (sym e) (record { read = λ r. refl; lexed = λ r. refl })
short x (inr (inr (inl e))) = subst (λ y. StandsFor y (escape_byte y)) (sym e) (record { read = λ r. refl; lexed = λ r. refl })
short x (inr (inr (inr (inl e)))) = subst (λ y. StandsFor y (escape_byte y)) (sym e) (record { read = λ r. refl; lexed = λ r. refl })
short x (inr (inr (inr (inr (inl e))))) = subst (λ y. StandsFor y (escape_byte y)) (sym e) (record { read = λ r. refl; lexed = λ r. refl })
short x (inr (inr (inr (inr (inr (inl e)))))) = subst (λ y. StandsFor y (escape_byte y)) (sym e) (record { read = λ r. refl; lexed = λ r. refl })
short x (inr (inr (inr (inr (inr (inr e)))))) = subst (λ y. StandsFor y (escape_byte y)) (sym e) (record { read = λ r. refl; lexed = λ r. refl })

no_letter : (x : ℕ) → nat_lt 0 (escape_letter x) ≡ false → x < 32 → escape_byte x ≡ unit_text x
unfolding escape_byte
no_letter x e h =
    let a : 0 ≡ x / 4096 % 16 = omega arith in
    let b : 0 ≡ x / 256 % 16 = omega arith in
    let d : x / 16 ≡ x / 16 % 16 = omega arith in
    rw (e, lt-ltb x 32 h) (λ i. 92 ∷ 117 ∷ digit_char (a i) ∷ digit_char (b i) ∷ digit_char (d i) ∷ digit_char (x % 16) ∷ [])

by_itself : (x : ℕ) → (x ≡ 34 → ⊥) → (x ≡ 92 → ⊥) → 32 ≤ x → x < 127 → StandsFor x (escape_byte x)
unfolding content
by_itself x q b l h =
    let is = escape_byte_plain x q b l in
    let one = encode_ascii x (omega arith) in
    record { read = λ r. rw (is, ne_eqb x 34 q, ne_eqb x 92 b, le-ltb x 32 l, one) refl; lexed = λ r. rw is (lex-inside x r q b) }

escape_stands : (x : ℕ) → x < 127 → StandsFor x (escape_byte x)
escape_stands x h = by (cases_eq x 34) (cases_eq x 92) (cases_eq x 8) (cases_eq x 12) (cases_eq x 10) (cases_eq x 13) (cases_eq x 9) (cases_lt x 32)
  where
    by : (x ≡ 34) ⊎ (x ≡ 34 → ⊥) → (x ≡ 92) ⊎ (x ≡ 92 → ⊥) → (x ≡ 8) ⊎ (x ≡ 8 → ⊥) → (x ≡ 12) ⊎ (x ≡ 12 → ⊥) → (x ≡ 10) ⊎ (x ≡ 10 → ⊥) → (x ≡ 13) ⊎ (x ≡ 13 → ⊥) → (x ≡ 9) ⊎ (x ≡ 9 → ⊥)
        → (x < 32) ⊎ (32 ≤ x) → StandsFor x (escape_byte x)
    by (inl e) _ _ _ _ _ _ _ = short x (inl e)
    by _ (inl e) _ _ _ _ _ _ = short x (inr (inl e))
    by _ _ (inl e) _ _ _ _ _ = short x (inr (inr (inl e)))
    by _ _ _ (inl e) _ _ _ _ = short x (inr (inr (inr (inl e))))
    by _ _ _ _ (inl e) _ _ _ = short x (inr (inr (inr (inr (inl e)))))
    by _ _ _ _ _ (inl e) _ _ = short x (inr (inr (inr (inr (inr (inl e))))))
    by _ _ _ _ _ _ (inl e) _ = short x (inr (inr (inr (inr (inr (inr e))))))
    by (inr a) (inr b) (inr c) (inr d) (inr f) (inr g) (inr k) (inl l) =
        let none : nat_lt 0 (escape_letter x) ≡ false = rw (ne_eqb x 34 a, ne_eqb x 92 b, ne_eqb x 8 c, ne_eqb x 12 d, ne_eqb x 10 f, ne_eqb x 13 g, ne_eqb x 9 k) refl in
        subst (StandsFor x) (sym (no_letter x none l)) (one_unit x (low_scalar x (omega arith)) (omega arith))
    by (inr a) (inr b) _ _ _ _ _ (inr l) = by_itself x a b l h

-- ---- the escape of a character

escape-append : (xs ys : List ℕ) → escape (xs ++ ys) ≡ escape xs ++ escape ys
escape-append xs ys = flat_map-append escape_byte xs ys

escape_high : (xs : List ℕ) → ((k : ℕ) → k < length xs → 127 ≤ get_or xs k 0) → escape xs ≡ xs
escape_high [] h = refl
escape_high (x ∷ xs) h =
    let first : 127 ≤ x = h 0 (omega arith) in
    ap₂ (λ (a b : List ℕ). a ++ b) (escape_byte_plain x (λ e. omega arith) (λ e. omega arith) (omega arith)) (escape_high xs (λ k l. h (suc k) (omega arith)))

escape-encode : (c : ℕ) → 127 ≤ c → escape (encode_utf8 c) ≡ encode_utf8 c
escape-encode c h = escape_high (encode_utf8 c) (λ k l. elim (cases_lt (get_or (encode_utf8 c) k 0) 127) [
  | inl low ↦ absurd (omega (arith, inside_one c [] (encode_utf8 c) k (sym (append-nil _)) l (omega arith)))
  | inr high ↦ high
])

-- the escape of c is UTF-8, and its form in ASCII stands for c
record Written (c : ℕ) : Type 0 where
  utf8 : IsUtf8 (escape (encode_utf8 c))
  stands : StandsFor c (in_ascii (escape (encode_utf8 c)))

written : (c : ℕ) → scalar c ≡ true → Written c
written c ok = elim (cases_lt c 127) [
  | inl small ↦
      let is : escape_byte c ≡ escape (encode_utf8 c) = sym (ap escape (encode_ascii c (omega arith)) ∙ append-nil (escape_byte c)) in
      let low = lows_at 127 all_low c small in
      record {
        utf8 = subst IsUtf8 is (IsUtf8-are_low (escape_byte c) low);
        stands = subst (StandsFor c) (sym (in_ascii-are_low (escape_byte c) low) ∙ ap in_ascii is) (escape_stands c small);
      }
  | inr big ↦
      let is = escape-encode c big in
      let units : flat_map unit_text (encode_utf16 c) ≡ plain c = rw (le-ltb c 127 big) refl in
      record {
        utf8 = subst IsUtf8 (sym is) (IsUtf8-encode c ok);
        stands = subst (StandsFor c) (units ∙ sym (in_ascii-encode c ok) ∙ ap in_ascii (sym is)) (by_units c ok);
      }
]

-- ---- strings

escape-utf8 : (cs : List ℕ) → scalars cs ≡ true → IsUtf8 (escape (encode_utf8_all cs))
escape-utf8 [] e = IsUtf8-nil
escape-utf8 (c ∷ cs) e =
    let p = and_parts _ _ e in
    subst IsUtf8 (sym (escape-append (encode_utf8 c) (encode_utf8_all cs))) (IsUtf8-append _ _ (written c p.0).utf8 (escape-utf8 cs p.1))

-- the first character, and those after it
in_ascii-escape : (c : ℕ) (cs r : List ℕ) → scalar c ≡ true
    → in_ascii (escape (encode_utf8_all (c ∷ cs))) ++ r ≡ in_ascii (escape (encode_utf8 c)) ++ (in_ascii (escape (encode_utf8_all cs)) ++ r)
in_ascii-escape c cs r ok =
    ap (λ (l : List ℕ). in_ascii l ++ r) (escape-append (encode_utf8 c) (encode_utf8_all cs))
    ∙ ap (λ (l : List ℕ). l ++ r) (in_ascii-append (escape (encode_utf8 c)) (escape (encode_utf8_all cs)) (written c ok).utf8)
    ∙ append_assoc (in_ascii (escape (encode_utf8 c))) (in_ascii (escape (encode_utf8_all cs))) r

content-in_ascii : (cs r : List ℕ) → scalars cs ≡ true → content in_text (in_ascii (escape (encode_utf8_all cs)) ++ 34 ∷ r) ≡ Some (encode_utf8_all cs)
unfolding content
content-in_ascii [] r e = ap (λ (l : List ℕ). content in_text (flat_map plain l ++ 34 ∷ r)) chars-nil
content-in_ascii (c ∷ cs) r e =
    let p = and_parts _ _ e in
    ap (content in_text) (in_ascii-escape c cs (34 ∷ r) p.0) ∙ (written c p.0).stands.read _ ∙ ap (prepend (encode_utf8 c)) (content-in_ascii cs r p.1)

lex-in_ascii : (cs r : List ℕ) → scalars cs ≡ true → lex in_string (in_ascii (escape (encode_utf8_all cs)) ++ 34 ∷ r) ≡ lex between r
unfolding lex
lex-in_ascii [] r e = ap (λ (l : List ℕ). lex in_string (flat_map plain l ++ 34 ∷ r)) chars-nil
lex-in_ascii (c ∷ cs) r e =
    let p = and_parts _ _ e in
    ap (lex in_string) (in_ascii-escape c cs (34 ∷ r) p.0) ∙ (written c p.0).stands.lexed _ ∙ lex-in_ascii cs r p.1

in_ascii-quoted : (s : List ℕ) → IsUtf8 (escape s) → in_ascii (quoted s) ≡ 34 ∷ (in_ascii (escape s) ++ 34 ∷ [])
in_ascii-quoted s u =
    in_ascii-cons 34 _ (omega arith)
    ∙ ap (λ (l : List ℕ). 34 ∷ l) (in_ascii-append (escape s) (34 ∷ []) u ∙ ap (λ (l : List ℕ). in_ascii (escape s) ++ l) (in_ascii-are_low (34 ∷ []) refl))

-- a string and its form in ASCII are one lexeme
lex-quoted : (s r q : List ℕ) → IsUtf8 s → lex between r ≡ lex between q → lex between (in_ascii (quoted s) ++ r) ≡ lex between (quoted s ++ q)
unfolding lex
lex-quoted s r q u same =
    let is = u.1.1 in
    let escaped = subst (λ l. IsUtf8 (escape l)) is (escape-utf8 u.0 u.1.0) in
    let read = subst (λ l. content in_text (in_ascii (escape l) ++ 34 ∷ r) ≡ Some l) is (content-in_ascii u.0 r u.1.0) in
    let passed = subst (λ l. lex in_string (in_ascii (escape l) ++ 34 ∷ r) ≡ lex between r) is (lex-in_ascii u.0 r u.1.0) in
    ap (λ (l : List ℕ). lex between (l ++ r)) (in_ascii-quoted s escaped)
    ∙ ap (λ (l : List ℕ). lex between (34 ∷ l)) (append_assoc (in_ascii (escape s)) (34 ∷ []) r)
    ∙ ap₂ (λ (o : Option (List ℕ)) (l : List Lexeme). token (string_token o) ∷ l) (read ∙ sym (content-escape s q)) (passed ∙ same ∙ sym (lex-escape s q))
    ∙ ap (λ (l : List ℕ). lex between (34 ∷ l)) (sym (append_assoc (escape s) (34 ∷ []) q))

-- ---- numbers are below DEL

-- what is before the rest is below DEL
abbrev Leaves : List ℕ → Option (List ℕ) → Type 0
Leaves t None = ⊤
Leaves t (Some r) = are_low r ≡ true → are_low t ≡ true

leaves_also : (t u : List ℕ) (o : Option (List ℕ)) → (are_low u ≡ true → are_low t ≡ true) → Leaves u o → Leaves t o
leaves_also t u None f h = tt
leaves_also t u (Some r) f h = λ e. f (h e)

leaves_then : (t : List ℕ) (o : Option (List ℕ)) (f : List ℕ → Option (List ℕ)) → Leaves t o → ((u : List ℕ) → Leaves u (f u)) → Leaves t (option_and_then f o)
leaves_then t None f h g = tt
leaves_then t (Some r) f h g = leaves_also t r (f r) h (g r)

first_low : (t : List ℕ) → head t < 127 → are_low (drop 1 t) ≡ true → are_low t ≡ true
first_low [] h e = refl
first_low (x ∷ xs) h e = rw (lt-ltb x 127 h) e

digits_low : (t : List ℕ) → are_low (drop (prefix_len is_ascii_digit t) t) ≡ true → are_low t ≡ true
digits_low [] h = refl
digits_low (x ∷ xs) h = by (is_ascii_digit x) refl h (digits_low xs)
  where
    by : (b : Bool) → is_ascii_digit x ≡ b → are_low (drop (cond b (1 + prefix_len is_ascii_digit xs) 0) (x ∷ xs)) ≡ true
        → (are_low (drop (prefix_len is_ascii_digit xs) xs) ≡ true → are_low xs ≡ true) → are_low (x ∷ xs) ≡ true
    by false e k f = k
    by true e k f =
        let small : x < 127 = grind (arith, nat_tests) in
        let next : 1 + prefix_len is_ascii_digit xs ≡ suc (prefix_len is_ascii_digit xs) = omega arith in
        rw (lt-ltb x 127 small) (f (subst (λ (n : ℕ). are_low (drop n (x ∷ xs)) ≡ true) next k))

after_digits_low : (t : List ℕ) → Leaves t (after_digits t)
after_digits_low t = by (prefix_len is_ascii_digit t == 0)
  where
    by : (b : Bool) → Leaves t (cond b None (Some (drop (prefix_len is_ascii_digit t) t)))
    by true = tt
    by false = digits_low t

-- the first byte is passed, or not
maybe_first : (t : List ℕ) (b : Bool) → (b ≡ true → head t < 127) → are_low (cond b (drop 1 t) t) ≡ true → are_low t ≡ true
maybe_first t true f e = first_low t (f refl) e
maybe_first t false f e = e

whole_low : (t : List ℕ) → Leaves t (after_whole t)
whole_low t = by (head t == 48) (λ e. omega (arith, eqb-true (head t) 48 e))
  where
    by : (b : Bool) → (b ≡ true → head t < 127) → Leaves t (cond b (Some (drop 1 t)) (after_digits t))
    by true f = first_low t (f refl)
    by false f = after_digits_low t

fraction_low : (t : List ℕ) → Leaves t (after_fraction t)
fraction_low t = by (head t == 46) (λ e. omega (arith, eqb-true (head t) 46 e))
  where
    by : (b : Bool) → (b ≡ true → head t < 127) → Leaves t (cond b (after_digits (drop 1 t)) (Some t))
    by true f = leaves_also t (drop 1 t) _ (first_low t (f refl)) (after_digits_low (drop 1 t))
    by false f = λ e. e

either_low : (x a b : ℕ) → a < 127 → b < 127 → ((x == a) || (x == b)) ≡ true → x < 127
either_low x a b h k e = elim (or_cases (x == a) (x == b) e) [ inl f ↦ omega (arith, eqb-true x a f) | inr f ↦ omega (arith, eqb-true x b f) ]

exponent_low : (t : List ℕ) → Leaves t (after_exponent t)
exponent_low t = by ((head t == 101) || (head t == 69)) (either_low (head t) 101 69 (omega arith) (omega arith))
  where
    signed : (u : List ℕ) → Leaves u (after_digits (after_sign u))
    signed u = leaves_also u (after_sign u) _ (maybe_first u _ (either_low (head u) 45 43 (omega arith) (omega arith))) (after_digits_low (after_sign u))

    by : (b : Bool) → (b ≡ true → head t < 127) → Leaves t (cond b (after_digits (after_sign (drop 1 t))) (Some t))
    by true f = leaves_also t (drop 1 t) _ (first_low t (f refl)) (signed (drop 1 t))
    by false f = λ e. e

number_low : (s : List ℕ) → IsNumber s → are_low s ≡ true
unfolding after_number
number_low s h =
    let minus = leaves_also s (after_minus s) (after_whole (after_minus s)) (maybe_first s (head s == 45) (λ e. omega (arith, eqb-true (head s) 45 e))) (whole_low (after_minus s)) in
    subst (Leaves s) h (leaves_then s _ after_exponent (leaves_then s _ after_fraction minus fraction_low) exponent_low) refl

-- ---- tokens

-- a string or a key is UTF-8
abbrev IsText : Token → Type 0
IsText begin_object = ⊤
IsText end_object = ⊤
IsText begin_array = ⊤
IsText end_array = ⊤
IsText (key s) = IsUtf8 s
IsText (string s) = IsUtf8 s
IsText (number s) = ⊤
IsText (boolean b) = ⊤
IsText null = ⊤
IsText bad = ⊤

abbrev pub AreTexts : List Token → Type 0
AreTexts [] = ⊤
AreTexts (t ∷ ts) = IsText t × AreTexts ts

AreTexts-append : (ts us : List Token) → AreTexts ts → AreTexts us → AreTexts (ts ++ us)
AreTexts-append [] us h k = k
AreTexts-append (t ∷ ts) us h k = (h.0, AreTexts-append ts us h.1 k)

pub token_utf8 : (t : Token) → IsPrintable t → IsText t → IsUtf8 (token_text t)
token_utf8 begin_object h k = IsUtf8-are_low _ refl
token_utf8 end_object h k = IsUtf8-are_low _ refl
token_utf8 begin_array h k = IsUtf8-are_low _ refl
token_utf8 end_array h k = IsUtf8-are_low _ refl
token_utf8 (key s) h k = IsUtf8-key s k
token_utf8 (string s) h k = IsUtf8-quoted s k
token_utf8 (number s) h k = IsUtf8-are_low s (number_low s h)
token_utf8 (boolean true) h k = IsUtf8-are_low _ refl
token_utf8 (boolean false) h k = IsUtf8-are_low _ refl
token_utf8 null h k = IsUtf8-are_low _ refl
token_utf8 bad h k = IsUtf8-nil

lex-low : (s r q : List ℕ) → are_low s ≡ true → lex between (s ++ r) ≡ lex between (s ++ q) → lex between (in_ascii s ++ r) ≡ lex between (s ++ q)
lex-low s r q low same = ap (λ (l : List ℕ). lex between (l ++ r)) (in_ascii-are_low s low) ∙ same

pub lex-token : (t : Token) (r q : List ℕ) → IsPrintable t → IsText t → (ends t ≡ true → ends_word r ≡ true) → (ends t ≡ true → ends_word q ≡ true) → lex between r ≡ lex between q
    → lex between (in_ascii (token_text t) ++ r) ≡ lex between (token_text t ++ q)
unfolding lex word
lex-token begin_object r q h k f g same = lex-low _ r q refl (ap (λ (l : List Lexeme). token begin_object ∷ l) same)
lex-token end_object r q h k f g same = lex-low _ r q refl (ap (λ (l : List Lexeme). token end_object ∷ l) same)
lex-token begin_array r q h k f g same = lex-low _ r q refl (ap (λ (l : List Lexeme). token begin_array ∷ l) same)
lex-token end_array r q h k f g same = lex-low _ r q refl (ap (λ (l : List Lexeme). token end_array ∷ l) same)
lex-token (key s) r q h k f g same =
    ap (λ (l : List ℕ). lex between (l ++ r)) (in_ascii-append (quoted s) (58 ∷ []) (IsUtf8-quoted s k) ∙ ap (λ (l : List ℕ). in_ascii (quoted s) ++ l) (in_ascii-are_low (58 ∷ []) refl))
    ∙ ap (lex between) (append_assoc (in_ascii (quoted s)) (58 ∷ []) r)
    ∙ lex-quoted s (58 ∷ r) (58 ∷ q) k (ap (λ (l : List Lexeme). colon ∷ l) same)
    ∙ ap (lex between) (sym (append_assoc (quoted s) (58 ∷ []) q))
lex-token (string s) r q h k f g same = lex-quoted s r q k same
lex-token (number s) r q h k f g same =
    lex-low s r q (number_low s h) (lex-number s r h (f refl) ∙ ap (λ (l : List Lexeme). token (number s) ∷ l) same ∙ sym (lex-number s q h (g refl)))
lex-token (boolean true) r q h k f g same =
    lex-low _ r q refl (ap₂ (λ (b : Bool) (l : List Lexeme). token (cond b (boolean true) bad) ∷ l) (f refl ∙ sym (g refl)) (in_word-ended r (f refl) ∙ same ∙ sym (in_word-ended q (g refl))))
lex-token (boolean false) r q h k f g same =
    lex-low _ r q refl (ap₂ (λ (b : Bool) (l : List Lexeme). token (cond b (boolean false) bad) ∷ l) (f refl ∙ sym (g refl)) (in_word-ended r (f refl) ∙ same ∙ sym (in_word-ended q (g refl))))
lex-token null r q h k f g same =
    lex-low _ r q refl (ap₂ (λ (b : Bool) (l : List Lexeme). token (cond b null bad) ∷ l) (f refl ∙ sym (g refl)) (in_word-ended r (f refl) ∙ same ∙ sym (in_word-ended q (g refl))))
lex-token bad r q h k f g same = absurd h

-- ---- texts

end_low : (x : ℕ) → (is_operator x || is_space x) ≡ true → x < 127
end_low x e = grind (arith, nat_tests)

pub ends_in_ascii : (s : List ℕ) → ends_word s ≡ true → ends_word (in_ascii s) ≡ true
ends_in_ascii [] e = ap (λ (l : List ℕ). ends_word (flat_map plain l)) chars-nil
ends_in_ascii (x ∷ xs) e = ap ends_word (in_ascii-cons x xs (end_low x e)) ∙ e

-- after a value stands a comma, a closing bracket or nothing
after_value_ends : (ts : List Token) → ends_word (print_from true ts) ≡ true
unfolding print_from
after_value_ends [] = refl
after_value_ends (begin_object ∷ ts) = refl
after_value_ends (end_object ∷ ts) = refl
after_value_ends (begin_array ∷ ts) = refl
after_value_ends (end_array ∷ ts) = refl
after_value_ends (key s ∷ ts) = refl
after_value_ends (string s ∷ ts) = refl
after_value_ends (number s ∷ ts) = refl
after_value_ends (boolean b ∷ ts) = refl
after_value_ends (null ∷ ts) = refl
after_value_ends (bad ∷ ts) = refl

pub value_ends : (t : Token) (ts : List Token) → ends t ≡ true → ends_word (print_from (ends t) ts) ≡ true
value_ends t ts e = ap (λ (b : Bool). ends_word (print_from b ts)) e ∙ after_value_ends ts

lex-comma : (b : Bool) (r q : List ℕ) → lex between (in_ascii r) ≡ lex between q → lex between (in_ascii (cond b (44 ∷ []) [] ++ r)) ≡ lex between (cond b (44 ∷ []) [] ++ q)
unfolding lex
lex-comma true r q same = ap (lex between) (in_ascii-cons 44 r (omega arith)) ∙ ap (λ (l : List Lexeme). comma ∷ l) same
lex-comma false r q same = same

lex-print_from : (c : Bool) (ts : List Token) → ArePrintable ts → AreTexts ts → lex between (in_ascii (print_from c ts)) ≡ lex between (print_from c ts)
unfolding print_from ArePrintable
lex-print_from c [] h k = ap (λ (l : List ℕ). lex between (flat_map plain l)) chars-nil
lex-print_from c (t ∷ ts) h k =
    let rest = print_from (ends t) ts in
    lex-comma (c && begins t) (token_text t ++ rest) (token_text t ++ rest)
    (ap (lex between) (in_ascii-append (token_text t) rest (token_utf8 t h.0 k.0))
    ∙ lex-token t (in_ascii rest) rest h.0 k.0 (λ e. ends_in_ascii rest (value_ends t ts e)) (value_ends t ts) (lex-print_from (ends t) ts h.1 k.1))

-- the text of tokens is read back from its form in ASCII
pub tokens-in_ascii : (ts : List Token) → ArePrintable ts → AreTexts ts → tokens (in_ascii (print ts)) ≡ ts
tokens-in_ascii ts h k = ap (punctuate fresh) (lex-print_from false ts h k) ∙ tokens-print ts h

-- ---- values

-- each string and each key is UTF-8
abbrev mutual
  pub HasTexts : Json → Type 0
  HasTexts json.null = ⊤
  HasTexts (json.boolean b) = ⊤
  HasTexts (json.number s) = ⊤
  HasTexts (json.string s) = IsUtf8 s
  HasTexts (json.array js) = ItemsHaveTexts js
  HasTexts (json.object ms) = MembersHaveTexts ms

  pub ItemsHaveTexts : Items → Type 0
  ItemsHaveTexts json.no_items = ⊤
  ItemsHaveTexts (json.item j js) = HasTexts j × ItemsHaveTexts js

  pub MembersHaveTexts : Members → Type 0
  MembersHaveTexts json.no_members = ⊤
  MembersHaveTexts (json.member k j ms) = IsUtf8 k × HasTexts j × MembersHaveTexts ms

mutual
  pub AreTexts-json_tokens : (j : Json) → HasTexts j → AreTexts (json_tokens j)
  AreTexts-json_tokens json.null h = (tt, tt)
  AreTexts-json_tokens (json.boolean b) h = (tt, tt)
  AreTexts-json_tokens (json.number s) h = (tt, tt)
  AreTexts-json_tokens (json.string s) h = (h, tt)
  AreTexts-json_tokens (json.array js) h = (tt, AreTexts-items_tokens js h)
  AreTexts-json_tokens (json.object ms) h = (tt, AreTexts-members_tokens ms h)

  AreTexts-items_tokens : (js : Items) → ItemsHaveTexts js → AreTexts (items_tokens js)
  AreTexts-items_tokens json.no_items h = (tt, tt)
  AreTexts-items_tokens (json.item j js) h = AreTexts-append _ _ (AreTexts-json_tokens j h.0) (AreTexts-items_tokens js h.1)

  AreTexts-members_tokens : (ms : Members) → MembersHaveTexts ms → AreTexts (members_tokens ms)
  AreTexts-members_tokens json.no_members h = (tt, tt)
  AreTexts-members_tokens (json.member k j ms) h = (h.0, AreTexts-append _ _ (AreTexts-json_tokens j h.1) (AreTexts-members_tokens ms h.2))
