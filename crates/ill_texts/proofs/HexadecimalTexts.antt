-- Texts of hexadecimal digits in small letters.
use Rattle.std.proofs.Common.{◌≡◌, ◌∙◌, ℕ, zero, suc, ◌+◌, ◌*◌, ◌/◌, ◌%◌, ◌<◌, ◌==◌, Bool, true, false, ◌||◌, List, [], ◌∷◌, Option, Some, None, Result, Ok, Err, slice_index, refl, sym, ap, arith, eqb-true}
use Rattle.std.specs.Prelude.{IsTrue}
use Rattle.std.specs.Char.{is_ascii_uppercase}
use Rattle.std.specs.List.{list_any}
use Rattle.std.specs.Option.{option_map_or}
use Rattle.std.specs.Result.{result_unwrap_or}
use Rattle.std.proofs.lemmas.Bool.{agree_below_at, or_from, or_parts}
use Rattle.hex.specs.Hex.{decode_of, decode_pairs, digit_or_error, encode_lower, encode_with, hex_digit_value, lower_digits, pair_value, value_at, ◌>>=◌}
use Rattle.hex.specs.declared.error.FromHexError.{FromHexError}
use Rattle.hex.proofs.HexLemmas.{decode_of-encode_lower, decode_of-even, decode_of-ok}
use Rattle.ber_tree.specs.Octets.{are_octets}
use Rattle.ill_schema.specs.Texts.{hexadecimal}
use Rattle.ill_texts.proofs.OctetLists.{octet_at, octets_from_each}

-- the hexadecimal text of octets is what `hex` encodes them as
pub hexadecimal-encode_lower : (octets : List ℕ) → hexadecimal octets ≡ encode_lower octets
unfolding encode_with
hexadecimal-encode_lower [] = refl
hexadecimal-encode_lower (octet ∷ octets) =
    ap (λ (text : List ℕ). slice_index lower_digits (octet / 16) ∷ slice_index lower_digits (octet % 16) ∷ text) (hexadecimal-encode_lower octets)

-- the text of octets is decoded as the octets
pub decode_of-hexadecimal : (octets : List ℕ) → IsTrue (are_octets octets) → decode_of (hexadecimal octets) ≡ Ok octets
decode_of-hexadecimal octets are = ap decode_of (hexadecimal-encode_lower octets) ∙ decode_of-encode_lower octets (λ k. octet_at octets k are)

-- a text is of one list of octets
pub hexadecimal_once : (a b : List ℕ) → IsTrue (are_octets a) → IsTrue (are_octets b) → hexadecimal a ≡ hexadecimal b → a ≡ b
hexadecimal_once a b are_a are_b same =
    ap (λ (r : Result (List ℕ) FromHexError). result_unwrap_or r [])
    (sym (decode_of-hexadecimal a are_a) ∙ ap decode_of same ∙ decode_of-hexadecimal b are_b)

-- ---- no capital letters

-- a test that fails at each element, and at 0, fails at each index
fails_at : (test : ℕ → Bool) (xs : List ℕ) (k : ℕ) → list_any test xs ≡ false → test 0 ≡ false → test (slice_index xs k) ≡ false
fails_at test [] k none past = past
fails_at test (x ∷ xs) zero none past = (or_parts (test x) (list_any test xs) none).0
fails_at test (x ∷ xs) (suc k) none past = fails_at test xs k (or_parts (test x) (list_any test xs) none).1 past

-- a digit is no capital letter
small_digit : (k : ℕ) → is_ascii_uppercase (slice_index lower_digits k) ≡ false
small_digit k = fails_at is_ascii_uppercase lower_digits k refl refl

-- the text of octets has no capital letter
pub no_capitals : (octets : List ℕ) → list_any is_ascii_uppercase (hexadecimal octets) ≡ false
no_capitals [] = refl
no_capitals (octet ∷ octets) = or_from _ _ (small_digit (octet / 16)) (or_from _ _ (small_digit (octet % 16)) (no_capitals octets))

-- ---- what is decoded with no capital letter

-- the digit c is a capital letter, or the digit of its value
abbrev is_of_value : ℕ → Bool
is_of_value c = option_map_or (λ v. slice_index lower_digits v == c) (hex_digit_value c) true || is_ascii_uppercase c

-- the greatest digit is `f`
digit_small : (c v : ℕ) → hex_digit_value c ≡ Some v → c < 103
digit_small c v e = grind arith

-- of a digit and its value
of_value : (c v : ℕ) → hex_digit_value c ≡ Some v → is_ascii_uppercase c ≡ false → c ≡ slice_index lower_digits v
of_value c v e small =
    let test : is_of_value c ≡ true = agree_below_at is_of_value (λ _. true) 103 c refl (digit_small c v e) in
    let told : (option_map_or (λ v. slice_index lower_digits v == c) (Some v) true || false) ≡ true = rw (e, small) at test in
    sym (eqb-true (slice_index lower_digits v) c (or_false _ told))
  where
    or_false : (b : Bool) → (b || false) ≡ true → b ≡ true
    or_false true h = refl
    or_false false h = h

-- what an `Ok` after `>>=` shows
bind_ok : {A B : Type 0} (r : Result A FromHexError) (f : A → Result B FromHexError) (y : B) → (r >>= f) ≡ Ok y → (x : A) × (r ≡ Ok x) × (f x ≡ Ok y)
bind_ok (Ok x) f y h = (x, refl, h)
bind_ok (Err e) f y h = absurd cc

-- the value of a digit that was read
digit_read : (c i : ℕ) (o : Option ℕ) (v : ℕ) → digit_or_error c i o ≡ Ok v → o ≡ Some v
digit_read c i (Some w) v h = ap Some (ap (λ (r : Result ℕ FromHexError). result_unwrap_or r 0) h)
digit_read c i None v h = absurd cc

-- an octet's two digits say its value
digits_of_value : (high low octet : ℕ) → high < 16 → low < 16 → high * 16 + low ≡ octet → (octet / 16 ≡ high) × (octet % 16 ≡ low)
digits_of_value high low octet h l e = (omega arith, omega arith)

value_small : (c v : ℕ) → hex_digit_value c ≡ Some v → v < 16
value_small c v e = grind arith

-- pairs of digits that are decoded, with no capital letter
hexadecimal-decode_pairs : (i : ℕ) (text octets : List ℕ) → decode_pairs i text ≡ Ok octets → list_any is_ascii_uppercase text ≡ false → text ≡ hexadecimal octets
unfolding decode_pairs
hexadecimal-decode_pairs i [] octets h none =
    let e : [] ≡ octets = ap (λ (r : Result (List ℕ) FromHexError). result_unwrap_or r []) h in
    ap hexadecimal e
hexadecimal-decode_pairs i (digit ∷ []) octets h none = absurd cc
hexadecimal-decode_pairs i (high ∷ low ∷ rest) octets h none =
    let pair = bind_ok (pair_value high low i) _ octets h in
    let first = bind_ok (value_at high i) _ pair.0 pair.1 in
    let second = bind_ok (value_at low (i + 1)) _ pair.0 first.2 in
    let others = bind_ok (decode_pairs (i + 2) rest) _ octets pair.2 in
    let e : pair.0 ∷ others.0 ≡ octets = ap (λ (r : Result (List ℕ) FromHexError). result_unwrap_or r []) others.2 in
    let octet : first.0 * 16 + second.0 ≡ pair.0 = ap (λ (r : Result ℕ FromHexError). result_unwrap_or r 0) second.2 in
    let high_is = digit_read high i (hex_digit_value high) first.0 first.1 in
    let low_is = digit_read low (i + 1) (hex_digit_value low) second.0 second.1 in
    let said = digits_of_value first.0 second.0 pair.0 (value_small high first.0 high_is) (value_small low second.0 low_is) octet in
    let small = or_parts (is_ascii_uppercase high) _ none in
    let smaller = or_parts (is_ascii_uppercase low) _ small.1 in
    let d : ℕ = slice_index lower_digits (pair.0 / 16) in
    let d' : ℕ = slice_index lower_digits (pair.0 % 16) in
    let high_same : high ≡ d = of_value high first.0 high_is small.0 ∙ ap (slice_index lower_digits) (sym said.0) in
    let low_same : low ≡ d' = of_value low second.0 low_is smaller.0 ∙ ap (slice_index lower_digits) (sym said.1) in
    ap (λ (c : ℕ). c ∷ low ∷ rest) high_same ∙ ap (λ (c : ℕ). d ∷ c ∷ rest) low_same
    ∙ ap (λ (l : List ℕ). d ∷ d' ∷ l) (hexadecimal-decode_pairs (i + 2) rest others.0 others.1 smaller.1)
    ∙ ap hexadecimal e

-- a text with no capital letter is that of the octets that it is decoded as
pub hexadecimal-decode_of : (text octets : List ℕ) → decode_of text ≡ Ok octets → list_any is_ascii_uppercase text ≡ false → text ≡ hexadecimal octets
hexadecimal-decode_of text octets h none = hexadecimal-decode_pairs 0 text octets (sym (decode_of-even text (decode_of-ok text octets h).0) ∙ h) none

-- what a text is decoded as are octets
pub octets-decode_of : (text octets : List ℕ) → decode_of text ≡ Ok octets → IsTrue (are_octets octets)
octets-decode_of text octets h = octets_from_each octets (decode_of-ok text octets h).3
