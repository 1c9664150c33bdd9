-- Whole numbers and their decimals.
use Rattle.std.proofs.Common.{◌≡◌, ◌∙◌, ℕ, zero, suc, ◌<◌, ◌^◌, Bool, true, not, ◌&&◌, ◌==◌, List, [], ◌∷◌, ℤ, pos, negsuc, Result, Ok, get_or, refl, sym, ap, arith, FitsSigned, w64}
use Rattle.std.specs.Prelude.{IsTrue}
use Rattle.std.specs.Char.{is_ascii_digit}
use Rattle.std.specs.Fmt.{decimal, signed_decimal}
use Rattle.std.specs.Int.Signed.{mag}
use Rattle.std.specs.List.{list_all}
use Rattle.std.specs.Str.Parse.{ParsesSigned, digits_value}
use Rattle.std.proofs.lemmas.Bool.{and_from, ne_eqb, or_left, or_right}
use Rattle.std.proofs.lemmas.Fmt.{decimal_digit, digits_decimal, first_decimal, parse-signed_decimal, signed_decimal_injective}
use Rattle.std.proofs.lemmas.Str.Parse.{IsNumeralModel, numerals_by_value}
use borrow.Author.Rules.{rules}
use Rattle.ill_texts.specs.Numbers.{is_negative, is_positive, is_whole}

small : (n : ℤ) → FitsSigned w64 n → mag n < 2 ^ 63
small (pos n) fits = grind arith
small (negsuc n) fits = grind arith

-- a text is of one number
pub number_once : (m n : ℤ) → FitsSigned w64 m → FitsSigned w64 n → signed_decimal m ≡ signed_decimal n → m ≡ n
number_once m n fits_m fits_n same = signed_decimal_injective m n (small m fits_m) (small n fits_n) same

-- the decimals of a number are parsed as the number
pub parsed-signed_decimal : {E : Type 0} (n : ℤ) (text : List ℕ) (r : Result ℤ E) → FitsSigned w64 n → text ≡ signed_decimal n → ParsesSigned w64 10 text r → r ≡ Ok n
parsed-signed_decimal n text r fits same parses = parse-signed_decimal w64 n text r fits (small n fits) same parses

-- ---- whole numbers

digits_model : IsNumeralModel (λ digits. list_all is_ascii_digit digits ≡ true) (digits_value 10)
digits_model = numerals_by_value (λ digits. list_all is_ascii_digit digits ≡ true) (search rules)

-- a text of which the first octet isn't 0 is tested for digits alone
pub is_positive-first : (text rest : List ℕ) (first : ℕ) → text ≡ first ∷ rest → (first ≡ 48 → ⊥) → is_positive text ≡ list_all is_ascii_digit text
is_positive-first text rest first whole other =
    ap is_positive whole ∙ ap (λ (b : Bool). not b && list_all is_ascii_digit (first ∷ rest)) (ne_eqb first 48 other) ∙ ap (list_all is_ascii_digit) (sym whole)

-- digits of which the first is above 0
positive_digits : (text : List ℕ) → list_all is_ascii_digit text ≡ true → 48 < get_or text 0 0 → is_positive text ≡ true
positive_digits [] digits above = absurd (omega arith)
positive_digits (first ∷ rest) digits above = and_from (not (first == 48)) (list_all is_ascii_digit (first ∷ rest)) (ap not (ne_eqb first 48 (omega arith))) digits

-- the decimals of a number above 0 are digits of which the first isn't 0
positive_decimal : (n : ℕ) → 0 < n → n < 2 ^ 64 → is_positive (decimal n) ≡ true
positive_decimal n above fits = positive_digits (decimal n) (digits_decimal digits_model n fits) (first_decimal n above fits)

-- the decimals of a natural number are those of a whole one
pub decimal_is_whole : (n : ℕ) → n < 2 ^ 64 → IsTrue (is_whole (decimal n))
decimal_is_whole zero fits = rw (decimal_digit 0 (omega arith)) refl
decimal_is_whole (suc n) fits = or_left _ _ (or_right _ _ (positive_decimal (suc n) (omega arith) fits))

-- the decimals of a number are those of a whole one
pub number_is_whole : (n : ℤ) → FitsSigned w64 n → IsTrue (is_whole (signed_decimal n))
number_is_whole (pos n) fits = let below = small (pos n) fits in decimal_is_whole n (omega (arith, below))
number_is_whole (negsuc n) fits =
    let below = small (negsuc n) fits in
    or_right (is_positive (signed_decimal (negsuc n))) (is_negative (signed_decimal (negsuc n))) (positive_decimal (suc n) (omega arith) (omega (arith, below)))
