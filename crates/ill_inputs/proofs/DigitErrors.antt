-- Which errors digits have.
use Rattle.std.proofs.Common.{◌≡◌, ◌≢◌, ℕ, ◌+◌, ◌*◌, Bool, true, false, List, [], ◌∷◌, length, Option, Some, None, Result, Ok, Err}
use Rattle.std.specs.Prelude.{if◌then◌else◌, ◌==◌, ◌%◌}
use Rattle.hex.specs.Hex.{decode_of, decode_pairs, digit_or_error, hex_digit_value, pair_value, value_at, ◌>>=◌}
use Rattle.hex.specs.declared.error.FromHexError.{FromHexError}
use Rattle.hex.specs.declared.error.FromHexError.TheVariants.{InvalidStringLength, OddLength}

-- the error is none of a buffer's length
abbrev IsOfDigits : {A : Type 0} → Result A FromHexError → Type 0
IsOfDigits r = r ≢ Err InvalidStringLength

of_ok : {A : Type 0} (a : A) → IsOfDigits (Ok a)
of_ok a e = absurd cc

both : {A B : Type 0} (r : Result A FromHexError) (f : A → Result B FromHexError) → IsOfDigits r → ((a : A) → IsOfDigits (f a)) → IsOfDigits (r >>= f)
both (Ok a) f h k e = k a e
both (Err error) f h k e = h (let same : error ≡ InvalidStringLength = cc in cc)

digit : (c i : ℕ) (value : Option ℕ) → IsOfDigits (digit_or_error c i value)
digit c i (Some v) e = absurd cc
digit c i None e = absurd cc

pairs : (i : ℕ) (text : List ℕ) → IsOfDigits (decode_pairs i text)
unfolding decode_pairs
pairs i [] e = absurd cc
pairs i (c ∷ []) e = absurd cc
pairs i (high ∷ low ∷ rest) e =
    both (pair_value high low i) (λ byte. decode_pairs (i + 2) rest >>= (λ bytes. Ok (byte ∷ bytes)))
    (both (value_at high i) (λ h. value_at low (i + 1) >>= (λ l. Ok (h * 16 + l))) (digit high i (hex_digit_value high))
    (λ h. both (value_at low (i + 1)) (λ l. Ok (h * 16 + l)) (digit low (i + 1) (hex_digit_value low)) (λ l. of_ok (h * 16 + l))))
    (λ byte. both (decode_pairs (i + 2) rest) (λ bytes. Ok (byte ∷ bytes)) (pairs (i + 2) rest) (λ bytes. of_ok (byte ∷ bytes))) e

pub of_digits : (text : List ℕ) → decode_of text ≢ Err InvalidStringLength
of_digits text = even (length text % 2 == 1)
  where
    even : (b : Bool) → IsOfDigits (if b then Err OddLength else decode_pairs 0 text)
    even true e = absurd cc
    even false e = pairs 0 text e
