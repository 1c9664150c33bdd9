-- A text that decodes as it is has no blanks.
use Rattle.std.proofs.Common.{◌≡◌, ℕ, ◌+◌, ◌*◌, Bool, true, false, List, [], ◌∷◌, length, Result, Ok, Err, refl, sym, ◌∙◌, arith}
use Rattle.std.specs.Prelude.{not, if◌then◌else◌, ◌==◌, ◌%◌, ◌≤◌, nat_lt}
use Rattle.hex.specs.Hex.{decode_of, decode_pairs, pair_value, value_at, ◌>>=◌}
use Rattle.hex.specs.declared.error.FromHexError.{FromHexError}
use Rattle.hex.specs.declared.error.FromHexError.TheVariants.{OddLength}
use Rattle.ill_inputs.specs.Hexadecimal.{hex_octets, is_blank, without_blanks}

-- no blank is a digit
digit_plain : (c i v : ℕ) → value_at c i ≡ Ok v → is_blank c ≡ false
digit_plain c i v h = grind (arith)

bound_first : {A B : Type 0} (r : Result A FromHexError) (f : A → Result B FromHexError) (b : B) → (r >>= f) ≡ Ok b → (a : A) × (r ≡ Ok a) × (f a ≡ Ok b)
bound_first (Ok a) f b h = (a, refl, h)
bound_first (Err e) f b h = absurd cc

keeps_both : (x y : Bool) (a b : ℕ) (rest more : List ℕ) → x ≡ false → y ≡ false → rest ≡ more
    → (if not x then a ∷ (if not y then b ∷ rest else rest) else (if not y then b ∷ rest else rest)) ≡ a ∷ b ∷ more
keeps_both x y a b rest more h k e = rw (h, k, e) refl

pub pairs_plain : (i : ℕ) (text octets : List ℕ) → decode_pairs i text ≡ Ok octets → without_blanks text ≡ text
unfolding decode_pairs
pairs_plain i [] octets h = refl
pairs_plain i (digit ∷ []) octets h = absurd cc
pairs_plain i (high ∷ low ∷ rest) octets h =
    let pair = bound_first (pair_value high low i) (λ byte. decode_pairs (i + 2) rest >>= (λ bytes. Ok (byte ∷ bytes))) octets h in
    let first = bound_first (value_at high i) (λ h. value_at low (i + 1) >>= (λ l. Ok (h * 16 + l))) pair.0 pair.1 in
    let second = bound_first (value_at low (i + 1)) (λ l. Ok (first.0 * 16 + l)) pair.0 first.2 in
    let more = bound_first (decode_pairs (i + 2) rest) (λ bytes. Ok (pair.0 ∷ bytes)) octets pair.2 in
    keeps_both (is_blank high) (is_blank low) high low (without_blanks rest) rest (digit_plain high i first.0 first.1) (digit_plain low (i + 1) second.0 second.1)
    (pairs_plain (i + 2) rest more.0 more.1)

pub text_plain : (text octets : List ℕ) → decode_of text ≡ Ok octets → without_blanks text ≡ text
text_plain text octets h = even (length text % 2 == 1) h
  where
    even : (b : Bool) → (if b then Err OddLength else decode_pairs 0 text) ≡ Ok octets → without_blanks text ≡ text
    even true k = absurd cc
    even false k = pairs_plain 0 text octets k

-- a text that has the digits of a line, and blanks
pub plain_octets : (text line octets : List ℕ) → length text ≤ 4_194_304 → without_blanks line ≡ without_blanks text → decode_of line ≡ Ok octets → hex_octets text ≡ Ok octets
plain_octets text line octets few same h =
    let short : nat_lt 4_194_304 (length text) ≡ false = grind (arith) in
    let digits : without_blanks text ≡ line = sym same ∙ text_plain line octets h in
    rw (short, digits, h) refl
