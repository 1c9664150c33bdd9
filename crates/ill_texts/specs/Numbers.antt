-- Whole numbers as texts.
use Rattle.std.specs.Prelude.{ℕ, Bool, false, not, ◌&&◌, ◌||◌, ◌==◌, List, [], ◌∷◌, codes}
use Rattle.std.specs.Char.{is_ascii_digit}
use Rattle.std.specs.List.{list_all}
use Rattle.std.specs.Str.{byte, bytes_eq}

-- digits, of which the first isn't 0
abbrev pub is_positive : List ℕ → Bool
is_positive [] = false
is_positive (first ∷ rest) = not (first == byte "0") && list_all is_ascii_digit (first ∷ rest)

-- a minus sign, and digits of which the first isn't 0
abbrev pub is_negative : List ℕ → Bool
is_negative [] = false
is_negative (sign ∷ digits) = sign == byte "-" && is_positive digits

-- a number as JSON writes it, with no fraction and no exponent, and 0 has no sign
abbrev pub is_whole : List ℕ → Bool
is_whole text = bytes_eq text (codes "0") || is_positive text || is_negative text
