-- The text of a BIT STRING, after the number of bits.
use Rattle.std.specs.Prelude.{ℕ, List, [], ◌∷◌, ◌++◌, codes}
use Rattle.ill_schema.specs.Texts.{hexadecimal}

-- the octets that bits fill, if there are any
abbrev pub filled_text : List ℕ → List ℕ
filled_text [] = []
filled_text (a ∷ octets) = codes " " ++ hexadecimal (a ∷ octets)
