-- The numbers of an OBJECT IDENTIFIER, one after another.
use Rattle.std.specs.Prelude.{◌≡◌, ℕ, min, Bool, nat_lt, List, ◌∷◌}
use Rattle.std.specs.List.{list_all}
use Rattle.ill_grammar.specs.declared.outline.Mark.{Mark}
use Rattle.ill_grammar.specs.Marks.{octets_in}
use Rattle.ill_schema.specs.Texts.{numbers_after}

-- the numbers of the subidentifiers whose octets the marks have (X.690, 8.19.2)
abbrev pub numbers_in : List Mark → List ℕ
numbers_in marks = numbers_after 0 (octets_in marks)

-- the number takes 63 bits at most
abbrev pub is_short : ℕ → Bool
is_short n = nat_lt n 9_223_372_036_854_775_808

abbrev pub are_short : List ℕ → Bool
are_short = list_all is_short

-- the first number, as far as 64 bits hold it, and the octets after it
abbrev pub IsFirstNumber : List ℕ → ℕ → List ℕ → Type 0
IsFirstNumber octets number rest = (n : ℕ) × (numbers_after 0 octets ≡ n ∷ numbers_after 0 rest) × (number ≡ min n 18_446_744_073_709_551_615)
