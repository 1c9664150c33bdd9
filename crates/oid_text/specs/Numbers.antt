-- The numbers of an OBJECT IDENTIFIER, in octets and in text.
use Rattle.std.specs.Prelude.{◌≡◌, ℕ, ◌+◌, ◌-◌, ◌*◌, ◌/◌, ◌%◌, min, Bool, List, [], ◌∷◌, ◌++◌, decimal, map, nat_lt}
use Rattle.std.specs.Int.Digits.{digits_of}
use Rattle.std.specs.List.{list_all}
use Rattle.ill_schema.specs.Texts.{after_dot}

-- a number in the fewest octets: seven bits of each, most significant first, with bit 8 set on all but the last (X.690, 8.19.2)
abbrev pub subidentifier : ℕ → List ℕ
subidentifier n = map (λ digit. 128 + digit) (digits_of 128 (n / 128)) ++ n % 128 ∷ []

-- each number takes at most 63 bits
abbrev pub are_short : List ℕ → Bool
are_short = list_all (λ n. nat_lt n 9_223_372_036_854_775_808)

-- the text of the two components for which a first number stands (X.690, 8.19.4)
abbrev pub two_components : ℕ → List ℕ
two_components n = decimal (min 2 (n / 40)) ++ after_dot (n - 40 * min 2 (n / 40))

-- nothing follows, or a dot
abbrev pub IsAtDot : List ℕ → Type 0
IsAtDot [] = Unit {0}
IsAtDot (c ∷ text) = c ≡ 0x2E

-- no octet is a dot
abbrev pub HasNoDot : List ℕ → Type 0
HasNoDot [] = Unit {0}
HasNoDot (c ∷ text) = (c ≡ 0x2E → ⊥) × HasNoDot text
