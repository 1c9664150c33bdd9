-- Words of the private functions on integers, which no public clause cites.
use Rattle.std.specs.Prelude.{ℕ, ℤ, pos, negsuc, List, [], ◌∷◌, nat_lt, if◌then◌else◌}

-- the octet that may come before a number's octets and leave it the same
abbrev pub sign_octet : List ℕ → ℕ
sign_octet [] = 0
sign_octet (a ∷ _) = if nat_lt a 128 then 0 else 0xFF

-- the least n such that the number is from -(n + 1) to n
abbrev pub magnitude : ℤ → ℕ
magnitude (pos n) = n
magnitude (negsuc n) = n
