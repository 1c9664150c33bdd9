-- Octets as text: characters, hexadecimal digits, and object identifiers in decimals.
use Rattle.std.specs.Prelude.{ℕ, ◌+◌, ◌-◌, ◌*◌, ◌/◌, ◌%◌, min, nat_lt, List, [], ◌∷◌, ◌++◌, codes, decimal, slice_index, flat_map, if◌then◌else◌}
use Rattle.std.specs.Char.{encode_utf8}
use Rattle.std.specs.List.{list_all}

-- each octet is the character of its number, in UTF-8
abbrev pub characters : List ℕ → List ℕ
characters octets = flat_map encode_utf8 octets

-- an octet as two hexadecimal digits
abbrev pub digits : ℕ → List ℕ
digits octet = slice_index (codes "0123456789abcdef") (octet / 16) ∷ slice_index (codes "0123456789abcdef") (octet % 16) ∷ []

abbrev pub hexadecimal : List ℕ → List ℕ
hexadecimal octets = flat_map digits octets

-- the numbers of the subidentifiers: seven bits of each octet, most significant first, where an octet below 80 is the last (X.690, 8.19.2)
abbrev pub numbers_after : ℕ → List ℕ → List ℕ
numbers_after n [] = []
numbers_after n (a ∷ octets) =
    if nat_lt a 0x80 then (128 * n + a) ∷ numbers_after 0 octets
    else numbers_after (128 * n + (a - 0x80)) octets

-- the first number stands for two components, of which the first is 0, 1 or 2 (X.690, 8.19.4)
abbrev pub oid_components : List ℕ → List ℕ
oid_components [] = []
oid_components (n ∷ numbers) = min 2 (n / 40) ∷ (n - 40 * min 2 (n / 40)) ∷ numbers

abbrev pub after_dot : ℕ → List ℕ
after_dot n = codes "." ++ decimal n

-- numbers with dots between them
abbrev pub with_dots : List ℕ → List ℕ
with_dots [] = []
with_dots (n ∷ numbers) = decimal n ++ flat_map after_dot numbers

-- an OBJECT IDENTIFIER in decimals, unless one of its numbers takes more than 63 bits
abbrev pub oid_text : List ℕ → List ℕ
oid_text octets =
    if list_all (λ n. nat_lt n 9_223_372_036_854_775_808) (numbers_after 0 octets) then with_dots (oid_components (numbers_after 0 octets))
    else codes "oid " ++ hexadecimal octets
