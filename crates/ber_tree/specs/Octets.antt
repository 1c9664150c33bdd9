use Rattle.std.specs.Prelude.{ℕ, Bool, List, nat_lt}
use Rattle.std.specs.List.{list_all}

-- each number of the list is an octet
abbrev pub are_octets : List ℕ → Bool
are_octets = list_all (λ octet. nat_lt octet 256)
