-- Octets that are moved a few at a time, until they break.
use Rattle.std.specs.Prelude.{ℕ, ◌-◌, min, Bool, true, false, ◌||◌, List, ◌++◌, length, drop, Option, Some, None, option_map, nat_eq}

-- what octets are moved, at most how many in a call, how many before it breaks (None: never), and whether it is broken
pub record Moving : Type 0 where
  pub octets : List ℕ
  pub per_call : ℕ
  pub breaks_after : Option ℕ
  pub broken : Bool

abbrev is_zero : Option ℕ → Bool
is_zero None = false
is_zero (Some n) = nat_eq n 0

-- no octet moves any more
abbrev pub is_spent : Moving → Bool
is_spent m = m.broken || is_zero m.breaks_after

abbrev up_to : Option ℕ → ℕ → ℕ
up_to None n = n
up_to (Some most) n = min n most

-- how many of n octets a call moves
abbrev pub moved : Moving → ℕ → ℕ
moved m n = up_to m.breaks_after (min m.per_call n)

abbrev pub broken : Moving → Moving
broken m = record m { broken = true }

-- the first n octets are taken
abbrev pub without : Moving → ℕ → Moving
without m n = record m { octets = drop n m.octets; breaks_after = option_map (λ most. most - n) m.breaks_after }

-- these octets have come
abbrev pub with : Moving → List ℕ → Moving
with m more = record m { octets = m.octets ++ more; breaks_after = option_map (λ most. most - length more) m.breaks_after }
