-- What a call leaves in the memory that the caller lends it.
use Rattle.std.specs.Prelude.{◌≡◌, ◌↔◌, ℕ, ◌≤◌, ◌<◌, List, ◌++◌, length, drop}
use Rattle.ill_refusals.specs.Fault.{Fault}
use Rattle.ill_c.specs.declared.refusal.IllcanonRefusal.{IllcanonRefusal}
use Rattle.ill_c.specs.Refusals.{reported}

-- what is somewhere in memory before and after the call
pub record Change (T : Type 0) : Type 0 where
  pub before : T
  pub after : T

abbrev pub change : {T : Type 0} → T → T → Change T
change before after = record { before = before; after = after }

abbrev pub Stays : {T : Type 0} → Change T → Type 0
Stays x = x.after ≡ x.before

-- the octets are at the front of the buffer, what follows them is as it was, and their number is reported
pub record Fills (octets : List ℕ) (buffer : Change (List ℕ)) (size : Change ℕ) : Type 0 where
  pub fits : length octets ≤ length buffer.before
  pub written : buffer.after ≡ octets ++ drop (length octets) buffer.before
  pub counted : size.after ≡ length octets

-- the buffer is too short for the octets, and is as it was, and their number is reported
pub record IsTooShort (octets : List ℕ) (buffer : Change (List ℕ)) (size : Change ℕ) : Type 0 where
  pub short : length buffer.before < length octets
  pub kept : Stays buffer
  pub counted : size.after ≡ length octets

-- a fault of which this holds is reported
abbrev pub Reports : (Fault → Type 0) → Change IllcanonRefusal → Type 0
Reports Refuses refusal = (f : Fault) × Refuses f × (refusal.after ≡ reported f)

-- the number is 1 where the fact holds, and 0 where it doesn't
abbrev pub IsFlag : ℕ → Type 0 → Type 0
IsFlag n P = (n ≤ 1) × (n ≡ 1 ↔ P)
