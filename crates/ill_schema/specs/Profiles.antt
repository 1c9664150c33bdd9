-- The meanings of the profiles that a program can name.
use Rattle.std.specs.Prelude.{ℕ, Bool, true, false}
use Rattle.ber_leaf.specs.Profile.{Profile, is_no_shift}
use Rattle.ill_tables.specs.declared.profile.Profile.{Profile as Named}
use Rattle.ill_tables.specs.declared.profile.Profile.TheVariants.{Two, Module}

-- the octets that a GeneralString may hold
abbrev pub general_of : Named → ℕ → Bool
general_of Two octet = is_no_shift octet
general_of Module octet = true

-- whether a message may have each row of the module
abbrev pub is_full : Named → Bool
is_full Two = false
is_full Module = true

-- all but these two is the same in both profiles
abbrev pub profile_of : Named → Profile
profile_of p = record { general = general_of p; bare = true; limit = 1_048_576; full = is_full p }
