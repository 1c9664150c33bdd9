-- The profiles by their numbers in C.
use Rattle.std.specs.Prelude.{ℕ, nat_eq, Option, Some, None, if◌then◌else◌}
use Rattle.ill_tables.specs.declared.profile.Profile.{Profile as Named}
use Rattle.ill_tables.specs.declared.profile.Profile.TheVariants.{Two, Module}

-- the profile of a number, if it has one
abbrev pub profile_numbered : ℕ → Option Named
profile_numbered number =
    if nat_eq number 2 then Some Two
    else if nat_eq number 3 then Some Module
    else None
