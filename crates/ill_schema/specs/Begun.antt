-- The APDU that octets begin, as far as their first octets tell.
use Rattle.std.specs.Prelude.{ℕ, ◌-◌, ◌/◌, ◌%◌, ◌==◌, ◌&&◌, ◌||◌, Bool, true, List, [], ◌∷◌, drop, Option, None, nat_lt, if◌then◌else◌}
use Rattle.ill_schema.specs.Names.{apdu_name_in}
use Rattle.ill_schema.specs.Profiles.{profile_of}
use Rattle.ill_tables.specs.declared.profile.Profile.{Profile as Named}

-- how many octets a length has that begins with this octet (X.690, 8.1.3.4 to 8.1.3.6)
abbrev pub length_size : ℕ → ℕ
length_size octet = if nat_lt 128 octet then octet - 127 else 1

-- what follows a length
abbrev pub after_length : List ℕ → List ℕ
after_length [] = []
after_length (octet ∷ octets) = drop (length_size octet) (octet ∷ octets)

-- an APDU's contents begin so: with SEQUENCE, with the first row, [0], where that stands without one, each primitive or constructed, or with an end mark
abbrev pub begins_contents : List ℕ → Bool
begins_contents [] = true
begins_contents (octet ∷ octets) = octet == 16 || octet == 48 || octet == 128 || octet == 160 || octet == 0

-- the name of the APDU of ISO 10161-1 that octets begin: of [APPLICATION n], primitive or constructed, with an APDU's contents as far as they are there
abbrev pub apdu_begun : List ℕ → Option (List ℕ)
apdu_begun [] = None
apdu_begun (octet ∷ octets) =
    if octet / 64 == 1 && begins_contents (after_length octets) then apdu_name_in (profile_of Named.Module) (octet % 32) else None
