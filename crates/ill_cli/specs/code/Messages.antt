-- The messages that are built of lines.
use Rattle.std.specs.Prelude.{◌≡◌, ℕ, List}
use Rattle.ill_schema.specs.Apdu.{Apdu, SpellsApdu, normal_form_in}
use Rattle.ill_schema.specs.Profiles.{profile_of}
use Rattle.ill_cli.specs.declared.build.BuildOptions.{BuildOptions}

-- the octets are the normal form of the APDU, within the limit of a message
abbrev pub IsNormalFormOf : BuildOptions → Apdu → List ℕ → Type 0
IsNormalFormOf work a octets = SpellsApdu (profile_of work.profile) a octets × (octets ≡ normal_form_in (profile_of work.profile) a)
