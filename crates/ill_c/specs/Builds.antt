-- What the calls do that are given lines of JSON, by the status that they return: in a profile (`In`), in the profile of a number if it has one (`As`), and in profile 2.
use Rattle.std.specs.Prelude.{◌≡◌, ◌≢◌, ◌⊎◌, ℕ, Bool, false, List, Option, Some, None}
use Rattle.ber_leaf.specs.Profile.{Profile, profile_two}
use Rattle.ill_build.specs.Causes.{cause_name, cause_number}
use Rattle.ill_build.specs.Line.{IsFaultyLine, SaysApdu, pointer_of}
use Rattle.ill_build.specs.Path.{Step}
use Rattle.ill_build.specs.declared.cause.BuildCause.{BuildCause}
use Rattle.ill_schema.specs.Apdu.{Apdu, SpellsApdu, normal_form_in}
use Rattle.ill_schema.specs.Profiles.{profile_of}
use Rattle.ill_tables.specs.declared.profile.Profile.{Profile as Named}
use Rattle.ill_c.specs.Memory.{Change, Stays, Fills, IsTooShort}
use Rattle.ill_c.specs.declared.status.Status.{Status}

-- the octets spell the APDU that the line says; they are its normal form, but where defaults are written
abbrev pub IsBuilt : Bool → Profile → List ℕ → List ℕ → Type 0
IsBuilt defaults p line octets = (a : Apdu) × SaysApdu p line a × SpellsApdu p a octets × (defaults ≡ false → octets ≡ normal_form_in p a)

-- the line is refused for this cause, and the octets are the JSON pointer of the place
abbrev pub IsRefusedAt : Profile → List ℕ → BuildCause → List ℕ → Type 0
IsRefusedAt p line cause octets = (path : List Step) × IsFaultyLine p line cause path × (octets ≡ pointer_of path)

-- what is built of the line, with defaults or not, is in the buffer, or the place of its fault, and the cause is reported; or the buffer is too short for that; where memory ran out, nothing changed
abbrev pub BuildsIn : Bool → Profile → List ℕ → Change (List ℕ) → Change ℕ → Change ℕ → Status → Type 0
BuildsIn defaults p line buffer size cause Status.Done = ((octets : List ℕ) × IsBuilt defaults p line octets × Fills octets buffer size) × Stays cause
BuildsIn defaults p line buffer size cause Status.Refused = (c : BuildCause) × ((octets : List ℕ) × IsRefusedAt p line c octets × Fills octets buffer size) × (cause.after ≡ cause_number c)
BuildsIn defaults p line buffer size cause Status.NoRoom =
    ((octets : List ℕ) × (IsBuilt defaults p line octets ⊎ ((c : BuildCause) × IsRefusedAt p line c octets)) × IsTooShort octets buffer size) × Stays cause
BuildsIn defaults p line buffer size cause Status.OutOfMemory = Stays buffer × Stays size × Stays cause
BuildsIn defaults p line buffer size cause _ = ⊥

-- the same in the profile of a number; where that names no profile, the status says so, and nothing changed
abbrev pub BuildsAs : Bool → Option Named → List ℕ → Change (List ℕ) → Change ℕ → Change ℕ → Status → Type 0
BuildsAs defaults (Some p) line buffer size cause status = BuildsIn defaults (profile_of p) line buffer size cause status
BuildsAs defaults None line buffer size cause Status.UnknownProfile = Stays buffer × Stays size × Stays cause
BuildsAs defaults None line buffer size cause _ = ⊥

abbrev pub Builds : List ℕ → Change (List ℕ) → Change ℕ → Change ℕ → Status → Type 0
Builds line buffer size cause status = BuildsIn false profile_two line buffer size cause status

-- the name of the cause of a number, for which a line is refused, was put into the buffer, or no such cause has the number
abbrev pub NamesBuildCause : ℕ → Change (List ℕ) → Change ℕ → Status → Type 0
NamesBuildCause number buffer size Status.Done = (cause : BuildCause) × (cause_number cause ≡ number) × Fills (cause_name cause) buffer size
NamesBuildCause number buffer size Status.NoRoom = (cause : BuildCause) × (cause_number cause ≡ number) × IsTooShort (cause_name cause) buffer size
NamesBuildCause number buffer size Status.UnknownCause = ((cause : BuildCause) → cause_number cause ≢ number) × Stays buffer × Stays size
NamesBuildCause number buffer size _ = ⊥
