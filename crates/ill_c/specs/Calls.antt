-- What each call does, by the status that it returns: in a profile (`In`), in the profile of a number if it has one (`As`), and in profile 2.
use Rattle.std.specs.Prelude.{◌≡◌, ◌≢◌, ℕ, ◌≤◌, List, ◌++◌, length, take, Option, Some, None}
use Rattle.std.specs.Str.{bytes_eq}
use Rattle.ber_framing.specs.Framed.{IsFrame, IsPartOfFrame}
use Rattle.ber_leaf.specs.Profile.{Profile, profile_two}
use Rattle.sha2.specs.Sha256.{sha256}
use Rattle.ill_schema.specs.Apdu.{Apdu, SpellsApdu, Accepts, normal_form_in}
use Rattle.ill_schema.specs.Causes.{cause_number}
use Rattle.ill_schema.specs.Profiles.{profile_of}
use Rattle.ill_tables.specs.declared.profile.Profile.{Profile as Named}
use Rattle.ill_schema.specs.declared.refusal.Cause.{Cause}
use Rattle.ill_refusals.specs.Fault.{Fault}
use Rattle.ill_refusals.specs.Outcome.{OnlyRefuses}
use Rattle.ill_read.specs.Answers.{IsPartIn, RefusesWholeIn}
use Rattle.ill_normal.specs.Compared.{RefusesSideIn}
use Rattle.ill_inputs.specs.declared.side.Side.{Side}
use Rattle.ill_json.specs.Json.{json_line_in}
use Rattle.ill_json.specs.declared.line.LineHead.{LineHead}
use Rattle.ill_c.specs.declared.refusal.IllcanonRefusal.{IllcanonRefusal}
use Rattle.ill_c.specs.declared.status.Status.{Status}
use Rattle.ill_c.specs.Memory.{Change, Stays, Fills, IsTooShort, Reports, IsFlag}

-- of the APDU that the octets spell, this is made
abbrev pub IsMade : Profile → (Apdu → List ℕ) → List ℕ → List ℕ → Type 0
IsMade p make s octets = (a : Apdu) × SpellsApdu p a s × (octets ≡ make a)

abbrev pub digest_in : Profile → Apdu → List ℕ
digest_in p a = sha256 (normal_form_in p a)

abbrev pub digest : Apdu → List ℕ
digest a = digest_in profile_two a

-- what the line of JSON of an APDU says beside its value: the octets s spell it, under a number and after as many octets as the offset says
abbrev pub line_head_of : ℕ → ℕ → List ℕ → Profile → Apdu → LineHead
line_head_of number offset s p a =
    record { number = number; offset = offset; octets = length s; is_normal = bytes_eq s (normal_form_in p a) }

-- that line, without the name of a file
abbrev pub json_in : ℕ → ℕ → List ℕ → Profile → Apdu → List ℕ
json_in number offset s p a = json_line_in p None (line_head_of number offset s p a) a

-- the octets are refused whatever follows them
abbrev pub RefusesFront : Profile → List ℕ → Fault → Type 0
RefusesFront p s f = OnlyRefuses p s f × (f.cause ≢ Cause.Truncated)

-- what is made of the message that s is, is in the buffer, or the buffer is too short, or s is refused; where memory ran out, nothing changed
abbrev pub WritesIn : Profile → (Apdu → List ℕ) → List ℕ → Change (List ℕ) → Change ℕ → Change IllcanonRefusal → Status → Type 0
WritesIn p make s buffer size refusal Status.Done = ((octets : List ℕ) × IsMade p make s octets × Fills octets buffer size) × Stays refusal
WritesIn p make s buffer size refusal Status.NoRoom = ((octets : List ℕ) × IsMade p make s octets × IsTooShort octets buffer size) × Stays refusal
WritesIn p make s buffer size refusal Status.Refused = Reports (RefusesWholeIn p s) refusal × Stays buffer × Stays size
WritesIn p make s buffer size refusal Status.OutOfMemory = Stays buffer × Stays size × Stays refusal
WritesIn p make s buffer size refusal _ = ⊥

-- the same in the profile of a number; where that names no profile, the status says so, and nothing changed
abbrev pub WritesAs : Option Named → (Profile → Apdu → List ℕ) → List ℕ → Change (List ℕ) → Change ℕ → Change IllcanonRefusal → Status → Type 0
WritesAs (Some p) make s buffer size refusal status = WritesIn (profile_of p) (make (profile_of p)) s buffer size refusal status
WritesAs None make s buffer size refusal Status.UnknownProfile = Stays buffer × Stays size × Stays refusal
WritesAs None make s buffer size refusal _ = ⊥

abbrev pub Writes : (Apdu → List ℕ) → List ℕ → Change (List ℕ) → Change ℕ → Change IllcanonRefusal → Status → Type 0
Writes make s buffer size refusal status = WritesIn profile_two make s buffer size refusal status

-- the number says whether the message that s is is its normal form, or s is refused
abbrev pub ChecksIn : Profile → List ℕ → Change ℕ → Change IllcanonRefusal → Status → Type 0
ChecksIn p s normal refusal Status.Done = ((a : Apdu) × SpellsApdu p a s × IsFlag normal.after (s ≡ normal_form_in p a)) × Stays refusal
ChecksIn p s normal refusal Status.Refused = Reports (RefusesWholeIn p s) refusal × Stays normal
ChecksIn p s normal refusal Status.OutOfMemory = Stays normal × Stays refusal
ChecksIn p s normal refusal _ = ⊥

abbrev pub ChecksAs : Option Named → List ℕ → Change ℕ → Change IllcanonRefusal → Status → Type 0
ChecksAs (Some p) s normal refusal status = ChecksIn (profile_of p) s normal refusal status
ChecksAs None s normal refusal Status.UnknownProfile = Stays normal × Stays refusal
ChecksAs None s normal refusal _ = ⊥

abbrev pub Checks : List ℕ → Change ℕ → Change IllcanonRefusal → Status → Type 0
Checks s normal refusal status = ChecksIn profile_two s normal refusal status

-- the number says whether the messages that s and t are are of one APDU, or s is refused, or only t is
abbrev pub ComparesIn : Profile → List ℕ → List ℕ → Change ℕ → Change IllcanonRefusal → Status → Type 0
ComparesIn p s t same refusal Status.Done =
    ((a : Apdu) × (b : Apdu) × SpellsApdu p a s × SpellsApdu p b t × IsFlag same.after (a ≡ b)) × Stays refusal
ComparesIn p s t same refusal Status.Refused = Reports (RefusesSideIn p s t Side.First) refusal × Stays same
ComparesIn p s t same refusal Status.SecondRefused = Reports (RefusesSideIn p s t Side.Second) refusal × Stays same
ComparesIn p s t same refusal Status.OutOfMemory = Stays same × Stays refusal
ComparesIn p s t same refusal _ = ⊥

abbrev pub ComparesAs : Option Named → List ℕ → List ℕ → Change ℕ → Change IllcanonRefusal → Status → Type 0
ComparesAs (Some p) s t same refusal status = ComparesIn (profile_of p) s t same refusal status
ComparesAs None s t same refusal Status.UnknownProfile = Stays same × Stays refusal
ComparesAs None s t same refusal _ = ⊥

abbrev pub Compares : List ℕ → List ℕ → Change ℕ → Change IllcanonRefusal → Status → Type 0
Compares s t same refusal status = ComparesIn profile_two s t same refusal status

-- the size is that of the message at the front of s, or s may go on to be one, or is refused whatever follows it
abbrev pub FindsIn : Profile → List ℕ → Change ℕ → Change IllcanonRefusal → Status → Type 0
FindsIn p s size refusal Status.Done = ((a : Apdu) × Accepts p s a size.after) × Stays refusal
FindsIn p s size refusal Status.NeedsMore = IsPartIn p s × Stays size × Stays refusal
FindsIn p s size refusal Status.Refused = Reports (RefusesFront p s) refusal × Stays size
FindsIn p s size refusal Status.OutOfMemory = Stays size × Stays refusal
FindsIn p s size refusal _ = ⊥

abbrev pub FindsAs : Option Named → List ℕ → Change ℕ → Change IllcanonRefusal → Status → Type 0
FindsAs (Some p) s size refusal status = FindsIn (profile_of p) s size refusal status
FindsAs None s size refusal Status.UnknownProfile = Stays size × Stays refusal
FindsAs None s size refusal _ = ⊥

abbrev pub Finds : List ℕ → Change ℕ → Change IllcanonRefusal → Status → Type 0
Finds s size refusal status = FindsIn profile_two s size refusal status

-- the normal form of the message at the front of s is in the buffer, or the buffer is too short, and where the message ends is reported; or s may go on to be one, or is refused
-- whatever follows it
abbrev pub WritesFrontIn : Profile → List ℕ → Change ℕ → Change (List ℕ) → Change ℕ → Change IllcanonRefusal → Status → Type 0
WritesFrontIn p s read buffer size refusal Status.Done = ((a : Apdu) × Accepts p s a read.after × Fills (normal_form_in p a) buffer size) × Stays refusal
WritesFrontIn p s read buffer size refusal Status.NoRoom = ((a : Apdu) × Accepts p s a read.after × IsTooShort (normal_form_in p a) buffer size) × Stays refusal
WritesFrontIn p s read buffer size refusal Status.NeedsMore = IsPartIn p s × Stays read × Stays buffer × Stays size × Stays refusal
WritesFrontIn p s read buffer size refusal Status.Refused = Reports (RefusesFront p s) refusal × Stays read × Stays buffer × Stays size
WritesFrontIn p s read buffer size refusal Status.OutOfMemory = Stays read × Stays buffer × Stays size × Stays refusal
WritesFrontIn p s read buffer size refusal _ = ⊥

abbrev pub WritesFrontAs : Option Named → List ℕ → Change ℕ → Change (List ℕ) → Change ℕ → Change IllcanonRefusal → Status → Type 0
WritesFrontAs (Some p) s read buffer size refusal status = WritesFrontIn (profile_of p) s read buffer size refusal status
WritesFrontAs None s read buffer size refusal Status.UnknownProfile = Stays read × Stays buffer × Stays size × Stays refusal
WritesFrontAs None s read buffer size refusal _ = ⊥

abbrev pub WritesFront : List ℕ → Change ℕ → Change (List ℕ) → Change ℕ → Change IllcanonRefusal → Status → Type 0
WritesFront s read buffer size refusal status = WritesFrontIn profile_two s read buffer size refusal status

-- some text is in the buffer, of the message that s is or of what comes before its refusal, or the buffer is too short; where memory ran out, nothing changed
abbrev pub DumpsIn : Profile → List ℕ → Change (List ℕ) → Change ℕ → Change IllcanonRefusal → Status → Type 0
DumpsIn p s buffer size refusal Status.Done = ((text : List ℕ) × Fills text buffer size) × ((a : Apdu) × SpellsApdu p a s) × Stays refusal
DumpsIn p s buffer size refusal Status.Refused = ((text : List ℕ) × Fills text buffer size) × Reports (RefusesWholeIn p s) refusal
DumpsIn p s buffer size refusal Status.NoRoom = ((text : List ℕ) × IsTooShort text buffer size) × Stays refusal
DumpsIn p s buffer size refusal Status.OutOfMemory = Stays buffer × Stays size × Stays refusal
DumpsIn p s buffer size refusal _ = ⊥

abbrev pub DumpsAs : Option Named → List ℕ → Change (List ℕ) → Change ℕ → Change IllcanonRefusal → Status → Type 0
DumpsAs (Some p) s buffer size refusal status = DumpsIn (profile_of p) s buffer size refusal status
DumpsAs None s buffer size refusal Status.UnknownProfile = Stays buffer × Stays size × Stays refusal
DumpsAs None s buffer size refusal _ = ⊥

abbrev pub Dumps : List ℕ → Change (List ℕ) → Change ℕ → Change IllcanonRefusal → Status → Type 0
Dumps s buffer size refusal status = DumpsIn profile_two s buffer size refusal status

-- whatever follows the octets, no framed element is at their front
abbrev pub IsNeverFramed : List ℕ → Type 0
IsNeverFramed s = (more front rest : List ℕ) → s ++ more ≡ front ++ rest → IsFrame front → ⊥

-- the size is that of the framed element at the front of s, or s is a part of one, or none is at the front of s, whatever follows it
abbrev pub Frames : List ℕ → Change ℕ → Status → Type 0
Frames s size Status.Done = IsFrame (take size.after s) × (size.after ≤ length s)
Frames s size Status.NeedsMore = IsPartOfFrame s × Stays size
Frames s size Status.Refused = IsNeverFramed s × Stays size
Frames s size _ = ⊥

-- the octets were put into the buffer, where it has room for them
abbrev pub Puts : List ℕ → Change (List ℕ) → Change ℕ → Status → Type 0
Puts octets buffer size Status.Done = Fills octets buffer size
Puts octets buffer size Status.NoRoom = IsTooShort octets buffer size
Puts octets buffer size _ = ⊥

-- what is said of the cause of a number was put into the buffer, or no cause has the number
abbrev pub SaysOfCause : (Cause → List ℕ) → ℕ → Change (List ℕ) → Change ℕ → Status → Type 0
SaysOfCause say number buffer size Status.Done = (cause : Cause) × (cause_number cause ≡ number) × Fills (say cause) buffer size
SaysOfCause say number buffer size Status.NoRoom = (cause : Cause) × (cause_number cause ≡ number) × IsTooShort (say cause) buffer size
SaysOfCause say number buffer size Status.UnknownCause = ((cause : Cause) → cause_number cause ≢ number) × Stays buffer × Stays size
SaysOfCause say number buffer size _ = ⊥
