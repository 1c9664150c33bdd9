-- What is said of a message that is refused.
use Rattle.std.specs.Prelude.{◌≡◌, ◌≢◌, ◌⊎◌, ℕ, ◌<◌, Bool, true, false, List, length, None}
use Rattle.ber_leaf.specs.Profile.{Profile}
use Rattle.ill_schema.specs.Apdu.{Apdu, Accepts}
use Rattle.ill_schema.specs.Begun.{apdu_begun}
use Rattle.ill_schema.specs.Profiles.{profile_of}
use Rattle.ill_tables.specs.declared.profile.Profile.{Profile as Named}
use Rattle.ill_schema.specs.declared.refusal.Cause.{Cause}
use Rattle.ill_schema.specs.declared.refusal.Refusal.{Refusal}
use Rattle.ill_refusals.specs.Fault.{Fault, Refuses}
use Rattle.ill_json.specs.Results.{refused_line_of}
use Rattle.ill_inputs.specs.declared.place.RefusalPlace.{RefusalPlace}
use Rattle.ill_json.specs.declared.result.RefusalKind.{RefusalKind}
use Rattle.ill_json.specs.declared.result.RefusedHead.{RefusedHead}
use Rattle.ill_normal.specs.declared.report.RefusalReport.{RefusalReport}
use Rattle.ill_commands.specs.Output.{file_of}
use Rattle.ill_commands.specs.declared.job.JobOptions.{JobOptions}

-- the cause says that a limit of the reader is passed, or that the profile leaves a part out: neither is a rule of X.690 or ISO 10161-1
abbrev pub is_limit : Cause → Bool
is_limit Cause.TooLong = true
is_limit Cause.TooDeep = true
is_limit (Cause.LeftOut part) = true
is_limit Cause.IntegerTooLong = true
is_limit Cause.NormalTooLong = true
is_limit _ = false

-- octets, not none, that begin with a message of the profile, or are refused in it only after this offset
abbrev pub IsReadPast : Profile → List ℕ → ℕ → Type 0
IsReadPast p octets at = (0 < length octets) × (((a : Apdu) × (n : ℕ) × Accepts p octets a n) ⊎ ((f : Fault) × Refuses p octets f × (at < f.at)))

-- a refusal of octets in the profile says no more than that they are not read: a limit is passed, or the module profile reads what is there
abbrev pub IsNotRead : Named → List ℕ → Refusal → Type 0
IsNotRead profile octets refusal = (is_limit refusal.cause ≡ true) ⊎ ((profile ≡ Named.Two) × IsReadPast (profile_of Named.Module) octets refusal.at)

-- a statement holds, or does not
abbrev pub Says : Bool → Type 0 → Type 0
Says true A = A
Says false A = A → ⊥

-- the kind of a refusal of octets in the profile: no message begins there, or one does, and is only not read, or is wrong
abbrev pub HasKind : Named → List ℕ → Refusal → RefusalKind → Type 0
HasKind profile octets refusal RefusalKind.NoMessage = apdu_begun octets ≡ None
HasKind profile octets refusal RefusalKind.NotRead = (apdu_begun octets ≢ None) × IsNotRead profile octets refusal
HasKind profile octets refusal RefusalKind.Invalid = (apdu_begun octets ≢ None) × (IsNotRead profile octets refusal → ⊥)

abbrev pub refused_head : RefusalReport → RefusalKind → RefusedHead
refused_head r kind = record { number = r.message; offset = r.offset; octets = r.octets; refusal = r.refusal; kind = kind }

-- the line of JSON of a message of these octets that is refused at this place, and the kind of the refusal
abbrev pub IsRefusedLine : JobOptions → RefusalReport → List ℕ → RefusalPlace → RefusalKind → List ℕ → Type 0
IsRefusedLine work r octets place kind line = HasKind work.profile octets r.refusal kind
    × (line ≡ refused_line_of (file_of work.names_input work.name.now) (refused_head r kind) (apdu_begun octets) place)

-- the line of a message of these octets that is refused, with some words for its place
abbrev pub IsLineOfRefused : JobOptions → RefusalReport → List ℕ → List ℕ → Type 0
IsLineOfRefused work r octets line = (place : RefusalPlace) × (kind : RefusalKind) × IsRefusedLine work r octets place kind line
