-- Which APDU a line of JSON says, and the one fault of a line that is not built.
use Rattle.std.specs.Prelude.{◌≡◌, ◌≢◌, ◌⊎◌, ◌-◌, ◌<◌, ◌≤◌, ℕ, Bool, true, false, not, List, [], ◌∷◌, ◌++◌, codes, decimal, flat_map, length, nat_eq, Option, Some, None, slice_get, if◌then◌else◌}
use Rattle.std.specs.Str.{IsUtf8}
use Rattle.json.specs.Find.{get, as_str}
use Rattle.json.specs.Json.{Json, string, document}
use Rattle.ber_leaf.specs.Profile.{Profile}
use Rattle.ill_schema.specs.Apdu.{Apdu, normal_form_in, root}
use Rattle.ill_schema.specs.Fits.{FitsApdu}
use Rattle.ill_schema.specs.Presence.{IsCarried}
use Rattle.ill_tables.specs.Names.{row_name, row_node}
use Rattle.ill_tables.specs.Table.{rows_of}
use Rattle.ill_tables.specs.declared.part.Row.{Row}
use Rattle.ill_build.specs.declared.cause.BuildCause.{BuildCause}
use Rattle.ill_build.specs.declared.line.BuildFailure.{BuildFailure}
use Rattle.ill_build.specs.declared.line.BuildFailure.TheVariants.{OutOfMemory, Refused}
use Rattle.ill_build.specs.Faulty.{IsFaultOf, IsFaulty, IsMemberFault, IsObjectFault}
use Rattle.ill_build.specs.Members.{IsObjectOf, name_fault, of_names, of_type}
use Rattle.ill_build.specs.Path.{Step, indexed, named}
use Rattle.ill_build.specs.Said.{Says}

-- how many octets a line may have
abbrev pub line_limit : ℕ
line_limit = 16_777_216

-- the members of a line. Those of a message's place and spelling are no part of the APDU: they may hold anything
abbrev pub line_names : List (List ℕ)
line_names = codes "apdu" ∷ codes "value" ∷ codes "profile" ∷ codes "file" ∷ codes "number" ∷ codes "offset" ∷ codes "octets" ∷ codes "normal" ∷ []

-- the word of a profile, which is the module's or not
abbrev pub profile_word : Bool → List ℕ
profile_word false = codes "2"
profile_word true = codes "module"

-- the line is of the profile, or doesn't say one
abbrev pub IsProfileSaid : Profile → Option Json → Type 0
IsProfileSaid p None = Unit {0}
IsProfileSaid p (Some j) = j ≡ string (profile_word p.full)

-- the value of a line says the APDU
pub record SaysLine (p : Profile) (j : Json) (a : Apdu) : Type 0 where
  pub known : IsObjectOf (of_names line_names) j
  pub profile : IsProfileSaid p (get (codes "profile") j)
  pub apdu : get (codes "apdu") j ≡ Some (string (row_name (root p) (a.number - 1)))
  pub said : (v : Json) × (get (codes "value") j ≡ Some v) × Says [] (row_node (root p) (a.number - 1)) v a.body

-- the line says the APDU
abbrev pub SaysApdu : Profile → List ℕ → Apdu → Type 0
SaysApdu p text a = IsUtf8 text × ((j : Json) × (document text ≡ Some j) × SaysLine p j a)

-- ---- faults

-- the word of another profile, or of none
abbrev pub IsProfileFault : Profile → List ℕ → BuildCause → Type 0
IsProfileFault p text cause =
    ((text ≡ profile_word (not p.full)) × (cause ≡ BuildCause.OtherProfile))
    ⊎ ((text ≢ profile_word p.full) × (text ≢ profile_word (not p.full)) × (cause ≡ BuildCause.UnknownName))

-- of a name that no row of ILL-APDU has, or of a row that is left out
abbrev pub apdu_cause : BuildCause → BuildCause
apdu_cause BuildCause.LeftOut = BuildCause.LeftOut
apdu_cause _ = BuildCause.UnknownName

abbrev pub IsApduFault : Profile → List ℕ → BuildCause → Type 0
IsApduFault p text cause = (fault : BuildCause) × (name_fault (of_type (root p)) text ≡ Some fault) × (cause ≡ apdu_cause fault)

-- the fault of the member that says the profile
abbrev pub HasProfileFault : Profile → Json → BuildCause → List Step → Type 0
HasProfileFault p j cause path =
    (k : Json) × (rest : List Step) × (get (codes "profile") j ≡ Some k) × (path ≡ named (codes "profile") ∷ rest)
    × IsFaultOf (as_str k) (IsProfileFault p) cause rest

-- the line says this row of ILL-APDU
pub record NamesApdu (p : Profile) (j : Json) (i : ℕ) (row : Row) : Type 0 where
  pub at : slice_get (rows_of (root p)) i ≡ Some row
  pub carried : IsCarried row.presence
  pub name : get (codes "apdu") j ≡ Some (string (row_name (root p) i))

-- a value of JSON, with its fault: first its members, then the profile, the APDU, the value, and the size of the normal form
abbrev pub IsLineFault : Profile → Json → BuildCause → List Step → Type 0
IsLineFault p j cause path =
    IsObjectFault (of_names line_names) j cause path (
    HasProfileFault p j cause path
    ⊎ (IsProfileSaid p (get (codes "profile") j) × (
    IsMemberFault (codes "apdu") (λ k. IsFaultOf (as_str k) (IsApduFault p)) j cause path
    ⊎ ((i : ℕ) × (row : Row) × NamesApdu p j i row × (
    IsMemberFault (codes "value") (λ k. IsFaulty p [] row.node k) j cause path
    ⊎ ((a : Apdu) × SaysLine p j a × FitsApdu p a × (p.limit < length (normal_form_in p a)) × (cause ≡ BuildCause.NormalTooLong) × (path ≡ []))
    ))
    ))
    )

-- a line that is too long, that is no JSON, or that has a fault
abbrev pub IsFaultyLine : Profile → List ℕ → BuildCause → List Step → Type 0
IsFaultyLine p text cause path =
    ((line_limit < length text) × (cause ≡ BuildCause.LineTooLong) × (path ≡ []))
    ⊎ ((length text ≤ line_limit) × (IsUtf8 text → document text ≡ None) × (cause ≡ BuildCause.NotJson) × (path ≡ []))
    ⊎ ((length text ≤ line_limit) × IsUtf8 text × ((j : Json) × (document text ≡ Some j) × IsLineFault p j cause path))

-- ---- pointers

-- a character of a name, in a JSON pointer (RFC 6901, section 3)
abbrev pub escaped : ℕ → List ℕ
escaped c = if nat_eq c 0x7E then codes "~0" else if nat_eq c 0x2F then codes "~1" else c ∷ []

abbrev pub step_text : Step → List ℕ
step_text (named name) = codes "/" ++ flat_map escaped name
step_text (indexed i) = codes "/" ++ decimal i

abbrev pub pointer_of : List Step → List ℕ
pointer_of path = flat_map step_text path

-- what is refused is this cause at a path with this pointer, unless memory ran out
abbrev pub OnFailure : BuildFailure → (BuildCause → List Step → Type 0) → Type 0
OnFailure OutOfMemory P = Unit {0}
OnFailure (Refused refusal) P = (path : List Step) × (refusal.pointer.items ≡ pointer_of path) × P refusal.cause path
