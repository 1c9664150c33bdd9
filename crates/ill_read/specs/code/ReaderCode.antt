-- What a reader's functions say: how it stands for the octets that it has been fed.
use Rattle.ill_schema.specs.Profiles.{profile_of}
use Rattle.ill_tables.specs.declared.profile.Profile.{Profile as Named}
use Rattle.std.specs.Prelude.{◌≡◌, ℕ, ◌+◌, ◌-◌, ◌*◌, ◌<◌, ◌≤◌, Bool, true, false, List, [], ◌∷◌, ◌++◌, length, take, drop, Option, Some, None, IfSome, Result, Ok, Err}
use Rattle.ber_leaf.specs.Profile.{profile_two}
use Rattle.ill_schema.specs.declared.message.Message.{Message}
use Rattle.ill_schema.specs.declared.refusal.Cause.{Cause}
use Rattle.ill_schema.specs.declared.refusal.Refusal.{Refusal}
use Rattle.ill_schema.specs.Apdu.{Apdu, SpellsApdu, normal_form}
use Rattle.ill_schema.specs.Message.{apdu_of, octets_of}
use Rattle.ill_schema.specs.Value.{apdu_with}
use Rattle.ill_refusals.specs.Fault.{Fault, fault_of, cut_fault}
use Rattle.ill_refusals.specs.Outcome.{OnlyAccepts, OnlyRefuses}
use Rattle.ill_refusals.specs.Place.{Open, bound}
use Rattle.ill_refusals.specs.code.Judge.{Judgement as Judged, faulty, judge}
use Rattle.ill_read.specs.Answers.{IsPart, IsPartIn, IsRead, IsRefused, IsRefusedIn, IsSpelled, RefusesWhole}
use Rattle.ill_read.specs.Paths.{HoldsAt}
use Rattle.ill_grammar.specs.Standing.{Level, StandsBefore, StandsLast}
use Rattle.ill_read.specs.code.Drafts.{HoldsApdu}
use Rattle.ill_read.specs.code.Judged.{IsJudgement}
use Rattle.ill_read.specs.Failures.{read_failure}
use Rattle.ill_read.specs.declared.failure.Failure.{Failure}
use Rattle.ill_read.specs.declared.failure.ReadFailure.{ReadFailure}
use Rattle.ill_read.specs.code.Progress.{Judgement, IsProgress}
use Rattle.ill_grammar.specs.Standing.{depth_of}
use Rattle.ill_grammar.specs.declared.frames.Frames.{Frames}
use Rattle.ill_read.specs.declared.path.Path.{Path}
use Rattle.ill_read.specs.declared.reader.Reader.{Reader}
use Rattle.ill_read.specs.declared.reader.State.{State}
use Rattle.ill_read.specs.declared.reader.State.TheVariants as state
use Rattle.ill_read.specs.declared.value_draft.ApduValue.{ApduValue}

-- a message was read of the octets, or they are refused, or else this holds
abbrev pub InState : Named → State → List ℕ → Type 0 → Type 0 → Type 0
InState p state.Open s IsWhole IfOpen = IfOpen
InState p state.Whole s IsWhole IfOpen = IsWhole
InState p (state.Failed f) s IsWhole IfOpen = IsRefusedIn (profile_of p) s f

-- the octets begin with the message that the draft has, and no other
abbrev pub HasRead : {D : Type 0} → Named → (Named → D → Apdu → ℕ → Type 0) → Reader D → List ℕ → Type 0
HasRead p has r s = (a : Apdu) × OnlyAccepts (profile_of p) s a r.at × has p r.path.draft a r.at

abbrev pub IsRunning : {D : Type 0} → Named → (D → List Level → List ℕ → Type 0) → (Named → D → Apdu → ℕ → Type 0) → Reader D → List ℕ → List ℕ → Type 0
IsRunning p holds has r s rest = InState p r.state s (HasRead p has r s) (StandsBefore p (HoldsAt p holds r.path) r.at s rest)

abbrev pub HasStopped : {D : Type 0} → Named → (D → List Level → List ℕ → Type 0) → (Named → D → Apdu → ℕ → Type 0) → Reader D → List ℕ → List ℕ → Type 0
HasStopped p holds has r s rest = InState p r.state s (HasRead p has r s) (StandsLast p (HoldsAt p holds r.path) r.at s rest)

-- the reader has been fed these octets
abbrev pub IsFed : {D : Type 0} → Named → (D → List Level → List ℕ → Type 0) → (Named → D → Apdu → ℕ → Type 0) → Reader D → List ℕ → Type 0
IsFed p holds has r s = HasStopped p holds has r s r.pending.items

-- the judgement is the definitions' one at its place
abbrev pub CanStep : {D : Type 0} → Named → (D → List Level → List ℕ → Type 0) → Reader D → List ℕ → List ℕ → Judgement → Type 0
CanStep p holds r s rest judgement =
    (b : StandsBefore p (HoldsAt p holds r.path) r.at s rest) × IsJudgement p r.path.frames b.place r.at rest judgement (judge (profile_of p) b.place r.at rest)

-- the refusal is the definitions' judgement there
abbrev pub CanRefuse : {D : Type 0} → Named → (D → List Level → List ℕ → Type 0) → Reader D → List ℕ → List ℕ → Refusal → Type 0
CanRefuse p holds r s rest refusal = (b : StandsBefore p (HoldsAt p holds r.path) r.at s rest) × (judge (profile_of p) b.place r.at rest ≡ faulty (fault_of refusal))

-- it went on after `size` octets, or stopped
abbrev pub HasAdvanced : {D : Type 0} → Named → (D → List Level → List ℕ → Type 0) → (Named → D → Apdu → ℕ → Type 0) → Reader D → List ℕ → List ℕ → Option ℕ → Type 0
HasAdvanced p holds has r s rest (Some size) = IsRunning p holds has r s (drop size rest)
HasAdvanced p holds has r s rest None = HasStopped p holds has r s rest

-- from the place, it does what is judged there
abbrev pub Steps : {D : Type 0} → Named → (D → List Level → List ℕ → Type 0) → (Named → D → Apdu → ℕ → Type 0) → Reader D → Judgement → Reader D → Option ℕ → Type 0
Steps p holds has old judgement new result = (s rest : List ℕ) → CanStep p holds old s rest judgement → IsProgress (depth_of old.path.frames) (length rest) judgement
    → HasAdvanced p holds has new s rest result

-- from the place it goes on, or fails, as is judged in the octets before the bound; `available_len` octets follow the place in all
abbrev pub LeadsOn : {D : Type 0} → Named → (D → List Level → List ℕ → Type 0) → (Named → D → Apdu → ℕ → Type 0) → Reader D → List ℕ → ℕ → ℕ → Reader D → Option ℕ → (List Open → Fault → Judged) → Type 0
LeadsOn p holds has old window room available_len new result judged = (s rest more : List ℕ) (b : StandsBefore p (HoldsAt p holds old.path) old.at s rest) → length rest ≡ available_len
    → rest ≡ window ++ more → room ≡ bound (profile_of p) b.place - old.at
    → judge (profile_of p) b.place old.at rest ≡ judged b.place (cut_fault (profile_of p) b.place old.at rest) → HasAdvanced p holds has new s rest result

-- the same, where the octets before the bound are all that there are of `room`
abbrev pub LeadsOnWithin : {D : Type 0} → Named → (D → List Level → List ℕ → Type 0) → (Named → D → Apdu → ℕ → Type 0) → Reader D → List ℕ → ℕ → ℕ → Reader D → Option ℕ → (List Open → Fault → Judged) → Type 0
LeadsOnWithin p holds has old window room available_len new result judged = (s rest : List ℕ) (b : StandsBefore p (HoldsAt p holds old.path) old.at s rest) → length rest ≡ available_len
    → window ≡ take room rest → room ≡ bound (profile_of p) b.place - old.at
    → judge (profile_of p) b.place old.at rest ≡ judged b.place (cut_fault (profile_of p) b.place old.at rest) → HasAdvanced p holds has new s rest result

-- the path is at the next place, or the message ends here
abbrev pub IsAfter : {D : Type 0} → Named → (D → List Level → List ℕ → Type 0) → Path D → ℕ → List ℕ → List ℕ → Bool → Type 0
IsAfter p holds path at s rest false = StandsBefore p (HoldsAt p holds path) at s rest
IsAfter p holds path at s rest true = (at ≤ length s) × ((a : Apdu) × HoldsApdu p holds path.draft a (take at s))

-- at most `room` octets are passed: at least one, or an element is closed
abbrev pub Progresses : ℕ → Frames → Frames → Option ℕ → Type 0
Progresses room old new result = IfSome result (λ size. (size ≤ room) × (depth_of new < 2 * size + depth_of old))

-- nothing is open any more
abbrev pub HasClosed : {D : Type 0} → Named → (Named → D → Apdu → ℕ → Type 0) → Reader D → List ℕ → Type 0
HasClosed p has r s = InState p r.state s (HasRead p has r s) ⊥

-- what has come of the octets
abbrev pub HasOutcome : {D : Type 0} → Named → (Named → D → Apdu → ℕ → Type 0) → Reader D → List ℕ → Result Bool Failure → Type 0
HasOutcome p has r s (Ok true) = HasRead p has r s
HasOutcome p has r s (Ok false) = IsPartIn (profile_of p) s × (length s < 1_048_576)
HasOutcome p has r s (Err failure) = IsRefusedIn (profile_of p) s failure

-- what is returned after the last octet
abbrev pub EndsAs : {D : Type 0} → Named → (Named → D → Apdu → ℕ → Type 0) → Reader D → List ℕ → Result Bool Failure → Type 0
EndsAs p has r s (Ok true) = HasRead p has r s
EndsAs p has r s (Ok false) = s ≡ []
EndsAs p has r s (Err (Failure.Refused refusal)) = OnlyRefuses (profile_of p) s (fault_of refusal) × (0 < length s)
EndsAs p has r s (Err Failure.OutOfMemory) = Unit {0}

-- of a reader that is open
abbrev pub ended : List ℕ → Result Bool Failure
ended [] = Ok false
ended (octet ∷ fed) = Err (Failure.Refused (record { at = length (octet ∷ fed); cause = Cause.Truncated }))

-- the APDU of a body
abbrev pub body_apdu : ApduValue → Apdu
body_apdu body = apdu_with (body.row + 1) body.value

-- the message of an APDU that was read from `octets` octets, None where its normal form passes the limit
abbrev pub IsMessageOf : Apdu → ℕ → Option Message → Type 0
IsMessageOf a octets None = profile_two.limit < length (normal_form a)
IsMessageOf a octets (Some m) = (apdu_of m ≡ a) × (octets_of m ≡ octets) × (length (normal_form a) ≤ profile_two.limit)

-- what has come of the octets of a slice
abbrev pub HasBegun : List ℕ → Result (Option Message) Failure → Type 0
HasBegun s (Ok (Some m)) = IsRead s m
HasBegun s (Ok None) = IsPart s × (length s < 1_048_576)
HasBegun s (Err failure) = IsRefused s failure

-- the draft has the APDU that the octets spell
abbrev pub IsReadOf : {D : Type 0} → Named → (Named → D → Apdu → ℕ → Type 0) → D → List ℕ → Type 0
IsReadOf p has draft b = (a : Apdu) × SpellsApdu (profile_of p) a b × has p draft a (length b)

-- what is read, by how a reader ends
abbrev pub read_result : ℕ → Result Bool Failure → Result (Option ℕ) ReadFailure
read_result at (Ok true) = Ok (Some at)
read_result at (Ok false) = Ok None
read_result at (Err failure) = Err (read_failure failure)

-- of octets that are to be one message
abbrev pub DecodeAnswers : List ℕ → Result Message Failure → Type 0
DecodeAnswers s (Ok m) = IsSpelled m s
DecodeAnswers s (Err (Failure.Refused refusal)) = RefusesWhole s (fault_of refusal)
DecodeAnswers s (Err Failure.OutOfMemory) = Unit {0}
