-- What is returned for octets: fed in pieces, out of a source, or a whole slice.
use Rattle.std.specs.Prelude.{◌≡◌, ◌≢◌, ◌⊎◌, ℕ, ◌<◌, ◌≤◌, Bool, List, [], length, Option, Some, None, Result, Ok, Err, IfOk, IfErr, IfSome, IfNone, IsTrue}
use Rattle.std.specs.Io.KnownBytes.{Consumes, IsAtEnd}
use Rattle.ber_leaf.specs.Profile.{Profile, profile_two}
use Rattle.ill_schema.specs.declared.message.Message.{Message}
use Rattle.ill_schema.specs.declared.refusal.Cause.{Cause}
use Rattle.ill_schema.specs.Apdu.{Apdu, SpellsApdu, Accepts, normal_form_in}
use Rattle.ill_schema.specs.Message.{apdu_of, octets_of}
use Rattle.ill_refusals.specs.Fault.{Fault, fault, fault_of}
use Rattle.ill_refusals.specs.Outcome.{OnlyAccepts, OnlyRefuses}
use Rattle.ill_read.specs.declared.failure.Failure.{Failure}
use Rattle.ill_read.specs.declared.failure.ReadFailure.{ReadFailure}
use Rattle.ill_read.specs.declared.normal.NormalForm.{NormalForm}

-- the octets begin with the message and no other, and aren't refused
abbrev pub IsRead : List ℕ → Message → Type 0
IsRead s m = OnlyAccepts profile_two s (apdu_of m) (octets_of m)

-- the octets end too early, and are at no other fault
abbrev pub IsPartIn : Profile → List ℕ → Type 0
IsPartIn p s = OnlyRefuses p s (fault Cause.Truncated (length s))

abbrev pub IsPart : List ℕ → Type 0
IsPart s = IsPartIn profile_two s

-- a refusal is the one fault of the octets, and more octets don't mend it; out of memory says nothing of them
abbrev pub IsRefusedIn : Profile → List ℕ → Failure → Type 0
IsRefusedIn p s (Failure.Refused refusal) = OnlyRefuses p s (fault_of refusal) × (refusal.cause ≢ Cause.Truncated)
IsRefusedIn p s Failure.OutOfMemory = Unit {0}

abbrev pub IsRefused : List ℕ → Failure → Type 0
IsRefused s failure = IsRefusedIn profile_two s failure

-- the octets spell the message's APDU, and the message says how many they are
pub record IsSpelled (m : Message) (b : List ℕ) : Type 0 where
  pub spells : SpellsApdu profile_two (apdu_of m) b
  pub octets : octets_of m ≡ length b

-- the octets spell an APDU, and this is its normal form, and how many they are
abbrev pub IsNormalIn : Profile → NormalForm → List ℕ → Type 0
IsNormalIn p n b = (a : Apdu) × SpellsApdu p a b × (n.octets.items ≡ normal_form_in p a) × (n.input_len ≡ length b)

abbrev pub IsNormalOf : NormalForm → List ℕ → Type 0
IsNormalOf n b = IsNormalIn profile_two n b

-- no message is at the front of the octets
abbrev pub IsUnfinishedIn : Profile → List ℕ → Type 0
IsUnfinishedIn p b = (a : Apdu) (n : ℕ) → Accepts p b a n → ⊥

abbrev pub IsUnfinished : List ℕ → Type 0
IsUnfinished b = IsUnfinishedIn profile_two b

-- a front of what was left was taken, which is no longer than a message may be
abbrev pub TakesFront : Option (List ℕ) → Option (List ℕ) → Type 0
TakesFront old new = (b : List ℕ) × Consumes old new b × (length b ≤ 1_048_576)

-- a front of what was left was taken, in which no message ends
abbrev pub TakesNoMessageIn : Profile → Option (List ℕ) → Option (List ℕ) → Type 0
TakesNoMessageIn p old new = (b : List ℕ) × Consumes old new b × IsUnfinishedIn p b

abbrev pub TakesNoMessage : Option (List ℕ) → Option (List ℕ) → Type 0
TakesNoMessage old new = TakesNoMessageIn profile_two old new

-- of a refusal this holds
abbrev pub IfRefused : Failure → (Fault → Type 0) → Type 0
IfRefused (Failure.Refused refusal) P = P (fault_of refusal)
IfRefused Failure.OutOfMemory P = Unit {0}

abbrev pub IfReadRefused : ReadFailure → (Fault → Type 0) → Type 0
IfReadRefused (ReadFailure.Refused refusal) P = P (fault_of refusal)
IfReadRefused ReadFailure.OutOfMemory P = Unit {0}
IfReadRefused ReadFailure.ReadFault P = Unit {0}

abbrev pub IfReadFault : ReadFailure → Type 0 → Type 0
IfReadFault ReadFailure.ReadFault P = P
IfReadFault _ P = Unit {0}

-- a call reads the next message of a source: what was left before and after it, whether the source was broken before and is after it, what Is
-- says of the value that it returns and the octets that it took, and its result
pub record ReadsNextIn (p : Profile) {T : Type 0} (left left' : Option (List ℕ)) (broken broken' : Bool) (Is : T → List ℕ → Type 0) (result : Result (Option T) ReadFailure) : Type 0 where
  pub message : IfOk result (λ found. IfSome found (λ x. (b : List ℕ) × Consumes left left' b × Is x b))
  pub none : IfOk result (λ found. IfNone found (Consumes left left' [] × IsAtEnd left'))
  -- the one fault of what was left
  pub refused : IfErr result (λ e. IfReadRefused e (λ f. IfSome left (λ s. (0 < length s) × OnlyRefuses p s f)))
  -- at most 1,048,576 octets are taken, whatever the result
  pub taken : TakesFront left left'
  -- a source that breaks after a message is not noticed
  pub fault : IfErr result (λ e. IfReadFault e (IsTrue broken' × TakesNoMessageIn p left left'))
  pub stays : IsTrue broken → IsTrue broken'

-- the same in profile 2
abbrev pub ReadsNext : {T : Type 0} → Option (List ℕ) → Option (List ℕ) → Bool → Bool → (T → List ℕ → Type 0) → Result (Option T) ReadFailure → Type 0
ReadsNext left left' broken broken' Is result = ReadsNextIn profile_two left left' broken broken' Is result

-- the fault of octets that are to be one message: theirs, or that of what follows the message at their front
abbrev pub RefusesWholeIn : Profile → List ℕ → Fault → Type 0
RefusesWholeIn p s f = OnlyRefuses p s f
    ⊎ ((a : Apdu) × (n : ℕ) × Accepts p s a n × (n < length s) × (f ≡ fault Cause.TrailingBytes n))

abbrev pub RefusesWhole : List ℕ → Fault → Type 0
RefusesWhole s f = RefusesWholeIn profile_two s f

-- of octets that are to be one message
abbrev pub NormalAnswersIn : Profile → List ℕ → Result NormalForm Failure → Type 0
NormalAnswersIn p s (Ok n) = IsNormalIn p n s
NormalAnswersIn p s (Err (Failure.Refused refusal)) = RefusesWholeIn p s (fault_of refusal)
NormalAnswersIn p s (Err Failure.OutOfMemory) = Unit {0}

abbrev pub NormalAnswers : List ℕ → Result NormalForm Failure → Type 0
NormalAnswers s result = NormalAnswersIn profile_two s result

-- memory or the source failed
abbrev pub IsReadFault : ReadFailure → Type 0
IsReadFault (ReadFailure.Refused refusal) = ⊥
IsReadFault _ = Unit {0}

-- something was read, or memory or the source failed
abbrev pub AnswersSome : {T : Type 0} → Result (Option T) ReadFailure → Type 0
AnswersSome (Ok (Some x)) = Unit {0}
AnswersSome (Ok None) = ⊥
AnswersSome (Err e) = IsReadFault e
