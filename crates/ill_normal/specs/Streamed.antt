-- What a call that normalises a stream does to its source and its sink.
use Rattle.std.specs.Prelude.{◌≡◌, ◌<◌, ◌≤◌, ℕ, List, [], ◌∷◌, length, flat_map, Option, Result, Ok, Err}
use Rattle.std.specs.Io.KnownBytes.{Consumes, Keeps, Appends}
use Rattle.ill_schema.specs.Apdu.{Apdu, IsStream, normal_form_in}
use Rattle.ill_refusals.specs.Fault.{Fault, fault_of}
use Rattle.ber_leaf.specs.Profile.{Profile, profile_two}
use Rattle.ill_read.specs.Answers.{TakesFront}
use Rattle.ill_normal.specs.declared.failure.NormalFailure.{NormalFailure}
use Rattle.ill_normal.specs.declared.failure.StreamCause.{StreamCause}
use Rattle.ill_normal.specs.declared.failure.StreamFailure.{StreamFailure}
use Rattle.ill_normal.specs.Calls.{Taking, taking, Putting, putting}
use Rattle.ill_normal.specs.Messages.{TakesNoFurtherIn}
use Rattle.ill_normal.specs.Normalised.{FailsIn, IsResourceFailure}

-- `whole` messages of `before` octets were taken, and their normal forms were written, in order
pub record PassesIn (q : Profile) (left left' held held' : Option (List ℕ)) (whole before : ℕ) : Type 0 where
  pub apdus : List Apdu
  pub octets : List ℕ
  pub stream : IsStream q octets apdus []
  pub taken : Consumes left left' octets
  pub written : Appends held held' (flat_map (normal_form_in q) apdus)
  pub count : length apdus ≡ whole
  pub size : length octets ≡ before

abbrev pub Passes : Option (List ℕ) → Option (List ℕ) → Option (List ℕ) → Option (List ℕ) → ℕ → ℕ → Type 0
Passes left left' held held' whole before = PassesIn profile_two left left' held held' whole before

-- why no further message was normalised, after this many
abbrev pub StopsIn : Profile → Taking → Putting → ℕ → StreamCause → Type 0
StopsIn q source sink whole (StreamCause.Normal NormalFailure.ReadFault) =
    (whole ≤ 1_000_000) × TakesNoFurtherIn q whole source.left source.left' × FailsIn q source sink NormalFailure.ReadFault
StopsIn q source sink whole (StreamCause.Normal failure) = (whole < 1_000_000) × FailsIn q source sink failure
StopsIn q source sink whole StreamCause.TooManyMessages =
    (whole ≡ 1_000_000) × ((octet : ℕ) × Consumes source.left source.left' (octet ∷ [])) × Keeps sink.held sink.held'

-- the messages that were whole before the failure, and why no further one was normalised; of what follows them at most 1,048,576 octets were taken, whatever the failure
pub record StopsAfterIn (q : Profile) (source : Taking) (sink : Putting) (failure : StreamFailure) : Type 0 where
  pub rest : Option (List ℕ)
  pub grown : Option (List ℕ)
  pub passes : PassesIn q source.left rest sink.held grown failure.whole failure.before
  pub taken : TakesFront rest source.left'
  pub stops : StopsIn q (taking rest source.left' source.broken) (putting grown sink.held' sink.broken) failure.whole failure.why

abbrev pub StopsAfter : Taking → Putting → StreamFailure → Type 0
StopsAfter source sink failure = StopsAfterIn profile_two source sink failure

-- a stream's result is this number, or a fault
abbrev pub AnswersCount : Result ℕ StreamFailure → ℕ → Type 0
AnswersCount (Ok m) n = m ≡ n
AnswersCount (Err e) n = elim e.why as (λ _. Type 0) [ StreamCause.Normal failure ↦ IsResourceFailure failure | StreamCause.TooManyMessages ↦ ⊥ ]

-- after m messages this failure is the refusal f after n messages, or a fault
abbrev pub IsRefusedAfter : ℕ → NormalFailure → ℕ → Fault → Type 0
IsRefusedAfter m (NormalFailure.Refused refusal) n f = (m ≡ n) × (fault_of refusal ≡ f)
IsRefusedAfter m failure n f = IsResourceFailure failure

-- a stream's result is this refusal after n messages, or a fault
abbrev pub AnswersRefusedAfter : Result ℕ StreamFailure → ℕ → Fault → Type 0
AnswersRefusedAfter (Ok m) n f = ⊥
AnswersRefusedAfter (Err e) n f = elim e.why as (λ _. Type 0) [
  | StreamCause.Normal failure ↦ IsRefusedAfter e.whole failure n f
  | StreamCause.TooManyMessages ↦ ⊥
]

-- a stream's result is that there are too many messages, or a fault
abbrev pub AnswersTooMany : Result ℕ StreamFailure → Type 0
AnswersTooMany (Ok m) = ⊥
AnswersTooMany (Err e) = elim e.why as (λ _. Type 0) [ StreamCause.Normal failure ↦ IsResourceFailure failure | StreamCause.TooManyMessages ↦ Unit {0} ]
