-- What a call that normalises one message does to its source and its sink.
use Rattle.std.specs.Prelude.{◌≡◌, ◌<◌, ℕ, List, length, take, Option, Result, Ok, Err, IfSome, IsTrue}
use Rattle.std.specs.Io.KnownBytes.{Consumes, Keeps, Appends}
use Rattle.ill_schema.specs.Apdu.{Apdu, SpellsApdu, normal_form_in}
use Rattle.ill_read.specs.Answers.{TakesNoMessageIn}
use Rattle.ill_refusals.specs.Fault.{Fault, fault_of}
use Rattle.ill_refusals.specs.Outcome.{OnlyRefuses}
use Rattle.ber_leaf.specs.Profile.{Profile, profile_two}
use Rattle.ill_normal.specs.declared.failure.NormalFailure.{NormalFailure}
use Rattle.ill_normal.specs.Calls.{Taking, Putting}

-- the octets that were taken spell an APDU, and its normal form was written
pub record ForwardsIn (p : Profile) (left left' held held' : Option (List ℕ)) (read written : ℕ) : Type 0 where
  pub apdu : Apdu
  pub octets : List ℕ
  pub spells : SpellsApdu p apdu octets
  pub taken : Consumes left left' octets
  pub appended : Appends held held' (normal_form_in p apdu)
  pub read_size : read ≡ length octets
  pub written_size : written ≡ length (normal_form_in p apdu)

abbrev pub Forwards : Option (List ℕ) → Option (List ℕ) → Option (List ℕ) → Option (List ℕ) → ℕ → ℕ → Type 0
Forwards left left' held held' read written = ForwardsIn profile_two left left' held held' read written

-- why a message was not normalised, and what the call did to the source and the sink
abbrev pub FailsIn : Profile → Taking → Putting → NormalFailure → Type 0
FailsIn p source sink (NormalFailure.Refused refusal) =
    IfSome source.left (λ s. (0 < length s) × OnlyRefuses p s (fault_of refusal)) × Keeps sink.held sink.held'
FailsIn p source sink NormalFailure.OutOfMemory = Keeps sink.held sink.held'
FailsIn p source sink NormalFailure.ReadFault = IsTrue source.broken × TakesNoMessageIn p source.left source.left' × Keeps sink.held sink.held'
FailsIn p source sink (NormalFailure.WriteFault n) =
    IsTrue sink.broken × ((a : Apdu) × (b : List ℕ) × SpellsApdu p a b × Consumes source.left source.left' b
    × Appends sink.held sink.held' (take n (normal_form_in p a)) × (n < length (normal_form_in p a)))

abbrev pub Fails : Taking → Putting → NormalFailure → Type 0
Fails source sink failure = FailsIn profile_two source sink failure

-- memory, the source or the sink failed
abbrev pub IsResourceFailure : NormalFailure → Type 0
IsResourceFailure (NormalFailure.Refused refusal) = ⊥
IsResourceFailure _ = Unit {0}

-- the result is this one, or a fault
abbrev pub Answers : {T : Type 0} → Result T NormalFailure → T → Type 0
Answers (Ok x) y = x ≡ y
Answers (Err failure) y = IsResourceFailure failure

-- the result is this refusal, or a fault
abbrev pub AnswersRefused : {T : Type 0} → Result T NormalFailure → Fault → Type 0
AnswersRefused (Ok x) f = ⊥
AnswersRefused (Err (NormalFailure.Refused refusal)) f = fault_of refusal ≡ f
AnswersRefused (Err _) f = Unit {0}
