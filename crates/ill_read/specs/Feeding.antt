-- The three states of a decoder, of which no two hold at once, and what each call makes of them.
use Rattle.ill_tables.specs.declared.profile.Profile.{Profile as Named}
use Rattle.ill_tables.specs.declared.profile.Profile.TheVariants.{Two}
use Rattle.std.specs.Prelude.{◌≡◌, ◌≤◌, ℕ, List, [], ◌∷◌, length, Option, Some, None, Result, Ok, Err}
use Rattle.ill_schema.specs.declared.message.Message.{Message}
use Rattle.ill_schema.specs.declared.refusal.Cause.{Cause}
use Rattle.ill_read.specs.Answers.{IsPart, IsRefused, IsSpelled}
use Rattle.ill_grammar.specs.Need.{NeedsAfter}
use Rattle.ill_read.specs.Paths.{AreValues, HoldsAt}
use Rattle.ill_grammar.specs.Standing.{Level, StandsLast}
use Rattle.ill_read.specs.declared.decoder.Decoder.{Decoder}
use Rattle.ill_read.specs.declared.decoder.Progress.{Progress}
use Rattle.ill_read.specs.declared.reader.Reader.{Reader}
use Rattle.ill_read.specs.declared.reader.State.TheVariants as state
use Rattle.ill_read.specs.declared.failure.Failure.{Failure}

-- a reader is open, and is at the last place of the octets that it was fed
abbrev pub IsOpenAt : {D : Type 0} → Named → (D → List Level → List ℕ → Type 0) → Reader D → List ℕ → Type 0
IsOpenAt p holds r fed = (r.state ≡ state.Open) × StandsLast p (HoldsAt p holds r.path) r.at fed r.pending.items

-- open: these octets were fed, and more of them may still make a message (how the path stands for them is the code's business)
abbrev pub IsOpenAfter : Decoder → List ℕ → Type 0
IsOpenAfter d fed = IsOpenAt Two AreValues d.reader fed

-- whole, with this message
abbrev pub IsWholeWith : Decoder → Message → Type 0
IsWholeWith d m = (d.reader.state ≡ state.Whole) × (d.reader.path.draft.message ≡ Some m)

-- failed, with this failure
abbrev pub HasFailedWith : Decoder → Failure → Type 0
HasFailedWith d f = d.reader.state ≡ state.Failed f

-- the decoder needs this many octets: what is needed after those that it was fed, or none once it is whole or has failed
pub record Needs (d : Decoder) (n : ℕ) : Type 0 where
  pub exact : (fed : List ℕ) → IsOpenAfter d fed → NeedsAfter fed n
  pub whole : (m : Message) → IsWholeWith d m → n ≡ 0
  pub failed : (f : Failure) → HasFailedWith d f → n ≡ 0

-- the piece is no longer than what the decoder needs
abbrev pub MayTake : Decoder → List ℕ → Type 0
MayTake d piece = (n : ℕ) × Needs d n × (length piece ≤ n)

-- where a piece leads, of all the octets that were fed, and what is returned for it
abbrev pub FeedsTo : Decoder → List ℕ → Result Progress Failure → Type 0
FeedsTo d fed (Ok Progress.More) = IsOpenAfter d fed × IsPart fed
FeedsTo d fed (Ok Progress.Done) = (m : Message) × IsWholeWith d m × IsSpelled m fed
FeedsTo d fed (Err failure) = HasFailedWith d failure × IsRefused fed failure

-- the octets that were fed are a message, unless memory ran out
abbrev pub IsDone : Result Progress Failure → Type 0
IsDone (Ok Progress.Done) = Unit {0}
IsDone (Ok Progress.More) = ⊥
IsDone (Err failure) = failure ≡ Failure.OutOfMemory

-- what an open decoder returns after the last octet: nothing where nothing was fed, else that the octets end too early, at their end
abbrev pub ended : List ℕ → Result (Option Message) Failure
ended [] = Ok None
ended (octet ∷ fed) = Err (Failure.Refused (record { at = length (octet ∷ fed); cause = Cause.Truncated }))

-- no two of the states hold at once, and each determines what it names
pub record StatesAreApart (d : Decoder) : Type 0 where
  pub part : (fed : List ℕ) → IsOpenAfter d fed → IsPart fed
  pub open_or_whole : (fed : List ℕ) (m : Message) → IsOpenAfter d fed → IsWholeWith d m → ⊥
  pub open_or_failed : (fed : List ℕ) (f : Failure) → IsOpenAfter d fed → HasFailedWith d f → ⊥
  pub whole_or_failed : (m : Message) (f : Failure) → IsWholeWith d m → HasFailedWith d f → ⊥
  pub one_message : (m n : Message) → IsWholeWith d m → IsWholeWith d n → m ≡ n
  pub one_failure : (f g : Failure) → HasFailedWith d f → HasFailedWith d g → f ≡ g
