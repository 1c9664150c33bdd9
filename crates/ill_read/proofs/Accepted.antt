-- What begins with a spelling is not refused, and so it is read.
use Rattle.std.proofs.Common.{◌≡◌, ℕ, ◌<◌, Bool, List, [], length, Option, Some, None, Result, Ok, Err, IfOk, IfErr, IfSome, refl, sym, subst, ◌∙◌, inl, inr, arith}
use Rattle.std.specs.Io.KnownBytes.{Consumes, IsAtEnd}
use Rattle.std.proofs.lemmas.List.{take_all}
use Rattle.ber_leaf.specs.Profile.{Profile, profile_two}
use Rattle.ill_schema.specs.Apdu.{Apdu, SpellsApdu, Accepts}
use Rattle.ill_schema.specs.declared.message.Message.{Message}
use Rattle.ill_schema.proofs.Streams.{accepts_once, accepts_some}
use Rattle.ill_refusals.specs.Fault.{Fault, fault_of}
use Rattle.ill_refusals.specs.Outcome.{OnlyRefuses}
use Rattle.ill_read.specs.Answers.{AnswersSome, IfRefused, IfReadRefused, IsReadFault, IsSpelled, ReadsNextIn, RefusesWhole, RefusesWholeIn}
use Rattle.ill_read.specs.code.ReaderCode.{DecodeAnswers}
use Rattle.ill_read.specs.declared.failure.Failure.{Failure}
use Rattle.ill_read.specs.declared.failure.ReadFailure.{ReadFailure}

pub whole_accepted : (p : Profile) (a : Apdu) (s : List ℕ) → SpellsApdu p a s → Accepts p s a (length s)
whole_accepted p a s spells = (omega arith, subst (SpellsApdu p a) (sym (take_all (length s) s (omega arith))) spells)

-- what is refused whole is no spelling
pub refuses_whole : {p : Profile} (s : List ℕ) (f : Fault) (a : Apdu) → RefusesWholeIn p s f → SpellsApdu p a s → ⊥
refuses_whole {p = p} s f a (inl only) h = only.2 a (length s) (whole_accepted p a s h)
refuses_whole {p = p} s f a (inr (b, n, accepts, lt, e)) h =
    let same = (accepts_once p s a b (length s) n (whole_accepted p a s h) accepts).1 in omega (arith, same, lt)

-- a spelling is not refused, so there is no memory
pub only_memory : {p : Profile} (e : Failure) (s : List ℕ) (a : Apdu) → IfRefused e (RefusesWholeIn p s) → SpellsApdu p a s → e ≡ Failure.OutOfMemory
only_memory {p = p} (Failure.Refused refusal) s a h k = absurd (refuses_whole {p = p} s (fault_of refusal) a h k)
only_memory {p = p} Failure.OutOfMemory s a h k = refl

-- nothing was taken, and nothing is left: nothing was left
pub at_end_before : (old new : Option (List ℕ)) → Consumes old new [] → IsAtEnd new → IsAtEnd old
at_end_before None new h e = tt
at_end_before (Some s) None h e = absurd h
at_end_before (Some s) (Some t) h e = h ∙ e

pub always : (old : Option (List ℕ)) (P : List ℕ → Type 0) → ((s : List ℕ) → P s) → IfSome old P
always None P h = tt
always (Some s) P h = h s

pub both : (old : Option (List ℕ)) (P Q : List ℕ → Type 0) → ((s : List ℕ) → P s → Q s) → IfSome old P → IfSome old Q
both None P Q h k = tt
both (Some s) P Q h k = h s k

pub none_is_no_spelling : (p : Profile) (old new : Option (List ℕ)) (Q : Type 0) → Consumes old new [] → IsAtEnd new → IfSome old (λ s. (a : Apdu) (n : ℕ) → Accepts p s a n → Q)
none_is_no_spelling p None new Q h e = tt
none_is_no_spelling p (Some s) new Q h e = λ a n k. absurd (accepts_some p s a n (at_end_before (Some s) new h e) k)

pub read_fails_accepts : (p : Profile) (left : Option (List ℕ)) (e : ReadFailure) → IfReadRefused e (λ f. IfSome left (λ s. (0 < length s) × OnlyRefuses p s f))
    → IfSome left (λ s. (a : Apdu) (n : ℕ) → Accepts p s a n → IsReadFault e)
read_fails_accepts p left (ReadFailure.Refused refusal) h = both left _ _ (λ s k a n accepts. k.1.2 a n accepts) h
read_fails_accepts p left ReadFailure.OutOfMemory h = always left _ (λ s a n accepts. tt)
read_fails_accepts p left ReadFailure.ReadFault h = always left _ (λ s a n accepts. tt)

-- a call that reads the next message reads one where what was left begins with a spelling
pub reads_accepted : {T : Type 0} (p : Profile) (left left' : Option (List ℕ)) (broken broken' : Bool) (Is : T → List ℕ → Type 0) (result : Result (Option T) ReadFailure)
    → ReadsNextIn p left left' broken broken' Is result → IfSome left (λ s. (a : Apdu) (n : ℕ) → Accepts p s a n → AnswersSome result)
reads_accepted p left left' broken broken' Is (Ok (Some x)) h = always left _ (λ s a n accepts. tt)
reads_accepted p left left' broken broken' Is (Ok None) h = none_is_no_spelling p left left' ⊥ h.none.0 h.none.1
reads_accepted p left left' broken broken' Is (Err e) h = read_fails_accepts p left e h.refused

-- what is decoded is a spelling, what is refused is refused whole, and a spelling is decoded where there is memory
pub decode_spelled : (s : List ℕ) (result : Result Message Failure) → DecodeAnswers s result → IfOk result (λ m. IsSpelled m s)
decode_spelled s (Ok m) h = h
decode_spelled s (Err e) h = tt

pub decode_refused : (s : List ℕ) (result : Result Message Failure) → DecodeAnswers s result → IfErr result (λ e. IfRefused e (RefusesWhole s))
decode_refused s (Ok m) h = tt
decode_refused s (Err (Failure.Refused refusal)) h = h
decode_refused s (Err Failure.OutOfMemory) h = tt

pub decode_accepts : (s : List ℕ) (result : Result Message Failure) → DecodeAnswers s result
    → (a : Apdu) → SpellsApdu profile_two a s → IfErr result (λ e. e ≡ Failure.OutOfMemory)
decode_accepts s (Ok m) h a spells = tt
decode_accepts s (Err (Failure.Refused refusal)) h a spells = absurd (refuses_whole {p = profile_two} s (fault_of refusal) a h spells)
decode_accepts s (Err Failure.OutOfMemory) h a spells = refl

-- and from these the answer again
pub decode_answers : (s : List ℕ) (result : Result Message Failure) → IfOk result (λ m. IsSpelled m s) → IfErr result (λ e. IfRefused e (RefusesWhole s)) → DecodeAnswers s result
decode_answers s (Ok m) spelled refused = spelled
decode_answers s (Err (Failure.Refused refusal)) spelled refused = refused
decode_answers s (Err Failure.OutOfMemory) spelled refused = tt
