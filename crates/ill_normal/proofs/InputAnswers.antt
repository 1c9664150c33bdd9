-- Which result an input has.
use Rattle.std.proofs.Common.{◌≡◌, ◌<◌, ℕ, Bool, List, [], length, Option, Some, None, Err, IfSome, ap, ◌∙◌, arith}
use Rattle.std.specs.Io.KnownBytes.{IsAtEnd}
use Rattle.ill_schema.specs.Apdu.{Apdu, Accepts, normal_form_in}
use Rattle.ill_refusals.specs.Fault.{Fault, fault_of}
use Rattle.ill_refusals.specs.Outcome.{OnlyRefuses}
use Rattle.ber_leaf.specs.Profile.{Profile}
use Rattle.ill_schema.proofs.Streams.{parts_accept, accepts_once, accepts_some}
use Rattle.ill_inputs.proofs.TakenOctets.{front}
use Rattle.ill_read.proofs.Accepted.{always, both}
use Rattle.ill_normal.specs.declared.failure.NormalFailure.{NormalFailure}
use Rattle.ill_normal.specs.Calls.{taking, putting}
use Rattle.ill_normal.specs.Normalised.{ForwardsIn, FailsIn, Answers, AnswersRefused}

accepted : {p : Profile} (s : List ℕ) (new held held' : Option (List ℕ)) (r w : ℕ) → (f : ForwardsIn p (Some s) new held held' r w) → Accepts p s f.apdu (length f.octets)
accepted {p = p} s new held held' r w f = let t = front s new f.octets f.taken in parts_accept p s f.apdu f.octets t.0 t.1 f.spells

pub forwarded_accepts : {p : Profile} (old new held held' : Option (List ℕ)) (r w : ℕ) → ForwardsIn p old new held held' r w
    → IfSome old (λ s. (a : Apdu) (n : ℕ) → Accepts p s a n → Some w ≡ Some (length (normal_form_in p a)))
forwarded_accepts {p = p} None new held held' r w f = tt
forwarded_accepts {p = p} (Some s) new held held' r w f = λ a n h.
    let one = accepts_once p s f.apdu a (length f.octets) n (accepted s new held held' r w f) h in
    ap (λ (x : ℕ). Some x) (f.written_size ∙ ap (λ (x : Apdu). length (normal_form_in p x)) one.0)

pub forwarded_empty : {p : Profile} (old new held held' : Option (List ℕ)) (r w : ℕ) → ForwardsIn p old new held held' r w → IfSome old (λ s. s ≡ [] → Some w ≡ None)
forwarded_empty {p = p} None new held held' r w f = tt
forwarded_empty {p = p} (Some s) new held held' r w f = λ e. absurd (accepts_some p s f.apdu (length f.octets) e (accepted s new held held' r w f))

pub forwarded_refuses : {p : Profile} (old new held held' : Option (List ℕ)) (r w : ℕ) → ForwardsIn p old new held held' r w
    → IfSome old (λ s. (f : Fault) → 0 < length s → OnlyRefuses p s f → ⊥)
forwarded_refuses {p = p} None new held held' r w f = tt
forwarded_refuses {p = p} (Some s) new held held' r w f = λ g some only. only.2 f.apdu (length f.octets) (accepted s new held held' r w f)

pub none_accepts : (p : Profile) (old : Option (List ℕ)) → IsAtEnd old → IfSome old (λ s. (a : Apdu) (n : ℕ) → Accepts p s a n → None ≡ Some (length (normal_form_in p a)))
none_accepts p None e = tt
none_accepts p (Some s) e = λ a n h. absurd (accepts_some p s a n e h)

pub none_refuses : (p : Profile) (old : Option (List ℕ)) → IsAtEnd old → IfSome old (λ s. (f : Fault) → 0 < length s → OnlyRefuses p s f → ⊥)
none_refuses p None e = tt
none_refuses p (Some s) e = λ f some only. let l : length s ≡ 0 = ap length e in omega arith

pub fails_accepts : (p : Profile) (left left' held held' : Option (List ℕ)) (x y : Bool) (e : NormalFailure) → FailsIn p (taking left left' x) (putting held held' y) e
    → IfSome left (λ s. (a : Apdu) (n : ℕ) → Accepts p s a n → Answers {T = Option ℕ} (Err e) (Some (length (normal_form_in p a))))
fails_accepts p left left' held held' x y (NormalFailure.Refused refusal) h = both left _ _ (λ s k a n accepts. k.1.2 a n accepts) h.0
fails_accepts p left left' held held' x y NormalFailure.OutOfMemory h = always left _ (λ s a n accepts. tt)
fails_accepts p left left' held held' x y NormalFailure.ReadFault h = always left _ (λ s a n accepts. tt)
fails_accepts p left left' held held' x y (NormalFailure.WriteFault w) h = always left _ (λ s a n accepts. tt)

pub fails_refuses : (p : Profile) (left left' held held' : Option (List ℕ)) (x y : Bool) (e : NormalFailure) → FailsIn p (taking left left' x) (putting held held' y) e
    → IfSome left (λ s. (f : Fault) → 0 < length s → OnlyRefuses p s f → AnswersRefused {T = Option ℕ} (Err e) f)
fails_refuses p left left' held held' x y (NormalFailure.Refused refusal) h = both left _ _ (λ s k f some only. only.1 (fault_of refusal) k.1.0) h.0
fails_refuses p left left' held held' x y NormalFailure.OutOfMemory h = always left _ (λ s f some only. tt)
fails_refuses p left left' held held' x y NormalFailure.ReadFault h = always left _ (λ s f some only. tt)
fails_refuses p left left' held held' x y (NormalFailure.WriteFault w) h = always left _ (λ s f some only. tt)
