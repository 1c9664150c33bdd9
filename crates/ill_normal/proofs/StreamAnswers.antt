-- Which result a stream has.
use Rattle.std.proofs.Common.{◌≡◌, ℕ, ◌<◌, ◌≤◌, Bool, List, [], ◌∷◌, length, Option, Some, None, Err, IfSome, refl, ap, subst, arith}
use Rattle.std.specs.Io.KnownBytes.{Consumes, IsAtEnd}
use Rattle.ill_schema.specs.Apdu.{Apdu, IsStream}
use Rattle.ill_refusals.specs.Fault.{Fault, fault_of}
use Rattle.ill_refusals.specs.Outcome.{OnlyRefuses}
use Rattle.ill_schema.specs.Profiles.{profile_of}
use Rattle.ill_tables.specs.declared.profile.Profile.{Profile as Named}
use Rattle.ill_normal.specs.declared.failure.NormalFailure.{NormalFailure}
use Rattle.ill_normal.specs.declared.failure.StreamCause.{StreamCause}
use Rattle.ill_normal.specs.declared.failure.StreamFailure.{StreamFailure}
use Rattle.ill_normal.specs.Calls.{taking, putting}
use Rattle.ill_normal.specs.Normalised.{IsResourceFailure}
use Rattle.ill_normal.specs.Streamed.{PassesIn, StopsIn, StopsAfterIn, IsRefusedAfter, AnswersCount, AnswersRefusedAfter, AnswersTooMany}
use Rattle.ill_normal.proofs.LongestStreams.{nothing_over, no_longer, one_rest}
use Rattle.ill_normal.proofs.PassedStreams.{passes_stream}
use Rattle.ill_inputs.proofs.TakenOctets.{front}

module _ (q : Named) where
  -- nothing is left of s after these APDUs
  whole_stream : (s : List ℕ) (left' held held' : Option (List ℕ)) (whole before : ℕ) → (p : PassesIn (profile_of q) (Some s) left' held held' whole before) → IsAtEnd left'
      → IsStream (profile_of q) s p.apdus []
  whole_stream s left' held held' whole before p e =
      let t = passes_stream q s left' held held' whole before p in
      let none : IsAtEnd (Some t.0) = subst IsAtEnd t.1 e in
      subst (IsStream (profile_of q) s p.apdus) none t.2

  pub ok_accepts : (left left' held held' : Option (List ℕ)) (whole before : ℕ) → PassesIn (profile_of q) left left' held held' whole before → IsAtEnd left' → whole ≤ 1_000_000
      → IfSome left (λ s. (xs : List Apdu) → IsStream (profile_of q) s xs [] → length xs ≤ 1_000_000 → whole ≡ length xs)
  ok_accepts None left' held held' whole before p e le = tt
  ok_accepts (Some s) left' held held' whole before p e le = λ xs h some.
      let k = whole_stream s left' held held' whole before p e in
      let a = no_longer (profile_of q) s [] [] p.apdus xs k (nothing_over (profile_of q) [] refl) h in
      let b = no_longer (profile_of q) s [] [] xs p.apdus h (nothing_over (profile_of q) [] refl) k in
      omega (arith, a, b, p.count)

  pub ok_refuses : (left left' held held' : Option (List ℕ)) (whole before : ℕ) → PassesIn (profile_of q) left left' held held' whole before → IsAtEnd left' → whole ≤ 1_000_000
      → IfSome left (λ s. (xs : List Apdu) (rest : List ℕ) (f : Fault) → IsStream (profile_of q) s xs rest → length xs < 1_000_000 → 0 < length rest → OnlyRefuses (profile_of q) rest f → ⊥)
  ok_refuses None left' held held' whole before p e le = tt
  ok_refuses (Some s) left' held held' whole before p e le = λ xs rest f h fewer some only.
      let k = whole_stream s left' held held' whole before p e in
      let a = no_longer (profile_of q) s [] rest p.apdus xs k (nothing_over (profile_of q) [] refl) h in
      let b = no_longer (profile_of q) s rest [] xs p.apdus h only.2 k in
      let r : rest ≡ [] = one_rest (profile_of q) s rest [] xs p.apdus h k (omega (arith, a, b)) in
      let z : length rest ≡ 0 = ap length r in omega arith

  pub ok_too_many : (left left' held held' : Option (List ℕ)) (whole before : ℕ) → PassesIn (profile_of q) left left' held held' whole before → IsAtEnd left' → whole ≤ 1_000_000
      → IfSome left (λ s. (xs : List Apdu) (rest : List ℕ) → IsStream (profile_of q) s xs rest → length xs ≡ 1_000_000 → 0 < length rest → ⊥)
  ok_too_many None left' held held' whole before p e le = tt
  ok_too_many (Some s) left' held held' whole before p e le = λ xs rest h many some.
      let k = whole_stream s left' held held' whole before p e in
      let a = no_longer (profile_of q) s [] rest p.apdus xs k (nothing_over (profile_of q) [] refl) h in
      let r : rest ≡ [] = one_rest (profile_of q) s rest [] xs p.apdus h k (omega (arith, a, p.count)) in
      let z : length rest ≡ 0 = ap length r in omega arith

  -- what is left where a stream stops
  rest_left : (s : List ℕ) (rest held grown : Option (List ℕ)) (whole before : ℕ) (Q : List ℕ → Type 0) → (p : PassesIn (profile_of q) (Some s) rest held grown whole before) → IfSome rest Q
      → (r : List ℕ) × IsStream (profile_of q) s p.apdus r × Q r
  rest_left s rest held grown whole before Q p holds =
      let t = passes_stream q s rest held grown whole before p in
      (t.0, t.2, subst (λ o. IfSome o Q) t.1 holds)

  -- an octet is left
  some_left : (rest left' : Option (List ℕ)) (octet : ℕ) → Consumes rest left' (octet ∷ []) → IfSome rest (λ r. 0 < length r)
  some_left None left' octet h = tt
  some_left (Some r) left' octet h =
      let t = front r left' (octet ∷ []) h in let e : length r ≡ length (octet ∷ t.0) = ap length t.1 in omega arith

  not_none : (r : List ℕ) → 0 < length r → r ≡ [] → ⊥
  not_none r h e = let z : length r ≡ 0 = ap length e in omega arith

  module _ (s : List ℕ) (rest left' held grown held' : Option (List ℕ)) (x y : Bool) (whole before : ℕ) (p : PassesIn (profile_of q) (Some s) rest held grown whole before) where
    -- what stopped at a refusal or at too many messages is no stream of so few
    refused_whole : (f : Fault) (xs : List Apdu) → IfSome rest (λ r. (0 < length r) × OnlyRefuses (profile_of q) r f) → IsStream (profile_of q) s xs [] → ⊥
    refused_whole f xs h k =
        let t = rest_left s rest held grown whole before _ p h in
        let a = no_longer (profile_of q) s t.0 [] p.apdus xs t.1 t.2.1.2 k in
        let b = no_longer (profile_of q) s [] t.0 xs p.apdus k (nothing_over (profile_of q) [] refl) t.1 in
        not_none t.0 t.2.0 (one_rest (profile_of q) s t.0 [] p.apdus xs t.1 k (omega (arith, a, b)))

    many_whole : (octet : ℕ) (xs : List Apdu) → whole ≡ 1_000_000 → Consumes rest left' (octet ∷ []) → IsStream (profile_of q) s xs [] → length xs ≤ 1_000_000 → ⊥
    many_whole octet xs e h k le =
        let t = rest_left s rest held grown whole before _ p (some_left rest left' octet h) in
        let b = no_longer (profile_of q) s [] t.0 xs p.apdus k (nothing_over (profile_of q) [] refl) t.1 in
        not_none t.0 t.2 (one_rest (profile_of q) s t.0 [] p.apdus xs t.1 k (omega (arith, b, p.count)))

    stop_accepts : (why : StreamCause) → StopsIn (profile_of q) (taking rest left' x) (putting grown held' y) whole why → (xs : List Apdu) → IsStream (profile_of q) s xs [] → length xs ≤ 1_000_000
        → elim why as (λ _. Type 0) [ StreamCause.Normal failure ↦ IsResourceFailure failure | StreamCause.TooManyMessages ↦ ⊥ ]
    stop_accepts (StreamCause.Normal (NormalFailure.Refused refusal)) h xs k le = refused_whole (fault_of refusal) xs h.1.0 k
    stop_accepts (StreamCause.Normal NormalFailure.OutOfMemory) h xs k le = tt
    stop_accepts (StreamCause.Normal NormalFailure.ReadFault) h xs k le = tt
    stop_accepts (StreamCause.Normal (NormalFailure.WriteFault n)) h xs k le = tt
    stop_accepts StreamCause.TooManyMessages h xs k le = many_whole h.1.0 xs h.0 h.1.1 k le

    stop_refuses : (why : StreamCause) → StopsIn (profile_of q) (taking rest left' x) (putting grown held' y) whole why → (xs : List Apdu) (r : List ℕ) (f : Fault)
        → IsStream (profile_of q) s xs r → length xs < 1_000_000 → 0 < length r → OnlyRefuses (profile_of q) r f
        → elim why as (λ _. Type 0) [ StreamCause.Normal failure ↦ IsRefusedAfter whole failure (length xs) f | StreamCause.TooManyMessages ↦ ⊥ ]
    stop_refuses (StreamCause.Normal (NormalFailure.Refused refusal)) h xs r f k lt some only =
        let t = rest_left s rest held grown whole before _ p h.1.0 in
        let a = no_longer (profile_of q) s t.0 r p.apdus xs t.1 t.2.1.2 k in
        let b = no_longer (profile_of q) s r t.0 xs p.apdus k only.2 t.1 in
        let e : t.0 ≡ r = one_rest (profile_of q) s t.0 r p.apdus xs t.1 k (omega (arith, a, b)) in
        let same : fault_of refusal ≡ f = only.1 (fault_of refusal) (subst (λ z. OnlyRefuses (profile_of q) z (fault_of refusal)) e t.2.1).0 in
        (omega (arith, a, b, p.count), same)
    stop_refuses (StreamCause.Normal NormalFailure.OutOfMemory) h xs r f k lt some only = tt
    stop_refuses (StreamCause.Normal NormalFailure.ReadFault) h xs r f k lt some only = tt
    stop_refuses (StreamCause.Normal (NormalFailure.WriteFault n)) h xs r f k lt some only = tt
    stop_refuses StreamCause.TooManyMessages h xs r f k lt some only =
        let t = rest_left s rest held grown whole before _ p (some_left rest left' h.1.0 h.1.1) in
        let b = no_longer (profile_of q) s r t.0 xs p.apdus k only.2 t.1 in
        absurd (omega (arith, b, p.count, h.0, lt))

    stop_too_many : (why : StreamCause) → StopsIn (profile_of q) (taking rest left' x) (putting grown held' y) whole why → (xs : List Apdu) (r : List ℕ)
        → IsStream (profile_of q) s xs r → length xs ≡ 1_000_000 → 0 < length r
        → elim why as (λ _. Type 0) [ StreamCause.Normal failure ↦ IsResourceFailure failure | StreamCause.TooManyMessages ↦ Unit {0} ]
    stop_too_many (StreamCause.Normal (NormalFailure.Refused refusal)) h xs r k many some =
        let t = rest_left s rest held grown whole before _ p h.1.0 in
        let a = no_longer (profile_of q) s t.0 r p.apdus xs t.1 t.2.1.2 k in
        omega (arith, a, p.count, h.0, many)
    stop_too_many (StreamCause.Normal NormalFailure.OutOfMemory) h xs r k many some = tt
    stop_too_many (StreamCause.Normal NormalFailure.ReadFault) h xs r k many some = tt
    stop_too_many (StreamCause.Normal (NormalFailure.WriteFault n)) h xs r k many some = tt
    stop_too_many StreamCause.TooManyMessages h xs r k many some = tt

  pub stops_accepts : (left left' held held' : Option (List ℕ)) (x y : Bool) (e : StreamFailure) → StopsAfterIn (profile_of q) (taking left left' x) (putting held held' y) e
      → IfSome left (λ s. (xs : List Apdu) → IsStream (profile_of q) s xs [] → length xs ≤ 1_000_000 → AnswersCount (Err e) (length xs))
  stops_accepts None left' held held' x y e h = tt
  stops_accepts (Some s) left' held held' x y e h = stop_accepts s h.rest left' held h.grown held' x y e.whole e.before h.passes e.why h.stops

  pub stops_refuses : (left left' held held' : Option (List ℕ)) (x y : Bool) (e : StreamFailure) → StopsAfterIn (profile_of q) (taking left left' x) (putting held held' y) e
      → IfSome left (λ s. (xs : List Apdu) (r : List ℕ) (f : Fault) → IsStream (profile_of q) s xs r → length xs < 1_000_000 → 0 < length r → OnlyRefuses (profile_of q) r f
      → AnswersRefusedAfter (Err e) (length xs) f)
  stops_refuses None left' held held' x y e h = tt
  stops_refuses (Some s) left' held held' x y e h = stop_refuses s h.rest left' held h.grown held' x y e.whole e.before h.passes e.why h.stops

  pub stops_too_many : (left left' held held' : Option (List ℕ)) (x y : Bool) (e : StreamFailure) → StopsAfterIn (profile_of q) (taking left left' x) (putting held held' y) e
      → IfSome left (λ s. (xs : List Apdu) (r : List ℕ) → IsStream (profile_of q) s xs r → length xs ≡ 1_000_000 → 0 < length r → AnswersTooMany (Err e))
  stops_too_many None left' held held' x y e h = tt
  stops_too_many (Some s) left' held held' x y e h = stop_too_many s h.rest left' held h.grown held' x y e.whole e.before h.passes e.why h.stops
