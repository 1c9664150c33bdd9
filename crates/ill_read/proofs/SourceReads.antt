-- A decoder that is fed from a source has what the source gave up, and no octet after a message.
use Rattle.ill_read.proofs.NextRead.{reads_as}
use Rattle.ill_read.specs.declared.value_draft.ValueDraft.{ValueDraft}
use Rattle.ill_read.specs.Paths.{AreMessage}
use Rattle.ill_read.specs.Answers.{IsSpelled, ReadsNext}
use Rattle.ill_schema.specs.declared.message.Message.{Message}
use Rattle.ill_tables.specs.declared.profile.Profile.{Profile as Named}
use Rattle.ill_schema.specs.Profiles.{profile_of}
use Rattle.ill_tables.specs.declared.profile.Profile.TheVariants.{Two}
use Rattle.std.proofs.Common.{◌≡◌, ◌≢◌, ◌⊎◌, ℕ, ◌+◌, ◌<◌, ◌≤◌, List, [], ◌∷◌, ◌++◌, length, length-append, Option, Some, None, Result, Ok, Err, IsTrue, refl, sym, ap, subst, ◌∙◌, inl, inr, arith, append-nil, append_assoc, take, drop}
use Rattle.std.specs.Prelude.{Bool, true, false, IfErr, IfNone, IfOk, IfSome}
use Rattle.std.specs.Io.KnownBytes.{Appends, Consumes, IsAtEnd}
use Rattle.std.proofs.lemmas.Bool.{cases_lt}
use Rattle.std.proofs.lemmas.List.{length-take-le, nil_from_length, take_all, take-append-drop, take-append-le, take-take}
use Rattle.ber_tree.specs.Octets.{are_octets}
use Rattle.ber_leaf.specs.Profile.{profile_two}
use Rattle.ill_schema.specs.Apdu.{Apdu, Accepts, SpellsApdu}
use Rattle.ill_read.specs.Answers.{IsReadFault, IsUnfinishedIn, IfReadFault, IfReadRefused, ReadsNextIn, TakesFront, TakesNoMessageIn}
use Rattle.ill_read.specs.Feeding.{IsOpenAt}
use Rattle.ill_read.specs.Paths.{HoldsAt}
use Rattle.ill_grammar.specs.Standing.{Level, StandsLast}
use Rattle.ill_read.specs.code.ReaderCode.{EndsAs, HasRead, IsFed, IsReadOf, ended, read_result}
use Rattle.ill_read.specs.code.Filling.{NoneEndsWithin, HasFilled, HasKept}
use Rattle.ill_refusals.specs.Outcome.{OnlyRefuses}
use Rattle.ill_read.specs.declared.reader.Reader.{Reader}
use Rattle.ill_read.specs.declared.reader.State.{State}
use Rattle.ill_read.specs.declared.reader.State.TheVariants as state
use Rattle.ill_read.specs.declared.failure.Failure.{Failure}
use Rattle.ill_read.specs.declared.failure.ReadFailure.{ReadFailure}
use Rattle.ill_read.proofs.MessageEnds.{ended_ends, ended_longer, failed_ends, is_failed, is_open, is_whole, last_size, stands_part}
use Rattle.ber_core.proofs.ReadOctets.{octets_join}

-- what is returned at the end, of the octets that were fed
pub finished : {D : Type 0} (p : Named) (holds : D → List Level → List ℕ → Type 0) (has : Named → D → Apdu → ℕ → Type 0) (r : Reader D) (end : Result Bool Failure) → ((fed : List ℕ) → IsOpenAt p holds r fed → end ≡ ended fed) → (r.state ≡ state.Whole → end ≡ Ok true)
    → ((f : Failure) → r.state ≡ state.Failed f → end ≡ Err f) → (s : List ℕ) → IsFed p holds has r s → EndsAs p has r s end
finished p holds has r end opened whole failed s h = go r.state refl
  where
    go : (st : State) → r.state ≡ st → EndsAs p has r s end
    go state.Open e = let o = is_open p holds has r s h e in subst (EndsAs p has r s) (sym (opened s o)) (ended_ends p has r s (stands_part p (HoldsAt p holds r.path) r.at s r.pending.items o.1))
    go state.Whole e = subst (EndsAs p has r s) (sym (whole e)) (is_whole p holds has r s r.pending.items h e)
    go (state.Failed f) e = subst (EndsAs p has r s) (sym (failed f e)) (failed_ends p has r s f (is_failed p holds has r s r.pending.items f h e))

open_or_closed : (st : State) → (st ≡ state.Open) ⊎ (st ≢ state.Open)
open_or_closed state.Open = inl refl
open_or_closed _ = inr (λ e. cc)

stands : {D : Type 0} (p : Named) (holds : D → List Level → List ℕ → Type 0) (has : Named → D → Apdu → ℕ → Type 0) (d : Reader D) (s : List ℕ) → IsFed p holds has d s → d.state ≡ state.Open → StandsLast p (HoldsAt p holds d.path) d.at s d.pending.items
stands p holds has d s h e = (is_open p holds has d s h e).1

-- no message ends before a piece of octets that are all needed
pub pulled_exact : {D : Type 0} (p : Named) (holds : D → List Level → List ℕ → Type 0) (has : Named → D → Apdu → ℕ → Type 0) (d : Reader D) (b piece : List ℕ) (need : ℕ) → IsFed p holds has d b → IsTrue (are_octets piece) → NoneEndsWithin p b → (d.state ≢ state.Open → need ≡ 0)
    → ((a : Apdu) (k : ℕ) → d.state ≡ state.Open → IsTrue (are_octets (b ++ piece)) → Accepts (profile_of p) (b ++ piece) a k → length b + need ≤ k) → length piece ≤ need
    → NoneEndsWithin p (b ++ piece)
pulled_exact p holds has d b piece need h ok exact closed surely le a k accepted = elim (open_or_closed d.state) [
  | inl e ↦ let far = surely a k e (octets_join b piece ((stands p holds has d b h e).0.octets) ok) accepted in omega (arith, far, length-append b piece)
  | inr e ↦
      let none : piece ≡ [] = nil_from_length piece (let z = closed e in omega arith) in
      let same : b ++ piece ≡ b = ap (λ z. b ++ z) none ∙ append-nil b in
      subst (λ z. length z ≤ k) (sym same) (exact a k (subst (λ z. Accepts (profile_of p) z a k) same accepted))
]

-- a decoder that needs more was fed no message
pub none_yet : {D : Type 0} (p : Named) (holds : D → List Level → List ℕ → Type 0) (has : Named → D → Apdu → ℕ → Type 0) (d : Reader D) (b : List ℕ) (need : ℕ) → IsFed p holds has d b → (d.state ≢ state.Open → need ≡ 0) → (need ≢ 0)
    → ((a : Apdu) (k : ℕ) → d.state ≡ state.Open → IsTrue (are_octets (b ++ [])) → Accepts (profile_of p) (b ++ []) a k → length b + need ≤ k) → IsUnfinishedIn (profile_of p) b
none_yet p holds has d b need h closed some surely a n accepted = elim (open_or_closed d.state) [
  | inl e ↦
      let same : b ++ [] ≡ b = append-nil b in
      let octets : IsTrue (are_octets (b ++ [])) = subst (λ z. IsTrue (are_octets z)) (sym same) ((stands p holds has d b h e).0.octets) in
      let far = surely a n e octets (subst (λ z. Accepts (profile_of p) z a n) (sym same) accepted) in
      let le = accepted.0 in
      some (omega (arith, far, le))
  | inr e ↦ some (closed e)
]

-- no piece comes only where nothing is open, or nothing is left
pub pulled_ended : {D : Type 0} (d new : Reader D) (after : Option (List ℕ)) (need wanted : ℕ) → (d.state ≢ state.Open → new ≡ d) → (d.state ≡ state.Open → 0 < need) → (wanted ≡ 0 → need ≡ 0)
    → (0 < wanted → IsAtEnd after) → (new.state ≢ state.Open) ⊎ IsAtEnd after
pulled_ended d new after need wanted stays some none end = elim (cases_lt 0 wanted) [
  | inl l ↦ inr (end l)
  | inr ge ↦
      let closed : d.state ≢ state.Open = λ e. let l = some e in let z = none (omega arith) in omega arith in
      inl (subst (λ (x : Reader _). x.state ≢ state.Open) (sym (stays closed)) closed)
]

-- no message ends before the last of octets within which none does
pub part_unfinished : (p : Named) (b hand : List ℕ) (n k : ℕ) → n ≤ length hand → k < n → NoneEndsWithin p (b ++ take n hand) → IsUnfinishedIn (profile_of p) (b ++ take k hand)
part_unfinished p b hand n k le lt none a m accepted =
    let short : take k (take n hand) ≡ take k hand = take-take k n hand (omega (arith, lt)) in
    let rest = drop k (take n hand) in
    let joined : (b ++ take k hand) ++ rest ≡ b ++ take n hand =
    append_assoc b (take k hand) rest ∙ ap (λ z. b ++ z) (ap (λ z. z ++ rest) (sym short) ∙ take-append-drop k (take n hand)) in
    let le_m : m ≤ length (b ++ take k hand) = accepted.0 in
    let same : take m (b ++ take k hand) ≡ take m (b ++ take n hand) = sym (take-append-le m (b ++ take k hand) rest le_m) ∙ ap (take m) joined in
    let size_n = length-append b (take n hand) in
    let size_k = length-append b (take k hand) in
    let len_n = length-take-le n hand le in
    let len_k = length-take-le k hand (omega (arith, le, lt)) in
    let far : length (b ++ take n hand) ≤ m = none a m (omega (arith, le_m, size_n, size_k, len_n, len_k, lt), subst (SpellsApdu (profile_of p) a) same accepted.1) in
    absurd (omega (arith, far, le_m, size_n, size_k, len_n, len_k, lt))

-- nothing is read where memory or the source failed
pub reads_nothing : {T : Type 0} (p : Named) (left after : Option (List ℕ)) (broken broken' : Bool) (Is : T → List ℕ → Type 0) (e : ReadFailure) → IsReadFault e → TakesFront left after
    → (e ≡ ReadFailure.ReadFault → IsTrue broken') → (e ≡ ReadFailure.ReadFault → TakesNoMessageIn (profile_of p) left after) → (IsTrue broken → IsTrue broken')
    → ReadsNextIn (profile_of p) left after broken broken' Is (Err e)
reads_nothing p left after broken broken' Is (ReadFailure.Refused refusal) fails taken is_broken unfinished stays = absurd fails
reads_nothing p left after broken broken' Is ReadFailure.OutOfMemory fails taken is_broken unfinished stays =
    record { message = tt; none = tt; refused = tt; taken = taken; fault = tt; stays = stays }
reads_nothing p left after broken broken' Is ReadFailure.ReadFault fails taken is_broken unfinished stays =
    record { message = tt; none = tt; refused = tt; taken = taken; fault = (is_broken refl, unfinished refl); stays = stays }

-- at the limit nothing is open
pub full_closed : {D : Type 0} (p : Named) (holds : D → List Level → List ℕ → Type 0) (has : Named → D → Apdu → ℕ → Type 0) (d : Reader D) (s : List ℕ) → IsFed p holds has d s → 1_048_576 ≤ length s → d.state ≢ state.Open
full_closed p holds has d s h le e = let small = (last_size p (HoldsAt p holds d.path) d.at s d.pending.items (stands p holds has d s h e)).1 in omega arith

-- a message that is read of octets within which none ends is spelled by all of them
spelled_by : {D : Type 0} (p : Named) (has : Named → D → Apdu → ℕ → Type 0) (r : Reader D) (b : List ℕ) → HasRead p has r b → NoneEndsWithin p b → (r.at ≡ length b) × IsReadOf p has r.path.draft b
spelled_by p has r b h none =
    let le = h.1.0.0 in let far = none h.0 r.at h.1.0 in
    let e : r.at ≡ length b = omega arith in
    (e, (h.0, subst (SpellsApdu (profile_of p) h.0) (take_all r.at b (omega (arith, e))) h.1.0.1, subst (has p r.path.draft h.0) e h.2))

-- all that was left is what the reader stands p for: nothing is open any more, or nothing is left
fed_all : {D : Type 0} (p : Named) (holds : D → List Level → List ℕ → Type 0) (has : Named → D → Apdu → ℕ → Type 0) (left after : Option (List ℕ)) (d : Reader D) (s : List ℕ) → left ≡ Some s → HasFilled p holds has left after d → IsFed p holds has d s
fed_all p holds has left after d s e h = go left after e h.taken h.ended
  where
    go : (left after : Option (List ℕ)) → left ≡ Some s → Consumes left after h.octets → (d.state ≢ state.Open) ⊎ IsAtEnd after → IsFed p holds has d s
    go None after q t x = absurd cc
    go (Some xs) None q t x = absurd t
    go (Some xs) (Some rest) q t (inl closed) =
        let same : xs ≡ s = cc in
        subst (IsFed p holds has d) (sym t ∙ same) (ended_longer p has d h.octets rest _ _ closed h.fed)
    go (Some xs) (Some rest) q t (inr none) =
        let same : xs ≡ s = cc in
        subst (IsFed p holds has d) (sym (t ∙ ap (λ z. h.octets ++ z) none ∙ append-nil h.octets) ∙ same) h.fed

-- what a reader returns then
pub reads_filled : {D : Type 0} (p : Named) (holds : D → List Level → List ℕ → Type 0) (has : Named → D → Apdu → ℕ → Type 0) (left after : Option (List ℕ)) (broken broken' : Bool) (d : Reader D) (end : Result Bool Failure) (old new : Option (List ℕ))
    → HasKept p holds has left after d old new → ((s : List ℕ) → IsFed p holds has d s → EndsAs p has d s end) → TakesFront left after → (IsTrue broken → IsTrue broken')
    → ReadsNextIn (profile_of p) {T = ℕ} left after broken broken' (λ n b. (n ≡ length b) × IsReadOf p has d.path.draft b × Appends old new b) (read_result d.at end)
reads_filled p holds has left after broken broken' d end old new h f taken stays = record {
  message = says_message end f;
  none = says_none end f;
  refused = says_refused left end f h.filled;
  taken = taken;
  fault = says_fault end;
  stays = stays;
}
  where
    says_message : (r : Result Bool Failure) → ((s : List ℕ) → IsFed p holds has d s → EndsAs p has d s r)
        → IfOk (read_result d.at r) (λ found. IfSome found (λ n. (b : List ℕ) × Consumes left after b × ((n ≡ length b) × IsReadOf p has d.path.draft b × Appends old new b)))
    says_message (Ok false) f = tt
    says_message (Ok true) f = let b = h.filled.octets in let x = spelled_by p has d b (f b h.filled.fed) h.filled.exact in (b, h.filled.taken, (x.0, x.1, h.recorded))
    says_message (Err e) f = tt

    says_none : (r : Result Bool Failure) → ((s : List ℕ) → IsFed p holds has d s → EndsAs p has d s r)
        → IfOk (read_result d.at r) (λ found. IfNone found (Consumes left after [] × IsAtEnd after))
    says_none (Ok false) f = (
      subst (Consumes left after) (f h.filled.octets h.filled.fed) h.filled.taken,
      elim h.filled.ended [
        | inr none ↦ none
        | inl closed ↦ absurd (let e = ap length (f (h.filled.octets ++ 0 ∷ []) (ended_longer p has d h.filled.octets (0 ∷ []) _ _ closed h.filled.fed)) in omega (arith, e, length-append h.filled.octets (0 ∷ [])))
      ],
    )
    says_none _ f = tt

    says_refused : (left : Option (List ℕ)) (r : Result Bool Failure) → ((s : List ℕ) → IsFed p holds has d s → EndsAs p has d s r) → HasFilled p holds has left after d
        → IfErr (read_result d.at r) (λ e. IfReadRefused e (λ f. IfSome left (λ s. (0 < length s) × OnlyRefuses (profile_of p) s f)))
    says_refused left (Ok found) f h = says_nothing found
      where
        says_nothing : (b : Bool) → IfErr (read_result d.at (Ok b)) (λ e. IfReadRefused e (λ f. IfSome left (λ s. (0 < length s) × OnlyRefuses (profile_of p) s f)))
        says_nothing true = tt
        says_nothing false = tt
    says_refused left (Err Failure.OutOfMemory) f h = tt
    says_refused None (Err (Failure.Refused r)) f h = tt
    says_refused (Some s) (Err (Failure.Refused r)) f h = let x = f s (fed_all p holds has (Some s) after d s refl h) in (x.1, x.0)

    says_fault : (r : Result Bool Failure) → IfErr (read_result d.at r) (λ e. IfReadFault e (IsTrue broken' × TakesNoMessageIn (profile_of p) left after))
    says_fault (Ok true) = tt
    says_fault (Err Failure.OutOfMemory) = tt
    says_fault _ = tt

-- a draft of values that was read is a message
pub reads_message : (draft : ValueDraft) (recorded : List ℕ → Type 0) (left left' : Option (List ℕ)) (broken broken' : Bool) (n : ℕ) (message : Option Message) → message ≡ draft.message
    → ReadsNext {T = ℕ} left left' broken broken' (λ n octets. (n ≡ length octets) × IsReadOf Two (λ p values a n. AreMessage values a n) draft octets × recorded octets) (Ok (Some n))
    → ReadsNext {T = Message} left left' broken broken' (λ m octets. IsSpelled m octets × recorded octets) (Ok message)
reads_message draft recorded left left' broken broken' n message is h =
    let read = h.message.2.1 in
    let has = read.2 in
    subst (λ o. ReadsNext {T = Message} left left' broken broken' (λ m octets. IsSpelled m octets × recorded octets) (Ok o)) (sym (is ∙ has.1))
    (reads_as _ _ left left' broken broken' n has.0 (λ b x. (
      let r = x.1 in let a = r.2 in
          let same : has.0 ≡ a.0 = only has.0 a.0 (sym has.1 ∙ a.1) in
          subst (λ m. IsSpelled m b) (sym same) (record { spells = subst (λ y. SpellsApdu profile_two y b) (sym a.2) r.1; octets = a.3 }),
      x.2,
    )) h)
  where
    only : (x y : Message) → Some x ≡ Some y → x ≡ y
    only x y e = cc
