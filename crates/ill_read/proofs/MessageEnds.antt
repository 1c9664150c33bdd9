-- What a decoder knows at the end of a message, and of octets that follow.
use Rattle.ill_tables.specs.declared.profile.Profile.{Profile as Named}
use Rattle.ill_schema.specs.Profiles.{profile_of}
use Rattle.ill_tables.specs.declared.profile.Profile.TheVariants.{Two}
use Rattle.std.proofs.Common.{◌≡◌, ◌≢◌, ℕ, ◌+◌, ◌<◌, ◌≤◌, List, [], ◌∷◌, ◌++◌, length, length-append, take, Some, None, Ok, Err, true, false, IsTrue, refl, sym, ap, subst, ◌∙◌, inl, inr, arith, append_assoc}
use Rattle.std.proofs.lemmas.Bool.{cases_lt}
use Rattle.std.proofs.lemmas.List.{nil_from_length, take-append-le, take_all}
use Rattle.ber_tree.specs.Octets.{are_octets}
use Rattle.ber_leaf.specs.Profile.{profile_two}
use Rattle.ill_schema.specs.declared.message.Message.{Message}
use Rattle.ill_schema.specs.declared.refusal.Cause.{Cause}
use Rattle.ill_schema.specs.declared.refusal.Refusal.{Refusal}
use Rattle.ill_schema.specs.Apdu.{Apdu, Encodes, Accepts, SpellsApdu, normal_form_in}
use Rattle.ill_schema.specs.Message.{apdu_of}
use Rattle.ill_refusals.proofs.FirstFault.{has_fault, is_judged}
use Rattle.ill_refusals.specs.Fault.{Fault, fault, Refuses, fault_of}
use Rattle.ill_refusals.specs.code.Judge.{faulty, judge}
use Rattle.ill_grammar.proofs.PlaceNeeds.{bound_small}
use Rattle.ill_read.specs.Answers.{IsRead, IsPartIn, IsRefused, IsRefusedIn, NormalAnswersIn}
use Rattle.ill_read.specs.Paths.{AreMessage, AreValues, HoldsAt}
use Rattle.ill_grammar.specs.Standing.{Level, StandsBefore, StandsLast}
use Rattle.ill_read.specs.code.ReaderCode.{DecodeAnswers, EndsAs, HasClosed, HasRead, HasStopped, InState, IsFed, IsRunning, ended}
use Rattle.ill_read.specs.Feeding.{IsOpenAt, StatesAreApart, ended as message_ended}
use Rattle.ill_refusals.specs.Outcome.{OnlyAccepts, OnlyRefuses}
use Rattle.ill_refusals.specs.Place.{Open}
use Rattle.ill_read.specs.declared.failure.Failure.{Failure}
use Rattle.ill_read.specs.declared.decoder.Decoder.{Decoder}
use Rattle.ill_read.specs.declared.value_draft.ValueDraft.{ValueDraft}
use Rattle.ill_read.specs.declared.reader.Reader.{Reader}
use Rattle.ill_read.specs.declared.reader.State.{State}
use Rattle.ill_read.specs.declared.reader.State.TheVariants as state
use Rattle.ill_refusals.proofs.Continuations.{refused_at}
use Rattle.ill_refusals.proofs.Prefixes.{refusal_stays}
use Rattle.ber_core.proofs.ReadOctets.{octets_join}
use Rattle.ill_refusals.proofs.Truncation.{truncated_at}
use Rattle.ill_refusals.proofs.OneOutcome.{accepted_alone, long_alone, refused_alone, fault_run}

pub too_long : (p : Named) (s : List ℕ) (a : Apdu) (n : ℕ) → n ≤ length s → Encodes (profile_of p) a (take n s) → 1_048_576 < length (normal_form_in (profile_of p) a)
    → IsRefusedIn (profile_of p) s (Failure.Refused (record { at = 0; cause = Cause.NormalTooLong }))
too_long p s a n le h long = (long_alone (profile_of p) s a n le h long, λ e. cc)

-- a refusal is the one fault
pub refuses_alone : (p : Named) (s : List ℕ) (f : Fault) → Refuses (profile_of p) s f → OnlyRefuses (profile_of p) s f
refuses_alone p s f (inl h) = refused_alone (profile_of p) s f (inl h) (fault_run (profile_of p) s h.0 h.1 f h.2 h.3)
refuses_alone p s f (inr h) = subst (OnlyRefuses (profile_of p) s) (sym h.0) (long_alone (profile_of p) s h.1.0 h.1.1 h.1.2 h.1.3 h.1.4)

-- more octets change neither a message nor a refusal
accepts_longer : (p : Named) (s x : List ℕ) (a : Apdu) (n : ℕ) → Accepts (profile_of p) s a n → OnlyAccepts (profile_of p) (s ++ x) a n
accepts_longer p s x a n h =
    let le = h.0 in
    accepted_alone (profile_of p) (s ++ x) a n (omega (arith, length-append s x)) (subst (λ z. Encodes (profile_of p) a z) (sym (take-append-le n s x h.0)) h.1.encodes) h.1.normal_short

refused_longer : (p : Named) (s x : List ℕ) (failure : Failure) → IsRefusedIn (profile_of p) s failure → IsRefusedIn (profile_of p) (s ++ x) failure
refused_longer p s x (Failure.Refused r) h = (refuses_alone p (s ++ x) (fault_of r) (refusal_stays (profile_of p) s x (fault_of r) h.1 h.0.0), h.1)
refused_longer p s x Failure.OutOfMemory h = tt

read_longer : {D : Type 0} (p : Named) (has : Named → D → Apdu → ℕ → Type 0) (r : Reader D) (s x : List ℕ) → HasRead p has r s → HasRead p has r (s ++ x)
read_longer p has r s x h = (h.0, accepts_longer p s x h.0 r.at h.1.0, h.2)

-- once nothing is open
pub ended_longer : {D : Type 0} (p : Named) (has : Named → D → Apdu → ℕ → Type 0) (r : Reader D) (s x : List ℕ) (A B : Type 0) → (r.state ≡ state.Open → ⊥) → InState p r.state s (HasRead p has r s) A
    → InState p r.state (s ++ x) (HasRead p has r (s ++ x)) B
ended_longer p has r s x A B n h = go r.state n h
  where
    go : (st : State) → (st ≡ state.Open → ⊥) → InState p st s (HasRead p has r s) A → InState p st (s ++ x) (HasRead p has r (s ++ x)) B
    go state.Open n h = absurd (n refl)
    go state.Whole n h = read_longer p has r s x h
    go (state.Failed f) n h = refused_longer p s x f h

-- octets that come after those that wait
pub running_longer : {D : Type 0} (p : Named) (holds : D → List Level → List ℕ → Type 0) (has : Named → D → Apdu → ℕ → Type 0) (r : Reader D) (s rest x : List ℕ) → IsTrue (are_octets x) → HasStopped p holds has r s rest → IsRunning p holds has r (s ++ x) (rest ++ x)
running_longer p holds has r s rest x ok h = go r.state h
  where
    go : (st : State) → InState p st s (HasRead p has r s) (StandsLast p (HoldsAt p holds r.path) r.at s rest)
        → InState p st (s ++ x) (HasRead p has r (s ++ x)) (StandsBefore p (HoldsAt p holds r.path) r.at (s ++ x) (rest ++ x))
    go state.Open h =
        let b = h.0 in
        record {
          place = b.place;
          before = b.before;
          joined = ap (λ z. z ++ x) b.joined ∙ append_assoc b.before rest x;
          octets = octets_join s x b.octets ok;
          offset = b.offset;
          stands = b.stands;
          is_place = b.is_place;
        }
    go state.Whole h = read_longer p has r s x h
    go (state.Failed f) h = refused_longer p s x f h

-- a place whose next octets are missing: the input ends too early
pub stands_part : (p : Named) (Stands : List Open → Type 0) (at : ℕ) (s rest : List ℕ) → StandsLast p Stands at s rest → IsPartIn (profile_of p) s
stands_part p Stands at s rest h =
    let b = h.0 in
    subst (λ z. OnlyRefuses (profile_of p) z (fault Cause.Truncated (length s))) (sym b.joined)
    (refused_at (profile_of p) b.place b.before rest (fault Cause.Truncated (length s)) b.is_place
    (subst (λ k. judge (profile_of p) b.place k rest ≡ faulty (fault Cause.Truncated (length s))) b.offset (is_judged (profile_of p) b.place at rest _ h.1)))

-- nothing is open after the end
pub after_end : {D : Type 0} (p : Named) (has : Named → D → Apdu → ℕ → Type 0) (r : Reader D) (s : List ℕ) (A : Type 0) → HasClosed p has r s → InState p r.state s (HasRead p has r s) A
after_end p has r s A h = go r.state h
  where
    go : (st : State) → InState p st s (HasRead p has r s) ⊥ → InState p st s (HasRead p has r s) A
    go state.Open h = absurd h
    go _ h = h

-- the refusal of the place where a path is
pub stops_refused : (p : Named) (Stands : List Open → Type 0) (at : ℕ) (s rest : List ℕ) (r : Refusal) → (b : StandsBefore p Stands at s rest) → judge (profile_of p) b.place at rest ≡ faulty (fault_of r) → r.cause ≢ Cause.Truncated
    → IsRefusedIn (profile_of p) s (Failure.Refused r)
stops_refused p Stands at s rest r b e n = (
  subst (λ z. OnlyRefuses (profile_of p) z (fault_of r)) (sym b.joined)
      (refused_at (profile_of p) b.place b.before rest (fault_of r) b.is_place (subst (λ k. judge (profile_of p) b.place k rest ≡ faulty (fault_of r)) b.offset e)),
  n,
)

-- or the octets end
pub stops_open : (p : Named) (Stands : List Open → Type 0) (at : ℕ) (s rest : List ℕ) (r : Refusal) → (b : StandsBefore p Stands at s rest) → judge (profile_of p) b.place at rest ≡ faulty (fault_of r) → r.cause ≡ Cause.Truncated
    → StandsLast p Stands at s rest
stops_open p Stands at s rest r b e c =
    let q = truncated_at (profile_of p) b.place at rest (fault_of r) e c in
    let n : at + length rest ≡ length s = omega (arith, b.offset, ap length b.joined, length-append b.before rest) in
    (b, has_fault (profile_of p) b.place at rest _ (e ∙ ap faulty (q.1 ∙ ap (fault Cause.Truncated) n)))

-- the octets that lead to a place and those that wait there
pub last_size : (p : Named) (Stands : List Open → Type 0) (at : ℕ) (s rest : List ℕ) → StandsLast p Stands at s rest → (at + length rest ≡ length s) × (length s < 1_048_576)
last_size p Stands at s rest h =
    let b = h.0 in
    let n : at + length rest ≡ length s = omega (arith, b.offset, ap length b.joined, length-append b.before rest) in
    let within = (truncated_at (profile_of p) b.place at rest (fault Cause.Truncated (length s)) (is_judged (profile_of p) b.place at rest _ h.1) refl).0 in
    let limit = bound_small (profile_of p) b.place b.before b.is_place in
    (n, omega arith)

pub nothing_waits : {D : Type 0} (p : Named) (holds : D → List Level → List ℕ → Type 0) (r : Reader D) → IsOpenAt p holds r [] → r.pending.items ≡ []
nothing_waits p holds r h = nil_from_length r.pending.items (let size = (last_size p (HoldsAt p holds r.path) r.at [] r.pending.items h.1).0 in omega arith)

-- nothing refuses an empty input but that it ends
pub failed_ends : {D : Type 0} (p : Named) (has : Named → D → Apdu → ℕ → Type 0) (r : Reader D) (s : List ℕ) (failure : Failure) → IsRefusedIn (profile_of p) s failure → EndsAs p has r s (Err failure)
failed_ends p has r s (Failure.Refused q) h = (h.0, filled s (λ e. h.1 (ap (λ (f : Fault). f.cause) (sym (h.0.1 (fault Cause.Truncated 0) (subst (λ z. Refuses (profile_of p) z (fault Cause.Truncated 0)) (sym e) empty))))))
  where
    empty : Refuses (profile_of p) [] (fault Cause.Truncated 0)
    empty = inl ([], 0, (omega arith, refl), refl)

    filled : (s : List ℕ) → (s ≡ [] → ⊥) → 0 < length s
    filled [] n = absurd (n refl)
    filled (x ∷ s) n = omega arith
failed_ends p has r s Failure.OutOfMemory h = tt

-- an open reader was fed its octets
pub is_fed : {D : Type 0} (p : Named) (holds : D → List Level → List ℕ → Type 0) (has : Named → D → Apdu → ℕ → Type 0) (r : Reader D) (fed : List ℕ) → IsOpenAt p holds r fed → IsFed p holds has r fed
is_fed p holds has r fed h = subst (λ st. InState p st fed (HasRead p has r fed) (StandsLast p (HoldsAt p holds r.path) r.at fed r.pending.items)) (sym h.0) h.1

pub is_open : {D : Type 0} (p : Named) (holds : D → List Level → List ℕ → Type 0) (has : Named → D → Apdu → ℕ → Type 0) (r : Reader D) (fed : List ℕ) → IsFed p holds has r fed → r.state ≡ state.Open → IsOpenAt p holds r fed
is_open p holds has r fed h e = (e, subst (λ st. InState p st fed (HasRead p has r fed) (StandsLast p (HoldsAt p holds r.path) r.at fed r.pending.items)) e h)

pub open_stands : {D : Type 0} (p : Named) (holds : D → List Level → List ℕ → Type 0) (has : Named → D → Apdu → ℕ → Type 0) (r : Reader D) (s rest : List ℕ) → HasStopped p holds has r s rest → r.state ≡ state.Open
    → StandsLast p (HoldsAt p holds r.path) r.at s rest
open_stands p holds has r s rest h e = subst (λ st. InState p st s (HasRead p has r s) (StandsLast p (HoldsAt p holds r.path) r.at s rest)) e h

pub is_whole : {D : Type 0} (p : Named) (holds : D → List Level → List ℕ → Type 0) (has : Named → D → Apdu → ℕ → Type 0) (r : Reader D) (s rest : List ℕ) → HasStopped p holds has r s rest → r.state ≡ state.Whole → HasRead p has r s
is_whole p holds has r s rest h e = subst (λ st. InState p st s (HasRead p has r s) (StandsLast p (HoldsAt p holds r.path) r.at s rest)) e h

pub is_failed : {D : Type 0} (p : Named) (holds : D → List Level → List ℕ → Type 0) (has : Named → D → Apdu → ℕ → Type 0) (r : Reader D) (s rest : List ℕ) (f : Failure) → HasStopped p holds has r s rest → r.state ≡ state.Failed f → IsRefusedIn (profile_of p) s f
is_failed p holds has r s rest f h e = subst (λ st. InState p st s (HasRead p has r s) (StandsLast p (HoldsAt p holds r.path) r.at s rest)) e h

-- a new reader can run through octets
pub runs : {D : Type 0} (p : Named) (holds : D → List Level → List ℕ → Type 0) (has : Named → D → Apdu → ℕ → Type 0) (r : Reader D) (w : List ℕ) → IsTrue (are_octets w) → IsOpenAt p holds r [] → IsRunning p holds has r w w
runs p holds has r w ok fed = subst (λ z. IsRunning p holds has r w (z ++ w)) (nothing_waits p holds r fed) (running_longer p holds has r [] r.pending.items w ok (is_fed p holds has r [] fed))

-- an open reader's octets end too early, or there are none
pub ended_ends : {D : Type 0} (p : Named) (has : Named → D → Apdu → ℕ → Type 0) (r : Reader D) (s : List ℕ) → IsPartIn (profile_of p) s → EndsAs p has r s (ended s)
ended_ends p has r [] h = refl
ended_ends p has r (octet ∷ s) h = (h, omega arith)

pub ended_some : (fed : List ℕ) (n : ℕ) → length fed ≡ n → n ≢ 0 → ended fed ≡ Err (Failure.Refused (record { at = n; cause = Cause.Truncated }))
ended_some [] n e some = absurd (some (sym e))
ended_some (octet ∷ fed) n e some = ap (λ k. Err (Failure.Refused (record { at = k; cause = Cause.Truncated }))) e

-- what a decoder returns then
pub ended_whole : (fed : List ℕ) → ended fed ≡ Ok true → ⊥
ended_whole [] e = cc
ended_whole (octet ∷ fed) e = cc

pub ended_none : (fed : List ℕ) → ended fed ≡ Ok false → Ok None ≡ message_ended fed
ended_none [] e = refl
ended_none (octet ∷ fed) e = absurd cc

pub ended_failed : (fed : List ℕ) (f : Failure) → ended fed ≡ Err f → Err f ≡ message_ended fed
ended_failed [] f e = absurd cc
ended_failed (octet ∷ fed) f e = let q : Failure.Refused (record { at = length (octet ∷ fed); cause = Cause.Truncated }) ≡ f = cc in ap Err (sym q)

-- the message that a whole decoder has
pub message_is : (r : Reader ValueDraft) (s : List ℕ) → HasRead Two (λ p values a n. AreMessage values a n) r s → (m : Message) × (r.path.draft.message ≡ Some m) × IsRead s m
message_is r s h =
    let has = h.2 in
    (has.0, has.1, subst (λ k. OnlyAccepts profile_two s (apdu_of has.0) k) (sym has.3) (subst (λ a. OnlyAccepts profile_two s a r.at) (sym has.2) h.1))

-- the states of a decoder
pub states_apart : (d : Decoder) → StatesAreApart d
states_apart d = record {
  part = λ fed h. stands_part Two (HoldsAt Two AreValues d.reader.path) d.reader.at fed d.reader.pending.items h.1;
  open_or_whole = λ fed m h w. let q : state.Open ≡ state.Whole = sym h.0 ∙ w.0 in cc;
  open_or_failed = λ fed f h w. let q : state.Open ≡ state.Failed f = sym h.0 ∙ w in cc;
  whole_or_failed = λ m f h w. let q : state.Whole ≡ state.Failed f = sym h.0 ∙ w in cc;
  one_message = λ m n h w. let q : Some m ≡ Some n = sym h.1 ∙ w.1 in cc;
  one_failure = λ f g h w. let q : state.Failed f ≡ state.Failed g = sym h ∙ w in cc;
}

pub decode_fails : (s : List ℕ) (failure : Failure) → IsRefused s failure → DecodeAnswers s (Err failure)
decode_fails s (Failure.Refused r) h = inl h.0
decode_fails s Failure.OutOfMemory h = tt

pub normal_fails : (p : Named) (s : List ℕ) (failure : Failure) → IsRefusedIn (profile_of p) s failure → NormalAnswersIn (profile_of p) s (Err failure)
normal_fails p s (Failure.Refused r) h = inl h.0
normal_fails p s Failure.OutOfMemory h = tt

-- of a message that more octets follow
pub normal_trails : (p : Named) (s : List ℕ) (a : Apdu) (n : ℕ) → OnlyAccepts (profile_of p) s a n → (n ≡ length s → ⊥) → NormalAnswersIn (profile_of p) s (Err (Failure.Refused (record { at = n; cause = Cause.TrailingBytes })))
normal_trails p s a n h other = inr (a, n, h.0, not_all n (length s) h.0.0 other, refl)
  where
    not_all : (x y : ℕ) → x ≤ y → (x ≡ y → ⊥) → x < y
    not_all x y le ne = elim (cases_lt x y) [
      | inl lt ↦ lt
      | inr ge ↦ absurd (ne (omega (arith, le, ge)))
    ]

pub normal_whole : (p : Named) (s : List ℕ) (a : Apdu) (n : ℕ) → OnlyAccepts (profile_of p) s a n → n ≡ length s → SpellsApdu (profile_of p) a s
normal_whole p s a n h e = subst (SpellsApdu (profile_of p) a) (take_all n s (omega (arith, e))) h.0.1
