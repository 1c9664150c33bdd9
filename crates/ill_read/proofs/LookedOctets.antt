-- Of octets that a source has at hand, those that are taken are what a decoder was fed.
use Rattle.ill_tables.specs.declared.profile.Profile.{Profile as Named}
use Rattle.ill_schema.specs.Profiles.{profile_of}
use Rattle.std.proofs.Common.{◌≡◌, ℕ, ◌+◌, ◌-◌, ◌<◌, ◌≤◌, Bool, true, false, nat_le, min, List, [], ◌∷◌, ◌++◌, length, length-append, take, drop, Some, None, IsTrue, refl, sym, ap, ap₂, subst, ◌∙◌, inl, inr, arith, append-nil, append_assoc}
use Rattle.std.specs.Prelude.{if◌then◌else◌}
use Rattle.std.proofs.Math.Seq.{take-nil}
use Rattle.std.proofs.lemmas.Bool.{cases_lt}
use Rattle.std.proofs.lemmas.List.{append_cancel_right, length-take-le, take-append-drop, take-append-le, take_all}
use Rattle.ber_tree.specs.Octets.{are_octets}
use Rattle.ber_leaf.specs.Profile.{Profile}
use Rattle.ill_schema.specs.declared.refusal.Cause.{Cause}
use Rattle.ill_schema.specs.Apdu.{Apdu, Encodes}
use Rattle.ill_refusals.specs.Fault.{Fault, fault, fault_at, Finding, passes, finds, sound, first_fault, definite_end, conditions, cut_fault, past_end}
use Rattle.ill_refusals.specs.Outcome.{OnlyAccepts}
use Rattle.ill_refusals.specs.Place.{Open, bound}
use Rattle.ill_refusals.specs.code.Judge.{faulty, judge}
use Rattle.ill_refusals.proofs.Continuations.{refused_at}
use Rattle.ill_refusals.proofs.FirstFault.{is_judged}
use Rattle.ber_core.proofs.ReadOctets.{octets_left}
use Rattle.ill_refusals.proofs.OneOutcome.{accepted_alone, truncated_size}
use Rattle.ill_refusals.proofs.Truncation.{truncated_at}
use Rattle.ill_schema.specs.declared.refusal.Refusal.{Refusal}
use Rattle.ill_read.specs.Answers.{IsRefusedIn}
use Rattle.ill_read.specs.Paths.{HoldsAt}
use Rattle.ill_grammar.specs.Standing.{Level, StandsLast}
use Rattle.ill_read.specs.code.ReaderCode.{HasRead, HasStopped, InState, IsFed, IsRunning}
use Rattle.ill_read.specs.code.Filling.{HasLooked, NoneEndsWithin}
use Rattle.ill_read.specs.declared.reader.Reader.{Reader}
use Rattle.ill_read.specs.declared.reader.State.{State}
use Rattle.ill_read.specs.declared.reader.State.TheVariants as state
use Rattle.ill_read.specs.declared.failure.Failure.{Failure}
use Rattle.ill_read.proofs.MessageEnds.{is_open, last_size, running_longer, stands_part}

first_when : (d e : Finding) (more : List Finding) → d ≡ e → first_fault (d ∷ more) ≡ first_fault (e ∷ more)
first_when d e more q = ap (λ x. first_fault (x ∷ more)) q

-- where octets end too early, none at all end too early, too
ends_here : (p : Profile) (path : List Open) (k : ℕ) (rest : List ℕ) (f : Fault) → fault_at p path k rest ≡ Some f → f.cause ≡ Cause.Truncated → k < bound p path
    → (g : Fault) × (fault_at p path k [] ≡ Some g) × (g.cause ≡ Cause.Truncated)
ends_here p path k rest f e c lt = go (definite_end p path k) refl
  where
    nothing : fault_at p path k [] ≡ first_fault (conditions p path k (cut_fault p path k []) [])
    nothing = ap (λ w. first_fault (conditions p path k (cut_fault p path k []) w)) (take-nil (bound p path - k))

    early : (b : Bool) → nat_le (bound p path - k) 0 ≡ b → (if b then fault (past_end path) k else fault Cause.Truncated (k + 0)).cause ≡ Cause.Truncated
    early true q = absurd (grind (arith, q, lt))
    early false q = refl

    go : (d : Finding) → definite_end p path k ≡ d → (g : Fault) × (fault_at p path k [] ≡ Some g) × (g.cause ≡ Cause.Truncated)
    go passes q = (cut_fault p path k [], nothing ∙ first_when _ _ _ q, early (nat_le (bound p path - k) 0) refl)
    go (finds h) q =
        let same : Some h ≡ Some f = sym (first_when _ _ _ q) ∙ e in
        (h, nothing ∙ first_when _ _ _ q, ap (λ (x : Fault). x.cause) (let s : h ≡ f = cc in s) ∙ c)
    go sound q = absurd (let none : None ≡ Some f = sym (first_when _ _ _ q) ∙ e in cc)

-- a path that the octets at hand don't take further is at the end of those that were passed
pub last_here : (p : Named) (Stands : List Open → Type 0) (at : ℕ) (s rest u : List ℕ) → s ≡ u ++ rest → StandsLast p Stands at s rest → StandsLast p Stands at u []
last_here p Stands at s rest u e h =
    let b = h.0 in
    let same : u ≡ b.before = append_cancel_right u b.before rest (sym e ∙ b.joined) in
    let lt = (truncated_at (profile_of p) b.place at rest _ (is_judged (profile_of p) b.place at rest _ h.1) refl).0 in
    let g = ends_here (profile_of p) b.place at rest _ h.1 refl (omega (arith, lt)) in
    let all : u ≡ b.before ++ [] = same ∙ sym (append-nil b.before) in
    let refused = refused_at (profile_of p) b.place b.before [] g.0 b.is_place (subst (λ k. judge (profile_of p) b.place k [] ≡ faulty g.0) b.offset (is_judged (profile_of p) b.place at [] _ g.1)) in
    let size : g.0.at ≡ length u = truncated_size (profile_of p) (b.before ++ []) g.0 g.2 refused.0 ∙ ap length (sym all) in
    let is : g.0 ≡ fault Cause.Truncated (length u) = ap₂ (λ (c : Cause) (n : ℕ). fault c n) g.2 size in (
      record { place = b.place; before = b.before; joined = all; octets = octets_left u rest (subst (λ z. IsTrue (are_octets z)) e b.octets); offset = b.offset; stands = b.stands; is_place = b.is_place },
      g.1 ∙ ap (λ (x : Fault). Some x) is,
    )

-- a message ends at the end of the octets that it is read of, or they go on after it
read_front : (p : Named) (a : Apdu) (n : ℕ) (u rest : List ℕ) → OnlyAccepts (profile_of p) (u ++ rest) a n → n ≤ length u → OnlyAccepts (profile_of p) u a n
read_front p a n u rest h le = accepted_alone (profile_of p) u a n le (subst (Encodes (profile_of p) a) (take-append-le n u rest le) h.0.1.encodes) h.0.1.normal_short

-- it doesn't end within octets in which none does
ends_after : (p : Named) (a : Apdu) (n : ℕ) (b octets : List ℕ) → OnlyAccepts (profile_of p) (b ++ octets) a n → NoneEndsWithin p b → length b ≤ n
ends_after p a n b octets h none = elim (cases_lt n (length b)) [
  | inl lt ↦ let within = read_front p a n b octets h (omega (arith, lt)) in none a n within.0
  | inr le ↦ le
]

-- nor within its own
whole_exact : (p : Named) (a : Apdu) (n : ℕ) (u : List ℕ) → OnlyAccepts (profile_of p) u a n → n ≡ length u → NoneEndsWithin p u
whole_exact p a n u h e b k accepted = let one = h.1 b k accepted in omega (arith, one.1, e)

-- the octets at hand begin after those that a reader was fed
pub started : {D : Type 0} (p : Named) (holds : D → List Level → List ℕ → Type 0) (has : Named → D → Apdu → ℕ → Type 0) (r : Reader D) (b octets : List ℕ) → r.pending.items ≡ [] → IsTrue (are_octets octets) → IsFed p holds has r b → IsRunning p holds has r (b ++ octets) octets
started p holds has r b octets none ok h =
    subst (λ z. IsRunning p holds has r (b ++ octets) (z ++ octets)) none (running_longer p holds has r b r.pending.items octets ok h)

pub starts_at : {D : Type 0} (p : Named) (holds : D → List Level → List ℕ → Type 0) (has : Named → D → Apdu → ℕ → Type 0) (r : Reader D) (b : List ℕ) → r.state ≡ state.Open → r.pending.items ≡ [] → IsFed p holds has r b → r.at ≡ length b
starts_at p holds has r b e none h =
    let size = (last_size p (HoldsAt p holds r.path) r.at b r.pending.items (is_open p holds has r b h e).1).0 in omega (arith, size, ap length none)

parts : (b octets : List ℕ) (n : ℕ) → b ++ octets ≡ (b ++ take n octets) ++ drop n octets
parts b octets n = ap (λ z. b ++ z) (sym (take-append-drop n octets)) ∙ sym (append_assoc b (take n octets) (drop n octets))

abbrev IsFedIn : {D : Type 0} → Named → (D → List Level → List ℕ → Type 0) → (Named → D → Apdu → ℕ → Type 0) → Reader D → List ℕ → State → Type 0
IsFedIn p holds has r s st = InState p st s (HasRead p has r s) (StandsLast p (HoldsAt p holds r.path) r.at s r.pending.items)

pub looked_open : {D : Type 0} (p : Named) (holds : D → List Level → List ℕ → Type 0) (has : Named → D → Apdu → ℕ → Type 0) (r : Reader D) (b octets : List ℕ) (n : ℕ) → r.state ≡ state.Open → r.pending.items ≡ [] → HasStopped p holds has r (b ++ octets) (drop n octets)
    → HasLooked p holds has r (b ++ take n octets)
looked_open p holds has r b octets n e none h =
    let u = b ++ take n octets in
    let last = subst (λ st. InState p st (b ++ octets) (HasRead p has r (b ++ octets)) (StandsLast p (HoldsAt p holds r.path) r.at (b ++ octets) (drop n octets))) e h in
    let here = last_here p (HoldsAt p holds r.path) r.at (b ++ octets) (drop n octets) u (parts b octets n) last in
    let part = stands_part p (HoldsAt p holds r.path) r.at u [] here in
    record {
      fed = subst (IsFedIn p holds has r u) (sym e) (subst (StandsLast p (HoldsAt p holds r.path) r.at u) (sym none) here);
      exact = λ a k accepted. absurd (part.2 a k accepted);
    }

pub looked_whole : {D : Type 0} (p : Named) (holds : D → List Level → List ℕ → Type 0) (has : Named → D → Apdu → ℕ → Type 0) (r : Reader D) (b octets : List ℕ) (n : ℕ) → r.state ≡ state.Whole → n ≡ min (length octets) (r.at - length b) → NoneEndsWithin p b → HasRead p has r (b ++ octets)
    → HasLooked p holds has r (b ++ take n octets)
looked_whole p holds has r b octets n e is none h =
    let u = b ++ take n octets in
    let after = ends_after p h.0 r.at b octets h.1 none in
    let within = h.1.0.0 in
    let le : n ≤ length octets = omega (arith, is) in
    let size : r.at ≡ length u = omega (arith, is, after, within, length-append b octets, length-append b (take n octets), length-take-le n octets le) in
    let read = read_front p h.0 r.at u (drop n octets) (subst (λ z. OnlyAccepts (profile_of p) z h.0 r.at) (parts b octets n) h.1) (omega (arith, size)) in
    record {
      fed = subst (IsFedIn p holds has r u) (sym e) (h.0, read, h.2);
      exact = whole_exact p h.0 r.at u read size;
    }

pub looked_refused : {D : Type 0} (p : Named) (holds : D → List Level → List ℕ → Type 0) (has : Named → D → Apdu → ℕ → Type 0) (r : Reader D) (q : Refusal) (b octets : List ℕ) → r.state ≡ state.Failed (Failure.Refused q) → IsRefusedIn (profile_of p) (b ++ octets) (Failure.Refused q)
    → HasLooked p holds has r (b ++ take (length octets) octets)
looked_refused p holds has r q b octets e h =
    let all : b ++ octets ≡ b ++ take (length octets) octets = ap (λ z. b ++ z) (sym (take_all (length octets) octets (omega arith))) in
    let u = b ++ take (length octets) octets in
    let refused = subst (λ z. IsRefusedIn (profile_of p) z (Failure.Refused q)) all h in
    record {
      fed = subst (IsFedIn p holds has r u) (sym e) refused;
      exact = λ a k accepted. absurd (refused.0.2 a k accepted);
    }

pub looked_without_memory : {D : Type 0} (p : Named) (holds : D → List Level → List ℕ → Type 0) (has : Named → D → Apdu → ℕ → Type 0) (r : Reader D) (b : List ℕ) → r.state ≡ state.Failed Failure.OutOfMemory → NoneEndsWithin p b → HasLooked p holds has r (b ++ [])
looked_without_memory p holds has r b e none = record {
  fed = subst (IsFedIn p holds has r (b ++ [])) (sym e) tt;
  exact = subst (NoneEndsWithin p) (sym (append-nil b)) none;
}

-- where none was taken, it was fed what it was fed before
pub looked_nothing : {D : Type 0} (p : Named) (holds : D → List Level → List ℕ → Type 0) (has : Named → D → Apdu → ℕ → Type 0) (r : Reader D) (b octets : List ℕ) (n : ℕ) → n ≡ 0 → HasLooked p holds has r (b ++ take n octets) → HasLooked p holds has r b
looked_nothing p holds has r b octets n e h = subst (HasLooked p holds has r) (ap (λ k. b ++ take k octets) e ∙ append-nil b) h
