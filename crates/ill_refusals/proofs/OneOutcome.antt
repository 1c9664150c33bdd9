-- Each input has exactly one outcome.
use Rattle.std.proofs.Common.{◌≡◌, ℕ, ◌+◌, ◌*◌, ◌<◌, ◌≤◌, List, [], ◌++◌, length, length-append, take, drop, Some, IsTrue, refl, sym, ap, subst, ◌∙◌, inl, inr, arith, ltb-true, ltb-false}
use Rattle.std.specs.Prelude.{nat_lt}
use Rattle.std.proofs.lemmas.List.{length-drop, length-take-le, take-append-drop}
use Rattle.ber_tree.specs.Tree.{Tree, Spells}
use Rattle.ill_schema.specs.declared.refusal.Cause.{Cause}
use Rattle.ill_schema.specs.Apdu.{Apdu, MeansApdu, Encodes, normal_form_in}
use Rattle.ill_refusals.proofs.FirstFault.{is_judged}
use Rattle.ill_refusals.specs.Fault.{Fault, fault, fault_at, Refuses}
use Rattle.ill_refusals.specs.code.Judge.{faulty}
use Rattle.ber_tree.specs.Octets.{are_octets}
use Rattle.ill_refusals.specs.Outcome.{OnlyAccepts, OnlyRefuses, HasOneOutcome}
use Rattle.ill_refusals.specs.Place.{Open, IsDue}
use Rattle.ber_leaf.specs.Profile.{Profile}
use Rattle.ill_schema.proofs.OneMeaning.{apdu_unique}
use Rattle.ill_refusals.specs.code.Step.{Step, refused, goes, whole, stuck}
use Rattle.ill_refusals.proofs.Machine.{step, IsFinal, Runs, runs-step, runs-trans, one_end}
use Rattle.ill_refusals.proofs.DueSteps.{IsMessage, Placed, ends}
use Rattle.ber_core.proofs.ReadOctets.{take-all}
use Rattle.ill_refusals.proofs.PlaceRuns.{place_run, message_run}
use Rattle.ill_refusals.proofs.TreeRuns.{step_is}
use Rattle.ill_refusals.proofs.Truncation.{truncated_at}
use Rattle.ber_tree.proofs.Lists.{two_cases}

abbrev pub begin : List ℕ → Step
begin s = goes [] 0 s

-- the machine ends with each message that is encoded
pub encodes_run : (p : Profile) (s : List ℕ) (a : Apdu) (n : ℕ) → n ≤ length s → (h : Encodes p a (take n s)) → Runs p (begin s) (whole h.tree n)
encodes_run p s a n le h =
    let r = message_run p a (take n s) (drop n s) h in
    subst (λ z. Runs p (begin z) (whole h.tree n)) (take-append-drop n s) (subst (λ m. Runs p (begin (take n s ++ drop n s)) (whole h.tree m)) (length-take-le n s le) r)

-- it reaches each place that is due
pub due_run : (p : Profile) (s : List ℕ) (path : List Open) (k : ℕ) → IsDue p s k path → Runs p (begin s) (goes path k (drop k s))
due_run p s path k h =
    let r = place_run p path (take k s) (drop k s) h.1 in
    subst (λ z. Runs p (begin z) (goes path k (drop k s))) (take-append-drop k s) (subst (λ m. Runs p (begin (take k s ++ drop k s)) (goes path m (drop k s))) (length-take-le k s h.0) r)

-- and ends at each fault of a place that is due
pub fault_run : (p : Profile) (s : List ℕ) (path : List Open) (k : ℕ) (f : Fault) → IsDue p s k path → fault_at p path k (drop k s) ≡ Some f → Runs p (begin s) (refused f)
fault_run p s path k f h e =
    let st : step p path k (drop k s) ≡ refused f = step_is p path k (drop k s) (faulty f) (is_judged p path k (drop k s) f e) in
    runs-trans p _ _ _ (due_run p s path k h) (runs-step p path k (drop k s) (refused f) st)

-- the fault of octets that end too early is at their end
pub truncated_size : (p : Profile) (s : List ℕ) (f : Fault) → f.cause ≡ Cause.Truncated → Refuses p s f → f.at ≡ length s
truncated_size p s f c (inl h) =
    let at : f ≡ fault Cause.Truncated (h.1 + length (drop h.1 s)) = (truncated_at p h.0 h.1 (drop h.1 s) f (is_judged p h.0 h.1 (drop h.1 s) f h.3) c).1 in
    let le = h.2.0 in
    ap (λ (x : Fault). x.at) at ∙ omega (arith, length-drop h.1 s, le)
truncated_size p s f c (inr h) = absurd (let q : Cause.NormalTooLong ≡ Cause.Truncated = sym (ap (λ (x : Fault). x.cause) h.0) ∙ c in cc)

one_fault : (p : Profile) (s : List ℕ) (f g : Fault) → Runs p (begin s) (refused f) → Runs p (begin s) (refused g) → f ≡ g
one_fault p s f g h k = let e : refused f ≡ refused g = one_end p (begin s) (refused f) (refused g) tt tt h k in cc

one_tree : (p : Profile) (s : List ℕ) (T U : Tree) (m n : ℕ) → Runs p (begin s) (whole T m) → Runs p (begin s) (whole U n) → (T ≡ U) × (m ≡ n)
one_tree p s T U m n h k = let e : whole T m ≡ whole U n = one_end p (begin s) (whole T m) (whole U n) tt tt h k in (cc, cc)

not_both : (p : Profile) (s : List ℕ) (T : Tree) (n : ℕ) (f : Fault) → Runs p (begin s) (whole T n) → Runs p (begin s) (refused f) → ⊥
not_both p s T n f h k = let e : whole T n ≡ refused f = one_end p (begin s) (whole T n) (refused f) tt tt h k in cc

-- an input that begins with a message has no fault
pub encodes_no_fault : (p : Profile) (s : List ℕ) (a : Apdu) (n : ℕ) (path : List Open) (k : ℕ) (f : Fault) → n ≤ length s → Encodes p a (take n s) → IsDue p s k path → fault_at p path k (drop k s) ≡ Some f → ⊥
encodes_no_fault p s a n path k f le h d e = not_both p s h.tree n f (encodes_run p s a n le h) (fault_run p s path k f d e)

-- two messages that one input begins with are one
pub one_encoding : (p : Profile) (s : List ℕ) (a b : Apdu) (m n : ℕ) → m ≤ length s → n ≤ length s → Encodes p a (take m s) → Encodes p b (take n s) → (a ≡ b) × (m ≡ n)
one_encoding p s a b m n le lf h k =
    let q = one_tree p s h.tree k.tree m n (encodes_run p s a m le h) (encodes_run p s b n lf k) in
    (apdu_unique p a b h.tree h.means (subst (λ T. MeansApdu p b T) (sym q.0) k.means), q.1)

pub refused_alone : (p : Profile) (s : List ℕ) (f : Fault) → Refuses p s f → Runs p (begin s) (refused f) → OnlyRefuses p s f
refused_alone p s f h r = (
  h,
  (λ g k. elim k [
    | inl x ↦ one_fault p s g f (fault_run p s x.0 x.1 g x.2 x.3) r
    | inr x ↦ absurd (not_both p s _ _ f (encodes_run p s x.1.0 x.1.1 x.1.2 x.1.3) r)
  ]),
  (λ a n k. not_both p s _ _ f (encodes_run p s a n k.0 k.1.encodes) r),
)

pub message_encodes : (p : Profile) (s : List ℕ) (T : Tree) (n : ℕ) → (m : IsMessage p s T n) → (n ≤ length s) × Encodes p m.apdu (take n s)
message_encodes p s T n m =
    let t : take n s ≡ m.octets = ap (take n) m.begins ∙ ap (λ k. take k (m.octets ++ m.remaining)) m.size ∙ take-all m.octets m.remaining in
    let z = m.short in (
      omega (arith, m.size, ap length m.begins, length-append m.octets m.remaining),
      record { tree = T; means = m.means; spells = subst (λ x. Spells T x) (sym t) m.spells; shallow = m.shallow; short = omega (arith, m.size, ap length t) },
    )

pub accepted_alone : (p : Profile) (s : List ℕ) (a : Apdu) (n : ℕ) → n ≤ length s → (h : Encodes p a (take n s)) → length (normal_form_in p a) ≤ p.limit → OnlyAccepts p s a n
accepted_alone p s a n le h short =
    let r = encodes_run p s a n le h in (
      (le, record { encodes = h; normal_short = short }),
      (λ b m k. one_encoding p s b a m n k.0 le k.1.encodes h),
      (λ f k. elim k [
        | inl x ↦ not_both p s _ _ f r (fault_run p s x.0 x.1 f x.2 x.3)
        | inr x ↦
            let q = one_encoding p s x.1.0 a x.1.1 n x.1.2 le x.1.3 h in
            let l : p.limit < length (normal_form_in p a) = subst (λ b. p.limit < length (normal_form_in p b)) q.0 x.1.4 in
            omega arith
      ]),
    )

pub long_alone : (p : Profile) (s : List ℕ) (a : Apdu) (n : ℕ) → n ≤ length s → (h : Encodes p a (take n s)) → p.limit < length (normal_form_in p a) → OnlyRefuses p s (fault Cause.NormalTooLong 0)
long_alone p s a n le h long =
    let r = encodes_run p s a n le h in (
      inr (refl, (a, n, le, h, long)),
      (λ g k. elim k [
        | inl x ↦ absurd (not_both p s _ _ g r (fault_run p s x.0 x.1 g x.2 x.3))
        | inr x ↦ x.0
      ]),
      (λ b m k.
          let q = one_encoding p s b a m n k.0 le k.1.encodes h in
          let l : length (normal_form_in p a) ≤ p.limit = subst (λ c. length (normal_form_in p c) ≤ p.limit) q.0 k.1.normal_short in
          omega arith),
    )

-- each input has exactly one outcome: it is accepted as one APDU, of one size, or refused with one fault
pub one_outcome : (p : Profile) (s : List ℕ) → IsTrue (are_octets s) → HasOneOutcome p s
one_outcome p s ok =
    let r = ends p s (2 * length s + 1) (begin s) ok ([], refl, refl, refl) (let z : 2 * length s + 0 < 2 * length s + 1 = omega arith in z) in
    end r.0 r.1 r.2 r.3
  where
    end : (st : Step) → IsFinal st → Placed p s st → Runs p (begin s) st → HasOneOutcome p s
    end (goes path k rest) f h r = absurd f
    end stuck f h r = absurd h
    end (refused f) g h r = inr (f, refused_alone p s f (inl (h.0, h.1, h.2, h.3)) r)
    end (whole T n) f h r =
        let e = message_encodes p s T n h in
        elim (two_cases (nat_lt p.limit (length (normal_form_in p h.apdu)))) [
          | inl l ↦ inr (fault Cause.NormalTooLong 0, long_alone p s h.apdu n e.0 e.1 (ltb-true _ _ l))
          | inr l ↦ inl (h.apdu, n, accepted_alone p s h.apdu n e.0 e.1 (ltb-false _ _ l))
        ]
