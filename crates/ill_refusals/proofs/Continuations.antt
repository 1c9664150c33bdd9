-- What may still follow a place that is due.
use Rattle.std.proofs.Common.{◌≡◌, ◌⊎◌, ℕ, zero, suc, ◌+◌, ◌≤◌, List, [], ◌∷◌, ◌++◌, length, length-append, take, drop, Some, None, IsTrue, sym, ap, subst, ◌∙◌, inl, inr, arith}
use Rattle.ber_tree.specs.Tree.{Tree}
use Rattle.ill_schema.specs.Apdu.{Apdu, Encodes, normal_form_in}
use Rattle.ill_refusals.proofs.FirstFault.{has_fault}
use Rattle.ill_refusals.specs.Fault.{Fault}
use Rattle.ill_refusals.specs.code.Judge.{Judgement, faulty, closes, opens, reads, judge}
use Rattle.ber_tree.specs.Octets.{are_octets}
use Rattle.ill_refusals.specs.Outcome.{OnlyAccepts, OnlyRefuses}
use Rattle.ill_refusals.specs.Place.{Open, IsPlace, IsDue}
use Rattle.ber_leaf.specs.Profile.{Profile}
use Rattle.ill_refusals.proofs.Judgements.{Judged, judged}
use Rattle.ill_refusals.specs.code.Step.{Step, refused, goes, whole, stuck, with_tree, close, step_after}
use Rattle.ill_refusals.proofs.Machine.{step, after, Runs, runs-step, runs-trans}
use Rattle.ill_refusals.proofs.OneOutcome.{begin, due_run, encodes_run, refused_alone, accepted_alone, message_encodes}
use Rattle.ill_refusals.proofs.DueSteps.{IsMessage, Placed, step_placed}
use Rattle.ill_refusals.proofs.PlaceOrder.{either_leads, due_placed, final_stays}
use Rattle.ber_core.proofs.ReadOctets.{octets_right, take-all, drop-all}
use Rattle.ill_refusals.proofs.TreeRuns.{step_is}

-- octets that lead to a place, and what follows
pub due_at : (p : Profile) (path : List Open) (u rest : List ℕ) → IsPlace p u path → IsDue p (u ++ rest) (length u) path
due_at p path u rest h = (omega (arith, length-append u rest), subst (λ z. IsPlace p z path) (sym (take-all u rest)) h)

-- a fault at the place where the decoder is, is the one outcome
pub refused_at : (p : Profile) (path : List Open) (u rest : List ℕ) (f : Fault) → IsPlace p u path → judge p path (length u) rest ≡ faulty f → OnlyRefuses p (u ++ rest) f
refused_at p path u rest f h e =
    let d = due_at p path u rest h in
    let z : drop (length u) (u ++ rest) ≡ rest = drop-all u rest in
    let st : step p path (length u) rest ≡ refused f = step_is p path (length u) rest (faulty f) e in
    let r : Runs p (begin (u ++ rest)) (goes path (length u) rest) = subst (λ w. Runs p (begin (u ++ rest)) (goes path (length u) w)) z (due_run p (u ++ rest) path (length u) d) in
    refused_alone p (u ++ rest) f
    (inl (path, length u, d, has_fault p path (length u) (drop (length u) (u ++ rest)) f (ap (judge p path (length u)) z ∙ e)))
    (runs-trans p _ _ _ r (runs-step p path (length u) rest (refused f) st))

-- a whole message is the one outcome
pub accepted_at : (p : Profile) (s : List ℕ) (T : Tree) (n : ℕ) → (m : IsMessage p s T n) → length (normal_form_in p m.apdu) ≤ p.limit → OnlyAccepts p s m.apdu n
accepted_at p s T n m short = let e = message_encodes p s T n m in accepted_alone p s m.apdu n e.0 e.1 short

-- an open element has this end
abbrev pub HasEnd : ℕ → List Open → Type 0
HasEnd e [] = ⊥
HasEnd e (o ∷ path) = (o.end ≡ Some e) ⊎ HasEnd e path

-- the octets up to this end belong to the message
abbrev pub Keeps : ℕ → Step → Type 0
Keeps e (goes path k rest) = HasEnd e path ⊎ (e ≤ k)
Keeps e (whole T n) = e ≤ n
Keeps e (refused f) = Unit {0}
Keeps e stuck = Unit {0}

pub with_keeps : (e : ℕ) (path : List Open) (T : Tree) (k : ℕ) (rest : List ℕ) → HasEnd e path ⊎ (e ≤ k) → Keeps e (with_tree path T k rest)
with_keeps e [] T k rest (inl h) = absurd h
with_keeps e [] T k rest (inr h) = h
with_keeps e (o ∷ path) T k rest h = h

closes_keeps : (e : ℕ) (o : Open) (outer : List Open) (k m : ℕ) → (o.end ≡ Some k) ⊎ (o.end ≡ None) → HasEnd e (o ∷ outer) ⊎ (e ≤ k) → HasEnd e outer ⊎ (e ≤ k + m)
closes_keeps e o outer k m how (inr l) = inr (omega arith)
closes_keeps e o outer k m how (inl (inr h)) = inl h
closes_keeps e o outer k m (inl a) (inl (inl h)) = let q : Some k ≡ Some e = sym a ∙ h in let r : k ≡ e = cc in inr (omega arith)
closes_keeps e o outer k m (inr a) (inl (inl h)) = absurd (let q : None ≡ Some e = sym a ∙ h in cc)

moved_keeps : (p : Profile) (e : ℕ) (path : List Open) (k : ℕ) (rest : List ℕ) (j : Judgement) → Judged p path k rest j → HasEnd e path ⊎ (e ≤ k) → Keeps e (step_after j path k rest)
moved_keeps p e path k rest (faulty f) r h = tt
moved_keeps p e path k rest (closes m) r h =
    subst (λ z. Keeps e (close z (k + m) (drop m rest))) (sym r.is_path)
    (with_keeps e r.outer _ (k + m) (drop m rest)
    (closes_keeps e r.innermost r.outer k m (elim r.how [ inl x ↦ inl x.1 | inr x ↦ inr x.1 ]) (subst (λ z. HasEnd e z ⊎ (e ≤ k)) r.is_path h)))
moved_keeps p e path k rest (opens tag x n end) r h = elim h [ inl a ↦ inl (inr a) | inr a ↦ inr (omega arith) ]
moved_keeps p e path k rest (reads tag n content) r h = with_keeps e path _ (k + n + length content) (drop (n + length content) rest) (elim h [ inl a ↦ inl a | inr a ↦ inr (omega arith) ])

steps_keep : (p : Profile) (s : List ℕ) (e n : ℕ) (st : Step) → IsTrue (are_octets s) → Placed p s st → Keeps e st → Keeps e (after p n st)
steps_keep p s e zero st ok h k = k
steps_keep p s e (suc n) (goes path k rest) ok h a =
    steps_keep p s e n (step p path k rest) ok (step_placed p s path k rest ok h)
    (moved_keeps p e path k rest (judge p path k rest) (judged p path k rest (octets_right h.0 rest (subst (λ z. IsTrue (are_octets z)) h.1 ok))) a)
steps_keep p s e (suc n) (refused f) ok h a = steps_keep p s e n (refused f) ok h a
steps_keep p s e (suc n) (whole T m) ok h a = steps_keep p s e n (whole T m) ok h a
steps_keep p s e (suc n) stuck ok h a = steps_keep p s e n stuck ok h a

-- from a due place a message is reached, not the other way round
leads_to_message : (p : Profile) (s : List ℕ) (path : List Open) (k : ℕ) (T : Tree) (n : ℕ) → IsDue p s k path → Runs p (begin s) (whole T n) → Runs p (goes path k (drop k s)) (whole T n)
leads_to_message p s path k T n h r = elim (either_leads p (begin s) (goes path k (drop k s)) (whole T n) (due_run p s path k h) r) [
  | inl x ↦ absurd (let q : goes path k (drop k s) ≡ whole T n = x in cc)
  | inr x ↦ elim x [
    | inl a ↦ (suc a.0, a.1)
    | inr a ↦ absurd (let q : whole T n ≡ goes path k (drop k s) = sym (final_stays p (suc a.0) (whole T n) tt) ∙ a.1 in cc)
  ]
]

-- a message that goes on from a place reaches the end of each definite element that is open there, so that many octets may be asked for
pub ends_before : (p : Profile) (s : List ℕ) (path : List Open) (k e : ℕ) (a : Apdu) (n : ℕ) → IsTrue (are_octets s) → IsDue p s k path → HasEnd e path → n ≤ length s → Encodes p a (take n s) → e ≤ n
ends_before p s path k e a n ok h g le enc =
    let r = leads_to_message p s path k enc.tree n h (encodes_run p s a n le enc) in
    subst (Keeps e) r.1 (steps_keep p s e r.0 (goes path k (drop k s)) ok (due_placed p s path k h) (inl g))

-- and the end of the primitive element, or of the header, that is read there
pub reads_before : (p : Profile) (s : List ℕ) (path : List Open) (k e : ℕ) (a : Apdu) (n : ℕ) → IsTrue (are_octets s) → IsDue p s k path → Keeps e (step p path k (drop k s)) → n ≤ length s → Encodes p a (take n s) → e ≤ n
reads_before p s path k e a n ok h g le enc =
    let r = leads_to_message p s path k enc.tree n h (encodes_run p s a n le enc) in
    go r.0 r.1
  where
    go : (m : ℕ) → after p m (goes path k (drop k s)) ≡ whole enc.tree n → e ≤ n
    go zero q = absurd cc
    go (suc m) q = subst (Keeps e) q (steps_keep p s e m (step p path k (drop k s)) ok (step_placed p s path k (drop k s) ok (due_placed p s path k h)) g)
