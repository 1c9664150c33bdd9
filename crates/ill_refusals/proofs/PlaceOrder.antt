-- The places of one input are in one order, and only the last can have a fault.
use Rattle.std.proofs.Common.{◌≡◌, ◌⊎◌, ℕ, zero, suc, ◌+◌, ◌-◌, ◌<◌, ◌≤◌, true, false, List, [], ◌∷◌, length, take, drop, Some, IsTrue, refl, sym, ap, subst, ◌∙◌, inl, inr, arith}
use Rattle.ber_tree.specs.Tree.{Tree}
use Rattle.ill_refusals.specs.Fault.{Fault, fault_at}
use Rattle.ill_refusals.specs.code.Judge.{Judgement, faulty, closes, opens, reads, judge}
use Rattle.ber_tree.specs.Octets.{are_octets}
use Rattle.ill_refusals.specs.Place.{Open, IsDue}
use Rattle.ber_leaf.specs.Profile.{Profile}
use Rattle.ill_refusals.proofs.Judgements.{Judged, judged, id_size}
use Rattle.ill_refusals.specs.code.Step.{Step, refused, goes, whole, stuck, with_tree, close, step_after}
use Rattle.ill_refusals.proofs.Machine.{step, after, after-sum, IsFinal, Runs}
use Rattle.std.proofs.lemmas.List.{take-append-drop, length-take-le}
use Rattle.ill_refusals.proofs.DueSteps.{Placed, step_placed}
use Rattle.ber_core.proofs.ReadOctets.{octets_right}
use Rattle.ill_refusals.proofs.FirstFault.{is_judged}
use Rattle.ill_refusals.proofs.OneOutcome.{begin, due_run}

-- a later place: further on, or at the same offset with fewer elements open
abbrev pub Later : List Open → ℕ → Step → Type 0
Later path k (goes outer l rest) = (k < l) ⊎ ((k ≡ l) × (length outer < length path))
Later path k (refused f) = Unit {0}
Later path k (whole T n) = Unit {0}
Later path k stuck = Unit {0}

with_further : (path outer : List Open) (T : Tree) (k l : ℕ) (rest : List ℕ) → k < l → Later path k (with_tree outer T l rest)
with_further path [] T k l rest h = tt
with_further path (o ∷ outer) T k l rest h = inl h

with_fewer : (path outer : List Open) (T : Tree) (k l : ℕ) (rest : List ℕ) → k ≡ l → length outer < length path → Later path k (with_tree outer T l rest)
with_fewer path [] T k l rest e h = tt
with_fewer path (o ∷ outer) T k l rest e h = inr (e, h)

moved_later : (p : Profile) (path : List Open) (k : ℕ) (rest : List ℕ) (j : Judgement) → Judged p path k rest j → Later path k (step_after j path k rest)
moved_later p path k rest (faulty f) r = tt
moved_later p path k rest (closes m) r =
    let a : length path ≡ suc (length r.outer) = ap length r.is_path in
    subst (λ z. Later path k (close z (k + m) (drop m rest))) (sym r.is_path) (elim r.how [
      | inl x ↦ let e = x.0 in with_fewer path r.outer _ k (k + m) (drop m rest) (omega arith) (omega arith)
      | inr x ↦ let e = x.0 in with_further path r.outer _ k (k + m) (drop m rest) (omega arith)
    ])
moved_later p path k rest (opens tag e h end) r =
    let i = id_size tag true r.started.has_identifier in let s = r.size in inl (omega arith)
moved_later p path k rest (reads tag h content) r =
    let i = id_size tag false r.started.has_identifier in let s = r.size in
    with_further path path _ k (k + h + length content) (drop (h + length content) rest) (omega arith)

later_trans : (a b : List Open) (k l : ℕ) (st : Step) → (k < l) ⊎ ((k ≡ l) × (length b < length a)) → Later b l st → Later a k st
later_trans a b k l (refused f) h g = tt
later_trans a b k l (whole T n) h g = tt
later_trans a b k l stuck h g = tt
later_trans a b k l (goes c m rest) (inl h) (inl g) = inl (omega arith)
later_trans a b k l (goes c m rest) (inl h) (inr g) = let e = g.0 in inl (omega arith)
later_trans a b k l (goes c m rest) (inr h) (inl g) = let e = h.0 in inl (omega arith)
later_trans a b k l (goes c m rest) (inr h) (inr g) = let e = h.0 in let f = g.0 in let x = h.1 in let y = g.1 in inr (omega arith, omega arith)

pub final_stays : (p : Profile) (n : ℕ) (st : Step) → IsFinal st → after p n st ≡ st
final_stays p zero st h = refl
final_stays p (suc n) (refused f) h = final_stays p n (refused f) h
final_stays p (suc n) (whole T k) h = final_stays p n (whole T k) h
final_stays p (suc n) stuck h = final_stays p n stuck h
final_stays p (suc n) (goes path k rest) h = absurd h

-- one step or more lead to a later place
pub steps_later : (p : Profile) (s : List ℕ) (n : ℕ) (path : List Open) (k : ℕ) (rest : List ℕ) → IsTrue (are_octets s) → Placed p s (goes path k rest) → Later path k (after p (suc n) (goes path k rest))
steps_later p s zero path k rest ok h = moved_later p path k rest (judge p path k rest) (judged p path k rest (octets_right h.0 rest (subst (λ z. IsTrue (are_octets z)) h.1 ok)))
steps_later p s (suc n) path k rest ok h =
    from (step p path k rest) (step_placed p s path k rest ok h) (moved_later p path k rest (judge p path k rest) (judged p path k rest (octets_right h.0 rest (subst (λ z. IsTrue (are_octets z)) h.1 ok))))
    (λ a l r g. steps_later p s n a l r ok g)
  where
    from : (st : Step) → Placed p s st → Later path k st → ((a : List Open) (l : ℕ) (r : List ℕ) → Placed p s (goes a l r) → Later a l (after p (suc n) (goes a l r))) → Later path k (after p (suc n) st)
    from (goes a m r) g l again = later_trans path a k m (after p (suc n) (goes a m r)) l (again a m r g)
    from (refused f) g l again = subst (Later path k) (sym (final_stays p (suc n) (refused f) tt)) tt
    from (whole T m) g l again = subst (Later path k) (sym (final_stays p (suc n) (whole T m) tt)) tt
    from stuck g l again = absurd g

pub due_placed : (p : Profile) (s : List ℕ) (path : List Open) (k : ℕ) → IsDue p s k path → Placed p s (goes path k (drop k s))
due_placed p s path k h = (take k s, sym (take-append-drop k s), sym (length-take-le k s h.0), h.1)

-- one step or more lead from the first place to the second
abbrev pub LeadsTo : Profile → Step → Step → Type 0
LeadsTo p a b = (n : ℕ) × (after p (suc n) a ≡ b)

-- what two runs from one step reach: the same, or the one leads to the other
pub either_leads : (p : Profile) (st a b : Step) → Runs p st a → Runs p st b → (a ≡ b) ⊎ LeadsTo p a b ⊎ LeadsTo p b a
either_leads p st a b h k = compared (k.0 - h.0) (h.0 - k.0) refl refl
  where
    compared : (x y : ℕ) → x ≡ k.0 - h.0 → y ≡ h.0 - k.0 → (a ≡ b) ⊎ LeadsTo p a b ⊎ LeadsTo p b a
    compared (suc x) y e f =
        let n : h.0 + suc x ≡ k.0 = omega arith in
        inr (inl (x, ap (after p (suc x)) (sym h.1) ∙ sym (after-sum p h.0 (suc x) st) ∙ ap (λ m. after p m st) n ∙ k.1))
    compared zero (suc y) e f =
        let n : k.0 + suc y ≡ h.0 = omega arith in
        inr (inr (y, ap (after p (suc y)) (sym k.1) ∙ sym (after-sum p k.0 (suc y) st) ∙ ap (λ m. after p m st) n ∙ h.1))
    compared zero zero e f = let n : h.0 ≡ k.0 = omega arith in inl (sym h.1 ∙ ap (λ m. after p m st) n ∙ k.1)

leads_later : (p : Profile) (s : List ℕ) (a b : List Open) (k l : ℕ) → IsTrue (are_octets s) → IsDue p s k a → LeadsTo p (goes a k (drop k s)) (goes b l (drop l s)) → (k < l) ⊎ ((k ≡ l) × (length b < length a))
leads_later p s a b k l ok h r = subst (Later a k) r.1 (steps_later p s r.0 a k (drop k s) ok (due_placed p s a k h))

-- two due places with one offset and equally many open elements are one place
pub one_place : (p : Profile) (s : List ℕ) (a b : List Open) (k : ℕ) → IsTrue (are_octets s) → IsDue p s k a → IsDue p s k b → length a ≡ length b → a ≡ b
one_place p s a b k ok h g e = elim (either_leads p (begin s) (goes a k (drop k s)) (goes b k (drop k s)) (due_run p s a k h) (due_run p s b k g)) [
  | inl x ↦ cc
  | inr x ↦ absurd (elim x [
    | inl r ↦ not_later (length b) (length a) (leads_later p s a b k k ok h r) (omega arith)
    | inr r ↦ not_later (length a) (length b) (leads_later p s b a k k ok g r) (omega arith)
  ])
]
  where
    not_later : (m n : ℕ) → (k < k) ⊎ ((k ≡ k) × (m < n)) → n ≤ m → ⊥
    not_later m n (inl x) l = omega arith
    not_later m n (inr x) l = let y = x.1 in omega arith

-- no due place comes after one with a fault
pub last_place : (p : Profile) (s : List ℕ) (a b : List Open) (k l : ℕ) (f : Fault) → IsTrue (are_octets s) → IsDue p s k a → fault_at p a k (drop k s) ≡ Some f → IsDue p s l b
    → (l < k) ⊎ ((l ≡ k) × (length a ≤ length b))
last_place p s a b k l f ok h e g = elim (either_leads p (begin s) (goes a k (drop k s)) (goes b l (drop l s)) (due_run p s a k h) (due_run p s b l g)) [
  | inl x ↦
      let q : goes a k (drop k s) ≡ goes b l (drop l s) = x in
      let m : l ≡ k = cc in let n : length a ≡ length b = ap length (same_path a b k l (drop k s) (drop l s) q) in inr (m, omega arith)
  | inr x ↦ elim x [
    | inl r ↦
        let st : step p a k (drop k s) ≡ refused f = ap (λ j. step_after j a k (drop k s)) (is_judged p a k (drop k s) f e) in
        let q : refused f ≡ goes b l (drop l s) = sym (ap (after p r.0) st ∙ final_stays p r.0 (refused f) tt) ∙ r.1 in
        absurd cc
    | inr r ↦ elim (leads_later p s b a l k ok g r) [ inl y ↦ inl y | inr y ↦ let z = y.1 in inr (y.0, omega arith) ]
  ]
]
  where
    same_path : (a b : List Open) (k l : ℕ) (v w : List ℕ) → goes a k v ≡ goes b l w → a ≡ b
    same_path a b k l v w q = cc
