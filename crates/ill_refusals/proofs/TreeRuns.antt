-- The machine runs through every whole tree of an element that is due.
use Rattle.std.proofs.Common.{◌≡◌, ℕ, ◌+◌, ◌≤◌, true, false, List, [], ◌∷◌, ◌++◌, length, drop, Option, Some, None, refl, sym, ap, ap₂, subst, ◌∙◌, inl, inr, arith, append_assoc, length-append}
use Rattle.std.proofs.lemmas.List.{drop_at}
use Rattle.ber_tree.specs.Identifier.{Tag, identifier}
use Rattle.ber_tree.specs.Tree.{Tree, Trees, primitive, constructed, none, more, tag_of, IsDefinite, IsIndefinite, Spells, SpellsAll, depth, depth_all}
use Rattle.ill_refusals.specs.Element.{Element}
use Rattle.ill_refusals.specs.code.Judge.{Judgement, closes, judge}
use Rattle.ill_refusals.specs.Next.{Next, Due, element_of, due, next_of, next_after, opening, IsWhole, AreWhole}
use Rattle.ill_refusals.specs.Place.{Open, next_in, bound}
use Rattle.ber_leaf.specs.Profile.{Profile}
use Rattle.ill_refusals.proofs.WholeElements.{IsElement, IsProper}
use Rattle.ill_refusals.proofs.OpenElements.{IsProperNext, due_element, due_proper, opening_proper, element_read, element_primitive}
use Rattle.ill_refusals.proofs.Rows.{next_after-more}
use Rattle.ill_refusals.proofs.Judgements.{IsStarted, MayEnd, ends_judged, mark_judged, opens_judged, indefinite_judged, reads_judged}
use Rattle.ill_refusals.specs.code.Step.{goes, snoc, with_tree, opened, step_after}
use Rattle.ill_refusals.proofs.Machine.{step, after, Runs, runs-step, runs-trans}

abbrev pub joined : Trees → Trees → Trees
joined none us = us
joined (more T ts) us = more T (joined ts us)

joined-snoc : (ts us : Trees) (T : Tree) → joined (snoc ts T) us ≡ joined ts (more T us)
joined-snoc none us T = refl
joined-snoc (more U ts) us T = ap (more U) (joined-snoc ts us T)

pub joined-none : (ts : Trees) → joined ts none ≡ ts
joined-none none = refl
joined-none (more U ts) = ap (more U) (joined-none ts)

pub next-snoc : (p : Profile) (n : Next) (ts : Trees) (T : Tree) (d : Due) → AreWhole p n ts → due p (tag_of T) (next_after p n ts) ≡ Some d → next_after p n (snoc ts T) ≡ next_of d
next-snoc p n none T d w e = next_after-more p n T none d e
next-snoc p n (more U ts) T d w e =
    let a = next_after-more p n U ts w.0 w.1 in
    next_after-more p n U (snoc ts T) w.0 w.1 ∙ next-snoc p (next_of w.0) ts T d w.3 (ap (due p (tag_of T)) (sym a) ∙ e)

pub whole-snoc : (p : Profile) (n : Next) (ts : Trees) (T : Tree) (d : Due) → AreWhole p n ts → due p (tag_of T) (next_after p n ts) ≡ Some d → IsWhole p d T → AreWhole p n (snoc ts T)
whole-snoc p n none T d w e h = (d, e, h, tt)
whole-snoc p n (more U ts) T d w e h =
    let a = next_after-more p n U ts w.0 w.1 in
    (w.0, w.1, w.2, whole-snoc p (next_of w.0) ts T d w.3 (ap (due p (tag_of T)) (sym a) ∙ e) h)

pub step_is : (p : Profile) (path : List Open) (k : ℕ) (rest : List ℕ) (j : Judgement) → judge p path k rest ≡ j → step p path k rest ≡ step_after j path k rest
step_is p path k rest j e = ap (λ x. step_after x path k rest) e

same_goes : (path : List Open) (k l : ℕ) (a b : List ℕ) → k ≡ l → a ≡ b → goes path k a ≡ goes path l b
same_goes path k l a b e f = ap₂ (λ (n : ℕ) (w : List ℕ). goes path n w) e f

same_with : (path : List Open) (T : Tree) (k l : ℕ) (a b : List ℕ) → k ≡ l → a ≡ b → with_tree path T k a ≡ with_tree path T l b
same_with path T k l a b e f = ap₂ (λ (n : ℕ) (w : List ℕ). with_tree path T n w) e f

-- a primitive element is read whole
primitive_run : (p : Profile) (path : List Open) (k : ℕ) (tag : Tag) (octets b x : List ℕ) (d : Due) → IsStarted p path tag false d → IsElement p (element_of d) (primitive tag octets)
    → IsDefinite tag false octets b → k + length b ≤ bound p path → step p path k (b ++ x) ≡ with_tree path (primitive tag octets) (k + length b) x
primitive_run p path k tag octets b x d s e h le =
    let id = identifier tag false in
    let size : length b ≡ length id + length h.octets + length octets = omega (arith, ap length h.joined, length-append id (h.octets ++ octets), length-append h.octets octets) in
    let spelled : b ++ x ≡ id ++ (h.octets ++ (octets ++ x)) = ap (λ z. z ++ x) h.joined ∙ append_assoc id (h.octets ++ octets) x ∙ ap (λ z. id ++ z) (append_assoc h.octets octets x) in
    ap (step p path k) spelled
    ∙ step_is p path k _ _ (reads_judged p path tag d k h.octets octets x s h.spell_length ((element_primitive p (element_of d) tag octets e).1) (omega arith))
    ∙ same_with path (primitive tag octets) _ _ _ _ (omega arith) (ap (drop (length id + length h.octets + length octets)) (sym spelled) ∙ drop_at b x _ size)

-- a run through trees in an element that opens
abbrev RunsThrough : Profile → List Open → Open → Trees → List ℕ → Type 0
RunsThrough p path o ts contents =
    (k : ℕ) (y : List ℕ) → k + length contents ≤ bound p (o ∷ path) → Runs p (goes (o ∷ path) k (contents ++ y)) (goes (record o { trees = ts } ∷ path) (k + length contents) y)

may_end : (p : Profile) (e : Element) (tag : Tag) (k : ℕ) (end : Option ℕ) (path : List Open) (ts : Trees) (t : Tag) → IsProper p e → IsElement p e (constructed t ts)
    → MayEnd p (record { element = e; tag = tag; start = k; end = end; trees = ts }) path
may_end p e tag k end path ts t ok m = let r = element_read p e t ts ok m in record { complete = r.0.complete; no_fault = r.2 }

-- a constructed element opens, is run through and ends
definite_run : (p : Profile) (tag : Tag) (ts : Trees) (path : List Open) (k : ℕ) (b x : List ℕ) (d : Due) (contents : List ℕ) → IsStarted p path tag true d → IsProper p (element_of d)
    → IsElement p (element_of d) (constructed tag ts) → IsDefinite tag true contents b → k + length b ≤ bound p path → ((end : Option ℕ) → RunsThrough p path (opened (element_of d) tag k end) ts contents)
    → Runs p (goes path k (b ++ x)) (with_tree path (constructed tag ts) (k + length b) x)
definite_run p tag ts path k b x d contents s ok m h le through =
    let id = identifier tag true in
    let n = length contents in
    let hs = length id + length h.octets in
    let size : length b ≡ hs + n = omega (arith, ap length h.joined, length-append id (h.octets ++ contents), length-append h.octets contents) in
    let spelled : b ++ x ≡ id ++ (h.octets ++ (contents ++ x)) = ap (λ z. z ++ x) h.joined ∙ append_assoc id (h.octets ++ contents) x ∙ ap (λ z. id ++ z) (append_assoc h.octets contents x) in
    let end : Option ℕ = Some (k + hs + n) in
    let o = opened (element_of d) tag k end in
    let behind : drop hs (id ++ (h.octets ++ (contents ++ x))) ≡ contents ++ x =
    ap (drop hs) (sym (append_assoc id h.octets (contents ++ x))) ∙ drop_at (id ++ h.octets) (contents ++ x) hs (length-append id h.octets) in
    let opening_step : step p path k (b ++ x) ≡ goes (o ∷ path) (k + hs) (contents ++ x) =
    ap (step p path k) spelled ∙ step_is p path k _ _ (opens_judged p path tag d k n h.octets (contents ++ x) s h.spell_length (omega arith)) ∙ ap (goes (o ∷ path) (k + hs)) behind in
    let closing_step : step p (record o { trees = ts } ∷ path) (k + hs + n) x ≡ with_tree path (constructed tag ts) (k + length b) x =
    step_is p (record o { trees = ts } ∷ path) (k + hs + n) x (closes 0) (ends_judged p (record o { trees = ts }) path (k + hs + n) x refl (may_end p (element_of d) tag k end path ts tag ok m))
    ∙ same_with path (constructed tag ts) _ _ x x (omega arith) refl in
    runs-trans p _ _ _ (runs-step p path k (b ++ x) _ opening_step)
    (runs-trans p _ _ _ (through end (k + hs) x (omega arith)) (runs-step p (record o { trees = ts } ∷ path) (k + hs + n) x _ closing_step))

indefinite_run : (p : Profile) (tag : Tag) (ts : Trees) (path : List Open) (k : ℕ) (b x : List ℕ) (d : Due) (contents : List ℕ) → IsStarted p path tag true d → IsProper p (element_of d)
    → IsElement p (element_of d) (constructed tag ts) → IsIndefinite tag contents b → k + length b ≤ bound p path → ((end : Option ℕ) → RunsThrough p path (opened (element_of d) tag k end) ts contents)
    → Runs p (goes path k (b ++ x)) (with_tree path (constructed tag ts) (k + length b) x)
indefinite_run p tag ts path k b x d contents s ok m h le through =
    let id = identifier tag true in
    let n = length contents in
    let hs = length id + 1 in
    let size : length b ≡ hs + n + 2 = omega (arith, ap length h.joined, length-append id (128 ∷ contents ++ 0 ∷ 0 ∷ []), length-append contents (0 ∷ 0 ∷ [])) in
    let spelled : b ++ x ≡ id ++ (128 ∷ (contents ++ (0 ∷ 0 ∷ x))) =
    ap (λ z. z ++ x) h.joined ∙ append_assoc id (128 ∷ contents ++ 0 ∷ 0 ∷ []) x ∙ ap (λ z. id ++ (128 ∷ z)) (append_assoc contents (0 ∷ 0 ∷ []) x) in
    let o = opened (element_of d) tag k None in
    let y = contents ++ (0 ∷ 0 ∷ x) in
    let behind : drop hs (id ++ (128 ∷ y)) ≡ y =
    ap (drop hs) (sym (append_assoc id (128 ∷ []) y)) ∙ drop_at (id ++ 128 ∷ []) y hs (length-append id (128 ∷ [])) in
    let opening_step : step p path k (b ++ x) ≡ goes (o ∷ path) (k + hs) y =
    ap (step p path k) spelled ∙ step_is p path k _ _ (indefinite_judged p path tag d k y s (omega arith)) ∙ ap (goes (o ∷ path) (k + hs)) behind in
    let closing_step : step p (record o { trees = ts } ∷ path) (k + hs + n) (0 ∷ 0 ∷ x) ≡ with_tree path (constructed tag ts) (k + length b) x =
    step_is p (record o { trees = ts } ∷ path) (k + hs + n) (0 ∷ 0 ∷ x) (closes 2)
    (mark_judged p (record o { trees = ts }) path (k + hs + n) x refl (omega arith) (may_end p (element_of d) tag k None path ts tag ok m))
    ∙ same_with path (constructed tag ts) _ _ x x (omega arith) refl in
    runs-trans p _ _ _ (runs-step p path k (b ++ x) _ opening_step)
    (runs-trans p _ _ _ (through None (k + hs) (0 ∷ 0 ∷ x) (omega arith)) (runs-step p (record o { trees = ts } ∷ path) (k + hs + n) (0 ∷ 0 ∷ x) _ closing_step))

-- by recursion on the tree
mutual
  pub tree_run : (p : Profile) (T : Tree) (path : List Open) (k : ℕ) (b x : List ℕ) (d : Due) → IsProperNext p (next_in p path) → due p (tag_of T) (next_in p path) ≡ Some d → IsWhole p d T
      → Spells T b → k + length b ≤ bound p path → length path + depth T ≤ 32 → Runs p (goes path k (b ++ x)) (with_tree path T (k + length b) x)
  tree_run p (primitive tag octets) path k b x d ok e w h le deep =
      let m = due_element p (next_in p path) d (primitive tag octets) ok e w in
      let s : IsStarted p path tag false d = record { has_identifier = h.has_identifier; is_due = e; allowed = (element_primitive p (element_of d) tag octets m).0; shallow = omega arith } in
      runs-step p path k (b ++ x) _ (primitive_run p path k tag octets b x d s m h le)
  tree_run p (constructed tag ts) path k b x d ok e w h le deep =
      let m = due_element p (next_in p path) d (constructed tag ts) ok e w in
      let o = (due_proper p tag (next_in p path) d ok e).0 in
      let r = element_read p (element_of d) tag ts o m in
      elim h.2 [
        | inl i ↦ definite_run p tag ts path k b x d h.0 (record { has_identifier = i.has_identifier; is_due = e; allowed = r.1; shallow = omega arith }) o m i le
            (λ end l y bl. trees_run p ts (opened (element_of d) tag k end) path l h.0 y (opening_proper p (element_of d) o) tt r.0.whole h.1 bl (omega arith))
        | inr i ↦ indefinite_run p tag ts path k b x d h.0 (record { has_identifier = i.has_identifier; is_due = e; allowed = r.1; shallow = omega arith }) o m i le
            (λ end l y bl. trees_run p ts (opened (element_of d) tag k end) path l h.0 y (opening_proper p (element_of d) o) tt r.0.whole h.1 bl (omega arith))
      ]

  pub trees_run : (p : Profile) (ts : Trees) (o : Open) (path : List Open) (k : ℕ) (b x : List ℕ) → IsProperNext p (next_in p (o ∷ path)) → AreWhole p (opening p o.element) o.trees
      → AreWhole p (next_in p (o ∷ path)) ts → SpellsAll ts b → k + length b ≤ bound p (o ∷ path) → length path + 1 + depth_all ts ≤ 32
      → Runs p (goes (o ∷ path) k (b ++ x)) (goes (record o { trees = joined o.trees ts } ∷ path) (k + length b) x)
  trees_run p none o path k b x ok before w h le deep =
      let size : length b ≡ 0 = ap length h in
      let e : k ≡ k + length b = omega arith in
      (0, same_goes (o ∷ path) _ _ _ _ e (ap (λ z. z ++ x) h) ∙ ap (λ ts. goes (record o { trees = ts } ∷ path) (k + length b) x) (sym (joined-none o.trees)))
  trees_run p (more T us) o path k b x ok before w h le deep =
      let d = w.0 in
      let o2 : Open = record o { trees = snoc o.trees T } in
      let size : length b ≡ length h.0 + length h.1 = omega (arith, ap length h.4, length-append h.0 h.1) in
      let e : next_in p (o2 ∷ path) ≡ next_of d = next-snoc p (opening p o.element) o.trees T d before w.1 in
      let first : Runs p (goes (o ∷ path) k (h.0 ++ (h.1 ++ x))) (goes (o2 ∷ path) (k + length h.0) (h.1 ++ x)) =
      tree_run p T (o ∷ path) k h.0 (h.1 ++ x) d ok w.1 w.2 h.2 (omega arith) (omega arith) in
      let rest : Runs p (goes (o2 ∷ path) (k + length h.0) (h.1 ++ x)) (goes (record o2 { trees = joined o2.trees us } ∷ path) (k + length h.0 + length h.1) x) =
      trees_run p us o2 path (k + length h.0) h.1 x (subst (IsProperNext p) (sym e) ((due_proper p (tag_of T) (next_in p (o ∷ path)) d ok w.1).1))
      (whole-snoc p (opening p o.element) o.trees T d before w.1 w.2) (subst (λ n. AreWhole p n us) (sym e) w.3) h.3 (omega arith) (omega arith) in
      let start : b ++ x ≡ h.0 ++ (h.1 ++ x) = ap (λ z. z ++ x) h.4 ∙ append_assoc h.0 h.1 x in
      let r = runs-trans p _ _ _ first rest in
      let f : k + length h.0 + length h.1 ≡ k + length b = omega arith in (
        r.0,
        ap (λ z. after p r.0 (goes (o ∷ path) k z)) start ∙ r.1
            ∙ ap₂ (λ (ts : Trees) (n : ℕ). goes (record o { trees = ts } ∷ path) n x) (joined-snoc o.trees us T) f,
      )
