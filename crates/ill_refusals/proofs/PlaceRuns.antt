-- The machine reaches each place that is due, and the end of each message.
use Rattle.std.proofs.Common.{◌≡◌, ℕ, ◌+◌, true, List, [], ◌∷◌, ◌++◌, length, drop, Option, Some, None, refl, sym, ap, ap₂, subst, ◌∙◌, inl, inr, arith, append_assoc, length-append}
use Rattle.std.proofs.lemmas.List.{drop_at}
use Rattle.ber_tree.specs.Identifier.{identifier}
use Rattle.ber_tree.specs.Tree.{Tree, none, tag_of}
use Rattle.ill_tables.specs.declared.node.Kind.{Kind}
use Rattle.ill_schema.specs.Apdu.{Apdu, choice_of, root, MeansApdu, Encodes}
use Rattle.ill_refusals.specs.Element.{Element, starts}
use Rattle.ill_refusals.specs.Next.{rows, Due, part, element_of, due, opening, IsWhole}
use Rattle.ill_refusals.specs.Place.{Open, message, next_in, bound, allows, IsOpen, IsPlace}
use Rattle.ber_leaf.specs.Profile.{Profile}
use Rattle.ill_schema.specs.Tagging.{untagged}
use Rattle.ill_schema.proofs.Tags.{Mem, root_choice, root_untagged}
use Rattle.ill_schema.proofs.Unique.{means_begins}
use Rattle.ill_refusals.proofs.WholeElements.{IsProper}
use Rattle.ill_refusals.proofs.OpenElements.{IsProperNext, inner_proper, inner_tags, due_proper, opening_proper, after_proper}
use Rattle.ill_refusals.proofs.Rows.{starting_some, due-found}
use Rattle.ill_refusals.proofs.Judgements.{IsStarted, bound_some, opens_judged, indefinite_judged}
use Rattle.ill_refusals.specs.code.Step.{goes, whole, opened}
use Rattle.ill_refusals.proofs.Machine.{step, after, Runs, runs-step, runs-trans}
use Rattle.ill_refusals.proofs.TreeRuns.{step_is, tree_run, trees_run}

pub message_proper : (p : Profile) → IsProperNext p (next_in p [])
message_proper p = (inner_proper p (message p) refl refl (λ e. let q : Kind.Choice ≡ Kind.Any = sym (root_choice p.full) ∙ e in cc), tt)

pub place_proper : (p : Profile) (path : List Open) (u : List ℕ) → IsPlace p u path → IsProperNext p (next_in p path)
place_proper p [] u h = message_proper p
place_proper p (o ∷ path) u h =
    let q = h.4 in
    let e = (due_proper p o.tag (next_in p path) q.is_due.0 (place_proper p path h.0 h.3) q.is_due.1).0 in
    after_proper p (opening p o.element) o.trees (opening_proper p o.element (subst (IsProper p) q.is_due.2 e))

abbrev emptied : Open → Open
emptied o = record o { trees = none }

same_opened : (o : Open) (e : Element) (k : ℕ) (end : Option ℕ) → e ≡ o.element → o.start ≡ k → o.end ≡ end → opened e o.tag k end ≡ emptied o
same_opened o e k end a b c =
    ap (λ x. opened x o.tag k end) a ∙ ap₂ (λ (n : ℕ) (x : Option ℕ). opened o.element o.tag n x) (sym b) (sym c)

-- an open element was opened there
opened_step : (p : Profile) (path : List Open) (o : Open) (before header contents y : List ℕ) → IsOpen p path o before header contents
    → step p path (length before) (header ++ y) ≡ goes (emptied o ∷ path) (length before + length header) y
opened_step p path o before header contents y h =
    let k = length before in
    let d = h.is_due.0 in
    let os = h.opens.0 in
    let id = identifier o.tag true in
    let s : IsStarted p path o.tag true d = record {
      has_identifier = h.opens.1;
      is_due = h.is_due.1;
      allowed = subst (λ e. allows e true ≡ true) (sym h.is_due.2) h.allowed;
      shallow = let l = h.shallow in omega arith;
    } in
    let size : length header ≡ length id + length os = ap length h.opens.2 ∙ length-append id os in
    let spelled : header ++ y ≡ id ++ (os ++ y) = ap (λ z. z ++ y) h.opens.2 ∙ append_assoc id os y in
    let inside = h.inside in
    let reached = h.reached in
    elim h.opens.3 [
      | inl i ↦
          let one : length os ≡ 1 = ap length i.1 in
          let again : header ++ y ≡ id ++ (128 ∷ y) = spelled ∙ ap (λ z. id ++ (z ++ y)) i.1 in
          ap (step p path k) again
          ∙ step_is p path k _ _ (indefinite_judged p path o.tag d k y s (omega arith))
          ∙ ap₂ (λ (x : Open) (n : ℕ). goes (x ∷ path) (k + n) (drop n (id ++ (128 ∷ y)))) (same_opened o (element_of d) k None h.is_due.2 h.starts i.0) (let e : length id + 1 ≡ length header = omega arith in e)
          ∙ ap (λ z. goes (emptied o ∷ path) (k + length header) z) (ap (drop (length header)) (sym again) ∙ drop_at header y (length header) refl)
      | inr i ↦
          let b : bound p (o ∷ path) ≡ o.start + length header + i.0 = bound_some p o path (o.start + length header + i.0) i.2 in
          let st : o.start ≡ k = h.starts in
          let e : o.end ≡ Some (k + (length id + length os) + i.0) = i.2 ∙ ap Some (omega arith) in
          ap (step p path k) spelled
          ∙ step_is p path k _ _ (opens_judged p path o.tag d k i.0 os y s i.1 (omega arith))
          ∙ ap₂ (λ (x : Open) (n : ℕ). goes (x ∷ path) (k + n) (drop n (id ++ (os ++ y)))) (same_opened o (element_of d) k _ h.is_due.2 h.starts e) (sym size)
          ∙ ap (λ z. goes (emptied o ∷ path) (k + length header) z) (ap (drop (length header)) (sym spelled) ∙ drop_at header y (length header) refl)
    ]

pub place_run : (p : Profile) (path : List Open) (u x : List ℕ) → IsPlace p u path → Runs p (goes [] 0 (u ++ x)) (goes path (length u) x)
place_run p [] u x h = (0, ap (λ z. goes [] 0 (z ++ x)) h ∙ ap (λ z. goes [] (length z) x) (sym h))
place_run p (o ∷ path) u x h =
    let before = h.0 in let header = h.1 in let contents = h.2 in let q = h.4 in
    let y = contents ++ x in
    let k = length before in
    let one = place_run p path before (header ++ y) h.3 in
    let two = runs-step p path k (header ++ y) _ (opened_step p path o before header contents y q) in
    let e = (due_proper p o.tag (next_in p path) q.is_due.0 (place_proper p path before h.3) q.is_due.1).0 in
    let reached = q.reached in
    let three = trees_run p o.trees (emptied o) path (k + length header) contents x (opening_proper p o.element (subst (IsProper p) q.is_due.2 e)) tt q.whole q.spelled (omega arith) q.shallow in
    let r = runs-trans p _ _ _ one (runs-trans p _ _ _ two three) in
    let spelled : u ++ x ≡ before ++ (header ++ y) = ap (λ z. z ++ x) h.5 ∙ append_assoc before (header ++ contents) x ∙ ap (λ z. before ++ z) (append_assoc header contents x) in
    let size : k + length header + length contents ≡ length u = omega (arith, ap length h.5, length-append before (header ++ contents), length-append header contents) in
    (r.0, ap (λ z. after p r.0 (goes [] 0 z)) spelled ∙ r.1 ∙ ap (λ n. goes (o ∷ path) n x) size)

-- the tree of a message is due at its start
pub root_due : (p : Profile) (a : Apdu) (T : Tree) → MeansApdu p a T → (d : Due) × (due p (tag_of T) (next_in p []) ≡ Some d) × IsWhole p d T
root_due p a T h =
    let s = starting_some (tag_of T) (starts p (message p)) (subst (λ z. Mem (tag_of T) z) (sym (inner_tags p (message p) refl refl)) (means_begins p (choice_of a) (root p) untagged T (root_untagged p.full) h.1)) in
    (part (message p) s.0.element (rows []), due-found p (tag_of T) (message p) [] s.0 s.1, (tt, (choice_of a, h.1)))

pub message_run : (p : Profile) (a : Apdu) (b x : List ℕ) → (h : Encodes p a b) → Runs p (goes [] 0 (b ++ x)) (whole h.tree (length b))
message_run p a b x h =
    let d = root_due p a h.tree h.means in
    let le = h.short in let deep = h.shallow in
    let r = tree_run p h.tree [] 0 b x d.0 (message_proper p) d.1 d.2 h.spells (omega arith) (omega arith) in
    let e : 0 + length b ≡ length b = omega arith in
    (r.0, r.1 ∙ ap (whole h.tree) e)
