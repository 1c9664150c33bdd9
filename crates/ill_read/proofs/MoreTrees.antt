-- An open element with one more tree in it.
use Rattle.ill_tables.specs.declared.profile.Profile.{Profile as Named}
use Rattle.std.proofs.Common.{◌≡◌, List, Option, Some, sym, ap, subst, ◌∙◌}
use Rattle.ber_tree.specs.Tree.{Tree, Trees, none, more, tag_of}
use Rattle.ber_leaf.specs.Profile.{profile_two}
use Rattle.ill_schema.specs.Content.{Content}
use Rattle.ill_grammar.specs.Due.{IsDueIn, behind, next_is, shape, read_as}
use Rattle.ill_grammar.specs.declared.place.Place.{Place}
use Rattle.ill_refusals.specs.Next.{due, next_of, next_after, opening}
use Rattle.ill_refusals.specs.Next as following
use Rattle.ill_refusals.specs.Place.{Open}
use Rattle.ill_grammar.specs.Standing.{AreDue, IsHeld, IsFrameOf}
use Rattle.ill_refusals.specs.code.Step.{snoc}
use Rattle.ill_grammar.specs.Due.{DueEntry}
use Rattle.ill_grammar.specs.declared.frame.Frame.{Frame}
use Rattle.ill_grammar.proofs.DueElements.{due_element_is}
use Rattle.ill_refusals.proofs.Rows.{next_after-more}

pub next-added : (n : following.Next) (ts : Trees) (T : Tree) (d : following.Due) → AreDue n ts → due profile_two (tag_of T) (next_after profile_two n ts) ≡ Some d
    → (next_after profile_two n (snoc ts T) ≡ next_of d) × AreDue n (snoc ts T)
next-added n none T d h e = (next_after-more profile_two n T none d e, (d, e, tt))
next-added n (more U ts) T d h e =
    let a = next_after-more profile_two n U ts h.0 h.1 in
    let r = next-added (next_of h.0) ts T d h.2 (ap (due profile_two (tag_of T)) (sym a) ∙ e) in
    (next_after-more profile_two n U (snoc ts T) h.0 h.1 ∙ r.0, (h.0, h.1, r.1))

abbrev pub with_one : Open → Tree → Open
with_one o T = record o { trees = snoc o.trees T }

-- the frame of an open element, after a tree that was due
pub frame_added : (p : Named) (f : Frame) (o : Open) (path : List Open) (outer : List Frame) (entries new : List (Option Content)) (T : Tree) (d : DueEntry) → IsFrameOf p f o path outer entries
    → IsDueIn (tag_of T) (shape f.place) d → (after : Place) → shape after ≡ behind (shape f.place) d.slot → IsHeld p (read_as f.found) (behind (shape f.place) d.slot) new (snoc o.trees T)
    → IsFrameOf p (record f { place = after }) (with_one o T) path outer new
frame_added p f o path outer entries new T d h is after goes held =
    let D = due_element_is (tag_of T) (shape f.place) d is in
    let e : due profile_two (tag_of T) (next_after profile_two (opening profile_two o.element) o.trees) ≡ Some D.0 = ap (due profile_two (tag_of T)) (sym h.next) ∙ D.1 in
    let more = next-added (opening profile_two o.element) o.trees T D.0 h.were_due e in
    record {
      element = h.element;
      start = h.start;
      identified = h.identified;
      end = h.end;
      bound = h.bound;
      next = ap next_is goes ∙ sym D.3 ∙ sym more.0;
      is_due = h.is_due;
      after = h.after;
      held = subst (λ n. IsHeld p (read_as f.found) n new (snoc o.trees T)) (sym goes) held;
      were_due = more.1;
    }
