-- The innermost element closes.
use Rattle.ill_schema.specs.Profiles.{profile_of}
use Rattle.ber_tree.specs.Identifier.{Tag}
use Rattle.ill_grammar.specs.declared.element.Element.TheVariants.{BitSegment}
use Rattle.ill_tables.specs.declared.profile.Profile.{Profile as Named}
use Rattle.std.proofs.Common.{◌⊎◌, inl, inr}
use Rattle.ber_leaf.specs.Leaf.{bit_string}
use Rattle.ber_leaf.specs.Segments.{segment_tag}
use Rattle.ill_refusals.specs.Element.{Element}
use Rattle.ill_grammar.specs.Due.{IsDueIn}
use Rattle.ill_grammar.specs.declared.due.Next.{Next}
use Rattle.ill_grammar.specs.declared.due.Next.TheVariants.{Segments, BitSegments}
use Rattle.ill_grammar.specs.declared.due.Slot.{Slot}
use Rattle.ill_grammar.proofs.BitSegments.{bits_joined}
use Rattle.ill_grammar.proofs.DueTags.{bit_segment_due, segment_due}
use Rattle.ill_read.proofs.Strings.{IsSegmentOf, is_bit_segment}
use Rattle.std.specs.Prelude.{⊤}
use Rattle.std.proofs.Common.{◌≡◌, ℕ, ◌+◌, ◌-◌, List, [], ◌∷◌, ◌++◌, length, length-append, take, drop, Bool, false, Option, Some, None, Result, Ok, Err, refl, sym, ap, ap₂, subst, ◌∙◌, arith, slice_get}
use Rattle.std.proofs.lemmas.List.{take_at}
use Rattle.std.specs.Result.{IsErrAnd}
use Rattle.ber_tree.specs.Tree.{Trees, constructed, octet_string, AreSegments}
use Rattle.ber_leaf.specs.declared.fault.LeafFault.{LeafFault}
use Rattle.ill_schema.specs.Causes.{cause_of}
use Rattle.ill_schema.specs.Content.{Content}
use Rattle.ill_refusals.specs.Next.{missing}
use Rattle.ill_refusals.specs.Fault.{fault, element_fault, string_fault}
use Rattle.ill_refusals.specs.Place.{Open, next_in}
use Rattle.ill_refusals.specs.code.Judge.{Judgement, closes, or_faulty}
use Rattle.ill_refusals.specs.code.Step.{step_after}
use Rattle.ill_grammar.specs.Places.{alternative_of, place_view}
use Rattle.ill_grammar.specs.Elements.{element_is}
use Rattle.ill_read.specs.code.Drafts.{ChecksText, HasClosed, IsNoSegment, IsRightText, with_entry}
use Rattle.ill_grammar.specs.Due.{due_with}
use Rattle.ill_grammar.specs.code.Judging.{IsEnd}
use Rattle.ill_read.specs.code.Judged.{IsStep}
use Rattle.ill_read.specs.code.Stepping.{GoesOn}
use Rattle.ill_grammar.specs.Standing.{Level, level_of, pushed, next_at, IsHeld, IsFrameOf, AreFrames}
use Rattle.ill_read.specs.Paths.{text_so_far, HoldsAt}
use Rattle.ill_grammar.specs.Contents.{with_alternative}
use Rattle.ill_grammar.specs.declared.due.Next.{Next}
use Rattle.ill_grammar.specs.declared.due.Next.TheVariants.{Segments}
use Rattle.ill_grammar.specs.declared.element.Element.{Element as CodeElement}
use Rattle.ill_grammar.specs.declared.element.Element.TheVariants.{Leaf, Segment, ModuleLeaf, BitString}
use Rattle.ill_read.specs.declared.failure.Failure.{Failure}
use Rattle.ill_grammar.specs.declared.frame.Frame.{Frame}
use Rattle.ill_read.specs.declared.path.Path.{Path}
use Rattle.ill_read.proofs.EndedElements.{frame_ended}
use Rattle.ill_read.proofs.DeliveredEntries.{entry_added, pushed_apart, pushed_segment}
use Rattle.ill_grammar.proofs.OpenFrames.{last_open}
use Rattle.ill_grammar.proofs.DueTags.{segment_due}
use Rattle.ill_read.proofs.Segments.{segments_alone, text_with}
use Rattle.ill_read.proofs.Strings.{is_segment, segment_added, text_after}
use Rattle.ill_grammar.specs.declared.place.Place.{Place}
use Rattle.ill_grammar.specs.Due.{shape, shape_at, read_as, slot_in, next_place}

-- the frames without the last one
record IsPopped (p : Named) (levels : List Level) (old frames : List Frame) (f : Frame) (o : Open) (path : List Open) : Type 0 where
  pub below : List Level
  pub entries : List (Option Content)
  pub held : levels ≡ pushed (level_of f o.tag entries) below
  pub framed : IsFrameOf p f o path frames entries
  pub outer : AreFrames p path frames below
  pub whole : old ≡ frames ++ f ∷ []

popped : (p : Named) (old frames : List Frame) (levels : List Level) (f : Frame) (o : Open) (path : List Open) → AreFrames p (o ∷ path) old levels → frames ≡ take (length old - 1) old → slice_get old (length old - 1) ≡ Some f
    → IsPopped p levels old frames f o path
popped p old frames levels f o path a rest last =
    let same : a.1 ≡ f = last_open p o path old levels a f last in
    let n : length a.0 ≡ length old - 1 = omega (arith, ap length a.4, length-append a.0 (a.1 ∷ [])) in
    let outer : a.0 ≡ frames = sym (take_at a.0 (a.1 ∷ []) (length old - 1) n) ∙ ap (take (length old - 1)) (sym a.4) ∙ sym rest in
    record {
      below = a.2;
      entries = a.3;
      held = a.5 ∙ ap (λ (g : Frame). pushed (level_of g o.tag a.3) a.2) same;
      framed = subst (λ g. IsFrameOf p g o path frames a.3) same (subst (λ fs. IsFrameOf p a.1 o path fs a.3) outer a.6);
      outer = subst (λ fs. AreFrames p path fs a.2) outer a.7;
      whole = a.4 ∙ ap (λ fs. fs ++ a.1 ∷ []) outer ∙ ap (λ g. frames ++ g ∷ []) same;
    }

-- the end that was judged, by the fault of its text
ending : (p : Named) (place : List Open) (marks at : ℕ) (rest : List ℕ) (j : Judgement) (e : IsEnd p place marks j) (x : Option LeafFault) → string_fault (profile_of p) e.innermost.element e.innermost.trees ≡ x
    → step_after j place at rest ≡ step_after (or_faulty x e.innermost.start (closes marks)) (e.innermost ∷ e.outer) at rest
ending p place marks at rest j e x h = ap₂ (λ y q. step_after y q at rest) e.is e.is_path ∙ ap (λ y. step_after (or_faulty y e.innermost.start (closes marks)) (e.innermost ∷ e.outer) at rest) h

-- an open segment is one of the segments that are due round it, and its text is more of theirs
pub record IsOpenSegment (p : Named) (e : CodeElement) (n : Next) (tag : Tag) (ts : Trees) (before : List ℕ) : Type 0 where
  pub is : IsSegmentOf n (constructed tag ts)
  pub text : text_with (element_is e) before ts ≡ text_after n before (constructed tag ts)
  pub sound : string_fault (profile_of p) (element_is e) ts ≡ None

open_segment : (p : Named) (e : CodeElement) (n own : Next) (tag : Tag) (slot : Slot) (alt : Option ℕ) (entries : List (Option Content)) (ts : Trees) (before : List ℕ) → IsHeld p e own entries ts
    → IsDueIn tag n (due_with slot alt e) → (e ≡ Segment) ⊎ (e ≡ BitSegment) → IsOpenSegment p e n tag ts before
open_segment p e n own tag slot alt entries ts before held due (inl s) =
    let there : n ≡ Segments = segment_due tag n (due_with slot alt e) due (ap element_is s) in
    record {
      is = is_segment n (constructed tag ts) (due_with slot alt e) due there (segments own (subst (λ x. IsHeld p x own entries ts) s held));
      text = ap (λ x. text_with (element_is x) before ts) s ∙ ap (λ x. text_after x before (constructed tag ts)) (sym there);
      sound = ap (λ x. string_fault (profile_of p) (element_is x) ts) s;
    }
  where
    segments : (own : Next) → IsHeld p Segment own entries ts → AreSegments octet_string ts
    segments Segments h = h.1
    segments _ h = absurd h
open_segment p e n own tag slot alt entries ts before held due (inr s) =
    let there : n ≡ BitSegments = bit_segment_due tag n (due_with slot alt e) due (ap element_is s) in
    record {
      is = is_bit_segment n (constructed tag ts) (due_with slot alt e) due there (segments own (subst (λ x. IsHeld p x own entries ts) s held));
      text = ap (λ x. text_with (element_is x) before ts) s ∙ sym (bits_joined before (0 ∷ []) ts) ∙ ap (λ x. text_after x before (constructed tag ts)) (sym there);
      sound = ap (λ x. string_fault (profile_of p) (element_is x) ts) s;
    }
  where
    segments : (own : Next) → IsHeld p BitSegment own entries ts → AreSegments (segment_tag bit_string) ts
    segments BitSegments h = h.1
    segments _ h = absurd h

-- a segment closes
pub segment_closed : {D : Type 0} (p : Named) (holds : D → List Level → List ℕ → Type 0) (old new : Path D) (f : Frame) (place : List Open) (marks at : ℕ) (rest : List ℕ) (j : Judgement) → HoldsAt p holds old place
    → IsEnd p place marks j → new.frames.open.items ≡ take (length old.frames.open.items - 1) old.frames.open.items → slice_get old.frames.open.items (length old.frames.open.items - 1) ≡ Some f
    → (read_as f.found ≡ Segment) ⊎ (read_as f.found ≡ BitSegment) → new.frames.profile ≡ old.frames.profile → new.draft ≡ old.draft → IsStep p holds new (Ok false) (step_after j place at rest)
segment_closed p holds old new f place marks at rest j stands end frames last is same draft =
    let o = end.innermost in
    let path = end.outer in
    let here : HoldsAt p holds old (o ∷ path) = subst (HoldsAt p holds old) end.is_path stands in
    let top = popped p old.frames.open.items new.frames.open.items here.0 f o path here.1 frames last in
    let d = due_with (slot_in f.found) (alternative_of f.found) (read_as f.found) in
    let one = open_segment p (read_as f.found) (next_at p new.frames.open.items) (shape f.place) o.tag (slot_in f.found) (alternative_of f.found) top.entries o.trees (text_so_far path) top.framed.held top.framed.is_due is in
    let levels : here.0 ≡ top.below = top.held ∙ pushed_segment (level_of f o.tag top.entries) top.below is in
    let as_open = λ (P : Element → Type 0) (x : P (element_is (read_as f.found))). subst P top.framed.element x in
    let joined = as_open (λ x. text_with x (text_so_far path) o.trees ≡ text_after (next_at p new.frames.open.items) (text_so_far path) (constructed o.tag o.trees)) one.text in
    let held = subst (λ t. holds new.draft top.below t) joined (subst (λ ls. holds new.draft ls (text_so_far (o ∷ path))) levels (subst (λ x. holds x here.0 (text_so_far (o ∷ path))) (sym draft) here.2)) in
    let added = segment_added p holds new path top.below d (constructed o.tag o.trees) (at + marks) (drop marks rest) (same ∙ here.3) top.outer top.framed.is_due one.is held in
    subst (IsStep p holds new (Ok false)) (sym (ending p place marks at rest j end None (as_open (λ x. string_fault (profile_of p) x o.trees ≡ None) one.sound))) added

right_text : (p : Named) (e : CodeElement) (text : List ℕ) → IsRightText p e text → element_fault (profile_of p) (element_is e) text ≡ None
right_text p (Leaf l) text h = h.1
right_text p (ModuleLeaf l) text h = h.1
right_text p BitString text h = h.1
right_text p _ text h = refl

-- an element closes that is no segment, and its text is right
pub element_closed : {D : Type 0} (p : Named) (holds : D → List Level → List ℕ → Type 0) (old : Path D) (shorter : List Frame) (f : Frame) (middle : D) (new : Path D) (place : List Open) (marks at : ℕ) (rest : List ℕ)
    (j : Judgement) (result : Bool) → HoldsAt p holds old place → IsEnd p place marks j → shorter ≡ take (length old.frames.open.items - 1) old.frames.open.items
    → slice_get old.frames.open.items (length old.frames.open.items - 1) ≡ Some f → IsNoSegment (read_as f.found) → ((x : ⊤) → ChecksText p holds old.draft f (Ok x)) → HasClosed p holds old.draft f (next_at p shorter) middle
    → (after : Place) → place_view after ≡ next_place f.found → GoesOn after shorter new.frames.open.items result → new.frames.profile ≡ old.frames.profile → new.draft ≡ middle → IsStep p holds new (Ok result) (step_after j place at rest)
element_closed p holds old shorter f middle new place marks at rest j result stands end frames last apart checks closed after there goes same draft =
    let o = end.innermost in
    let path = end.outer in
    let here : HoldsAt p holds old (o ∷ path) = subst (HoldsAt p holds old) end.is_path stands in
    let top = popped p old.frames.open.items shorter here.0 f o path here.1 frames last in
    let text = text_so_far (o ∷ path) in
    let ends = frame_ended p f o path shorter top.entries top.framed apart.0 apart.1 (ap (λ x. missing (profile_of p) (next_in (profile_of p) x)) (sym end.is_path) ∙ end.complete) in
    let held = subst (λ ls. holds old.draft ls text) (top.held ∙ pushed_apart (level_of f o.tag top.entries) top.below apart) here.2 in
    let right = checks tt o.tag top.entries top.below text held in
    let none : string_fault (profile_of p) o.element o.trees ≡ None =
    ap (λ x. string_fault (profile_of p) x o.trees) (sym top.framed.element) ∙ ends.fault ∙ right_text p (read_as f.found) text right in
    let added = entry_added p holds shorter top.below new path (slot_in f.found) (alternative_of f.found) (read_as f.found) ends.content (constructed o.tag o.trees) (at + marks) (drop marks rest) result (same ∙ here.3) top.outer top.framed.is_due
    (λ u. segments_alone (read_as f.found) u apart) after (ap shape_at there ∙ top.framed.after) goes
    (λ l below e d. (
      ends.value right,
      subst (λ x. holds x (with_entry l (slot_in f.found) (with_alternative (alternative_of f.found) ends.content) ∷ below) []) (sym draft)
          (closed o.tag top.entries o.trees l below text ends.content (subst (λ ls. holds old.draft (level_of f o.tag top.entries ∷ ls) text) e held) top.framed.held right ends.is (constructed o.tag o.trees, refl, ends.value right) d),
    )) in
    subst (IsStep p holds new (Ok result)) (sym (ending p place marks at rest j end None none)) added

-- or its text is at fault, or memory runs out
pub element_refused : {D : Type 0} (p : Named) (holds : D → List Level → List ℕ → Type 0) (old : Path D) (shorter : List Frame) (f : Frame) (new : Path D) (place : List Open) (marks at : ℕ) (rest : List ℕ)
    (j : Judgement) (failure : Failure) → HoldsAt p holds old place → IsEnd p place marks j → shorter ≡ take (length old.frames.open.items - 1) old.frames.open.items
    → slice_get old.frames.open.items (length old.frames.open.items - 1) ≡ Some f → IsNoSegment (read_as f.found) → ChecksText p holds old.draft f (Err failure) → IsStep p holds new (Err failure) (step_after j place at rest)
element_refused p holds old shorter f new place marks at rest j Failure.OutOfMemory stands end frames last apart checks = tt
element_refused p holds old shorter f new place marks at rest j (Failure.Refused r) stands end frames last apart checks =
    let o = end.innermost in
    let path = end.outer in
    let here : HoldsAt p holds old (o ∷ path) = subst (HoldsAt p holds old) end.is_path stands in
    let top = popped p old.frames.open.items shorter here.0 f o path here.1 frames last in
    let text = text_so_far (o ∷ path) in
    let ends = frame_ended p f o path shorter top.entries top.framed apart.0 apart.1 (ap (λ x. missing (profile_of p) (next_in (profile_of p) x)) (sym end.is_path) ∙ end.complete) in
    let held = subst (λ ls. holds old.draft ls text) (top.held ∙ pushed_apart (level_of f o.tag top.entries) top.below apart) here.2 in
    let wrong = checks o.tag top.entries top.below text held in
    let found : string_fault (profile_of p) o.element o.trees ≡ Some wrong.0 =
    ap (λ x. string_fault (profile_of p) x o.trees) (sym top.framed.element) ∙ ends.fault ∙ wrong.1 in
    subst (IsStep p holds new (Err (Failure.Refused r))) (sym (ending p place marks at rest j end (Some wrong.0) found))
    (ap (fault (cause_of wrong.0)) (sym top.framed.start) ∙ wrong.2)

-- a failure is handed on
pub handed_on : {T : Type 0} (P : Result T Failure → Type 0) (r : Result T Failure) (failure : Failure) → IsErrAnd r (λ e. e ≡ failure) → P (Err failure) → P r
handed_on P (Ok x) failure h p = absurd h
handed_on P (Err e) failure h p = subst (λ x. P (Err x)) (sym h) p
