-- An element's content goes where it belongs.
use Rattle.ill_schema.specs.Profiles.{profile_of}
use Rattle.std.proofs.Common.{◌⊎◌, inl, inr}
use Rattle.ill_tables.specs.declared.profile.Profile.{Profile as Named}
use Rattle.ber_tree.specs.Identifier.{Tag}
use Rattle.ill_read.specs.code.Drafts.{IsNoSegment}
use Rattle.ill_tables.specs.declared.profile.Profile.TheVariants.{Two, Module}
use Rattle.ill_schema.specs.Apdu.{root}
use Rattle.ill_tables.specs.Table.{kind_of}
use Rattle.ill_tables.specs.declared.node.Kind.{Kind}
use Rattle.std.proofs.Common.{◌≡◌, ℕ, Bool, true, false, List, [], ◌∷◌, ◌++◌, Option, Ok, refl, sym, ap, subst, ◌∙◌}
use Rattle.ber_tree.specs.Tree.{Tree, none, tag_of}
use Rattle.ber_leaf.specs.Profile.{profile_two}
use Rattle.ill_schema.specs.Content.{Content}
use Rattle.ill_refusals.specs.Element.{segment}
use Rattle.ill_refusals.specs.Place.{Open}
use Rattle.ill_refusals.specs.code.Step.{with_tree}
use Rattle.ill_grammar.specs.Elements.{component_of, element_is}
use Rattle.ill_grammar.specs.declared.place.Place.{Place}
use Rattle.ill_grammar.specs.Due.{IsDueIn, behind, shape, read_as}
use Rattle.ill_read.specs.code.Drafts.{IsDueAt, with_entry}
use Rattle.ill_grammar.specs.Due.{due_with}
use Rattle.ill_read.specs.code.Judged.{IsStep}
use Rattle.ill_read.specs.code.Stepping.{GoesOn}
use Rattle.ill_grammar.specs.Standing.{Level, level_of, pushed, top_level, top_part, next_at, next_at_top, IsFrameOf, AreFrames}
use Rattle.ill_read.specs.Paths.{text_so_far}
use Rattle.ill_grammar.specs.Contents.{with_alternative, IsValueOf}
use Rattle.ill_grammar.specs.declared.due.Next.{Next}
use Rattle.ill_grammar.specs.declared.due.Slot.{Slot}
use Rattle.ill_grammar.specs.declared.element.Element.{Element as CodeElement}
use Rattle.ill_grammar.specs.declared.element.Element.TheVariants.{Segment, BitSegment}
use Rattle.ill_grammar.specs.Begun.{Begun}
use Rattle.ill_grammar.specs.declared.frame.Frame.{Frame}
use Rattle.ill_read.specs.declared.path.Path.{Path}
use Rattle.ill_read.proofs.AddedEntries.{held_added}
use Rattle.ill_grammar.proofs.OpenFrames.{next_behind}
use Rattle.ill_read.proofs.MoreTrees.{with_one, frame_added}
use Rattle.ill_grammar.proofs.Meanings.{begun_means}
use Rattle.ill_refusals.proofs.OpenElements.{inner_proper}
use Rattle.ill_read.proofs.Segments.{IsOutside, due_outside, no_segment_in, text_apart, text_with}

pub pushed_segment : (l : Level) (below : List Level) → (l.element ≡ Segment) ⊎ (l.element ≡ BitSegment) → pushed l below ≡ below
pushed_segment l below (inl s) = ap (λ (e : CodeElement). elim e as (λ _. List Level) [ Segment ↦ below | BitSegment ↦ below | _ ↦ l ∷ below ]) s
pushed_segment l below (inr s) = ap (λ (e : CodeElement). elim e as (λ _. List Level) [ Segment ↦ below | BitSegment ↦ below | _ ↦ l ∷ below ]) s

pub pushed_apart : (l : Level) (below : List Level) → IsNoSegment l.element → pushed l below ≡ l ∷ below
pushed_apart l below whole = go l.element whole
  where
    go : (e : CodeElement) → IsNoSegment e → (elim e as (λ _. List Level) [ Segment ↦ below | BitSegment ↦ below | _ ↦ l ∷ below ]) ≡ l ∷ below
    go Segment n = absurd (n.0 refl)
    go BitSegment n = absurd (n.1 refl)
    go _ n = refl

-- the innermost level, where no string is open
pub innermost_level : (p : Named) (place : List Open) (frames : List Frame) (levels : List Level) → AreFrames p place frames levels → IsOutside (next_at p frames)
    → (l : Level) × (below : List Level) × (levels ≡ l ∷ below) × (l.next ≡ next_at p frames)
innermost_level p [] frames levels h apart = (top_level p, [], h.1, sym (ap (next_at p) h.0))
innermost_level p (o ∷ path) frames levels h apart =
    let f = h.1 in
    let k : IsFrameOf p f o path h.0 h.3 = h.6 in
    let here : next_at p frames ≡ shape f.place = ap (next_at p) h.4 ∙ next_behind p h.0 f in
    let l = level_of f o.tag h.3 in
    (l, h.2, h.5 ∙ pushed_apart l h.2 (no_segment_in p (read_as f.found) (shape f.place) h.3 o.trees k.held (subst IsOutside here apart)), sym here)

-- a message is a choice
root_choice : (p : Named) → kind_of (root (profile_of p)) ≡ Kind.Choice
root_choice Two = refl
root_choice Module = refl

-- an element's content in the element round it, or in the message
pub entry_added : {D : Type 0} (p : Named) (holds : D → List Level → List ℕ → Type 0) (frames : List Frame) (levels : List Level) (new : Path D) (place : List Open) (slot : Slot) (alt : Option ℕ) (el : CodeElement)
    (c : Content) (T : Tree) (at : ℕ) (rest : List ℕ) (result : Bool) → new.frames.profile ≡ p → AreFrames p place frames levels → IsDueIn (tag_of T) (next_at p frames) (due_with slot alt el) → ((u : Tag) → element_is el ≡ segment u → ⊥)
    → (after : Place) → shape after ≡ behind (next_at p frames) slot → GoesOn after frames new.frames.open.items result
    → ((l : Level) (below : List Level) → levels ≡ l ∷ below → IsDueAt p l (next_at p frames) (tag_of T) slot alt el
    → IsValueOf p (element_is el) c T × holds new.draft (with_entry l slot (with_alternative alt c) ∷ below) [])
    → IsStep p holds new (Ok result) (with_tree place T at rest)
entry_added p holds frames levels new [] slot alt el c T at rest false same h d apart after on goes given = absurd (goes.0 h.0)
entry_added p holds frames levels new [] slot alt el c T at rest true same h d apart after on goes given =
    let next : next_at_top p ≡ next_at p frames = sym (ap (next_at p) h.0) in
    let due : IsDueIn (tag_of T) (next_at_top p) (due_with slot alt el) = subst (λ n. IsDueIn (tag_of T) n (due_with slot alt el)) (sym next) d in
    let x = given (top_level p) [] h.1 (record { trees = none; held = (refl, refl, refl); next = next; is_due = due }) in
    let q = begun_means p (component_of (top_part p)) alt (Begun.Element el) c T (inner_proper profile_two (component_of (top_part p)) refl refl (λ e. let q : Kind.Choice ≡ Kind.Any = sym (root_choice p) ∙ e in cc)) due.begun x.0 in
    (with_alternative alt c, x.1, q.1)
entry_added p holds frames levels new (o ∷ path) slot alt el c T at rest true same h d apart after on goes given =
    absurd (let q : h.0 ++ h.1 ∷ [] ≡ [] = sym h.4 ∙ goes.0 in some_frame h.0 h.1 q)
  where
    some_frame : (outer : List Frame) (f : Frame) → outer ++ f ∷ [] ≡ [] → ⊥
    some_frame [] f e = cc
    some_frame (g ∷ outer) f e = cc
entry_added p holds frames levels new (o ∷ path) slot alt el c T at rest false same h d apart after on goes given =
    let outer = h.0 in
    let f = h.1 in
    let below = h.2 in
    let entries = h.3 in
    let k : IsFrameOf p f o path outer entries = h.6 in
    let here : next_at p frames ≡ (shape f.place) = ap (next_at p) h.4 ∙ next_behind p outer f in
    let due : IsDueIn (tag_of T) (shape f.place) (due_with slot alt el) = subst (λ n. IsDueIn (tag_of T) n (due_with slot alt el)) here d in
    let other : IsOutside (shape f.place) = due_outside (tag_of T) (shape f.place) (due_with slot alt el) due apart in
    let whole : IsNoSegment (read_as f.found) = no_segment_in p (read_as f.found) (shape f.place) entries o.trees k.held other in
    let l = level_of f o.tag entries in
    let x = given l below (h.5 ∙ pushed_apart l below whole) (record { trees = o.trees; held = k.held; next = sym here; is_due = due }) in
    let more = with_entry l slot (with_alternative alt c) in
    let going : shape after ≡ behind (shape f.place) slot = on ∙ ap (λ n. behind n slot) here in
    let held = held_added p (read_as f.found) (shape f.place) entries o.trees T slot alt el c k.held due x.0 in
    let framed = frame_added p f o path outer entries more.entries T (due_with slot alt el) k due after going held in
    let none : text_so_far (with_one o T ∷ path) ≡ [] =
    ap (λ e. text_with e (text_so_far path) (with_one o T).trees) (sym k.element) ∙ text_apart p (read_as f.found) (shape f.place) entries o.trees k.held other (text_so_far path) (with_one o T).trees in (
      more ∷ below,
      (
        outer,
        record f { place = after },
        below,
        more.entries,
        goes.1 outer f h.4,
        sym (pushed_apart more below whole) ∙ ap (λ (n : Next). pushed (record more { next = n }) below) (sym going),
        framed,
        h.7,
      ),
      subst (holds new.draft (more ∷ below)) (sym none) x.1,
      same,
    )
