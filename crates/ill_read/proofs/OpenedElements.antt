-- An element opens.
use Rattle.ill_tables.specs.declared.profile.Profile.{Profile as Named}
use Rattle.ill_schema.specs.Profiles.{profile_of}
use Rattle.ill_tables.specs.declared.node.Kind.{Kind}
use Rattle.ill_tables.specs.Table.{kind_of}
use Rattle.std.proofs.Common.{◌≡◌, ℕ, List, [], ◌∷◌, ◌++◌, append-nil, Option, Some, None, unwrap_or, true, IsTrue, refl, sym, ap, subst, ◌∙◌}
use Rattle.ber_core.specs.Id.{tag_of_id}
use Rattle.ber_tree.specs.Identifier.{Tag}
use Rattle.ber_tree.specs.Tree.{constructed, none, octet_string}
use Rattle.ill_grammar.specs.Places.{alternative_of, node_of, part_of, type_of}
use Rattle.ill_grammar.specs.Elements.{element_is, is_two_element}
use Rattle.ill_grammar.specs.Due.{IsDueIn, behind, first_of, next_is, shape, shape_at, read_as, slot_in, next_place}
use Rattle.ill_refusals.specs.Next.{opening}
use Rattle.ill_refusals.specs.Place.{Open, allows, bound}
use Rattle.ill_grammar.specs.Standing.{Level, level_of, pushed, next_at, IsHeld, IsFrameOf}
use Rattle.ill_read.specs.Paths.{text_so_far, HoldsAt}
use Rattle.ill_refusals.specs.code.Step.{opened}
use Rattle.ill_read.specs.code.Drafts.{HasOpened, InBitString, IsNoSegment, IsOpeningIn, text_opened}
use Rattle.ill_read.proofs.StringLevels.{bit_level}
use Rattle.ill_grammar.specs.Due.{due_with}
use Rattle.ill_grammar.specs.declared.due.Next.{Next}
use Rattle.ill_grammar.specs.declared.due.Next.TheVariants.{Inner, Root}
use Rattle.ill_grammar.specs.declared.element.Element.{Element as CodeElement}
use Rattle.ill_grammar.specs.declared.element.Element.TheVariants.{Leaf, Sequence, List as ListOf, Wrapper, LooseWrapper, Segment, ModuleLeaf, BitString, BitSegment, Foreign}
use Rattle.ill_grammar.specs.declared.frame.Frame.{Frame}
use Rattle.ill_grammar.specs.declared.judge.ConstructedElement.{ConstructedElement}
use Rattle.ill_read.specs.declared.path.Path.{Path}
use Rattle.ill_read.proofs.DeliveredEntries.{innermost_level}
use Rattle.ber_tree.specs.Identifier.{HasIdentifier}
use Rattle.ber_core.proofs.Foreign.{has_identified}
use Rattle.ill_grammar.proofs.ReadLeaves.{module_content, read_content}
use Rattle.ill_grammar.proofs.DueCells.{opens-by}
use Rattle.ill_grammar.proofs.DueTags.{bit_segment_due}
use Rattle.ill_read.proofs.Segments.{IsOutside, due_outside, segments_alone, text_with, no_text}

-- an element that opens holds nothing
pub holds_none : (p : Named) (e : CodeElement) (n : Next) → n ≡ first_of e → allows (element_is e) true ≡ true → IsHeld p e n [] none
holds_none p (Leaf l) n f a = subst (λ x. IsHeld p (Leaf l) x [] none) (sym f) (a, refl, tt)
holds_none p (Sequence node) n f a = subst (λ x. IsHeld p (Sequence node) x [] none) (sym f) (refl, refl)
holds_none p (ListOf node) n f a = subst (λ x. IsHeld p (ListOf node) x [] none) (sym f) (refl, [], refl, refl)
holds_none p (Wrapper w) n f a = go (kind_of w.node) f
  where
    go : (k : Kind) → n ≡ elim k as (λ _. Next) [ Kind.Any ↦ Root w | _ ↦ Inner w ] → IsHeld p (Wrapper w) n [] none
    go Kind.Any f = subst (λ x. IsHeld p (Wrapper w) x [] none) (sym f) (refl, refl, refl)
    go _ f = subst (λ x. IsHeld p (Wrapper w) x [] none) (sym f) (refl, refl, refl)
holds_none p (LooseWrapper w) n f a = subst (λ x. IsHeld p (LooseWrapper w) x [] none) (sym f) (refl, refl, refl)
holds_none p Segment n f a = subst (λ x. IsHeld p Segment x [] none) (sym f) (refl, tt)
holds_none p (ModuleLeaf l) n f a = subst (λ x. IsHeld p (ModuleLeaf l) x [] none) (sym f) (a, refl, tt)
holds_none p BitString n f a = subst (λ x. IsHeld p BitString x [] none) (sym f) (refl, tt)
holds_none p BitSegment n f a = subst (λ x. IsHeld p BitSegment x [] none) (sym f) (refl, tt)
holds_none p (Foreign k) n f a = subst (λ x. IsHeld p (Foreign k) x [] none) (sym f) (refl, refl, refl)

-- nor does it add text
opened_text : (e : CodeElement) (before : List ℕ) → (IsNoSegment e → before ≡ []) → text_opened e before ≡ text_with (element_is e) before none
opened_text Segment before h = sym (append-nil before)
opened_text BitSegment before h = refl
opened_text BitString before h = refl
opened_text (Leaf l) before h = h (λ s. cc, λ s. cc) ∙ sym (read_content l (constructed octet_string none))
opened_text (ModuleLeaf l) before h = h (λ s. cc, λ s. cc) ∙ sym (module_content l (constructed octet_string none))
opened_text _ before h = h (λ s. cc, λ s. cc)

-- in profile 2 the text stays
pub opened_same : (e : CodeElement) (text : List ℕ) → IsTrue (is_two_element e) → text_opened e text ≡ text
opened_same BitString text two = absurd cc
opened_same BitSegment text two = absurd cc
opened_same _ text two = refl

-- the bound in an element
bound_opened : (p : Named) (end : Option ℕ) (round : ℕ) (e : CodeElement) (tag : Tag) (start : ℕ) (place : List Open) → round ≡ bound (profile_of p) place → unwrap_or end round ≡ bound (profile_of p) (opened (element_is e) tag start end ∷ place)
bound_opened p (Some n) round e tag start place h = refl
bound_opened p None round e tag start place h = h

pub opens_at : {D : Type 0} (p : Named) (holds : D → List Level → List ℕ → Type 0) (old new : Path D) (opening : ConstructedElement) (f : Frame) (place : List Open) (round : ℕ) → HoldsAt p holds old place
    → IsDueIn (tag_of_id opening.id) (next_at p old.frames.open.items) (due_with (slot_in f.found) (alternative_of f.found) (read_as f.found)) → shape_at (next_place f.found) ≡ behind (next_at p old.frames.open.items) (slot_in f.found) → allows (element_is (read_as f.found)) true ≡ true → (shape f.place) ≡ first_of (read_as f.found)
    → round ≡ bound (profile_of p) place → f.bound ≡ unwrap_or f.end round → HasOpened holds old.draft (next_at p old.frames.open.items) opening f.contents_start new.draft → new.frames.open.items ≡ old.frames.open.items ++ f ∷ [] → new.frames.profile ≡ old.frames.profile → f.found ≡ opening.found
    → HoldsAt p holds new (opened (element_is (read_as f.found)) (tag_of_id opening.id) f.start f.end ∷ place)
opens_at p holds old new opening f place round h due after allowed first r b has frames same is =
    let tag = tag_of_id opening.id in
    let o : Open = opened (element_is (read_as f.found)) tag f.start f.end in
    let framed : IsFrameOf p f o place old.frames.open.items [] = record {
      element = refl;
      start = refl;
      identified = has_identified tag true (subst (HasIdentifier tag) opening.form opening.id.valid);
      end = refl;
      bound = b ∙ bound_opened p f.end round (read_as f.found) tag f.start place r;
      next = ap next_is first ∙ opens-by (type_of f.found) (part_of f.found) (node_of f.found);
      is_due = due;
      after = after;
      held = holds_none p (read_as f.found) (shape f.place) first allowed;
      were_due = tt;
    } in
    let next = next_at p old.frames.open.items in
    let due_here = due_with (slot_in f.found) (alternative_of f.found) (read_as f.found) in
    let outside : IsNoSegment (read_as f.found) → IsOutside next = λ whole. due_outside tag next due_here due (λ u. segments_alone (read_as f.found) u whole) in
    let none_before : IsNoSegment (read_as f.found) → text_so_far place ≡ [] = λ whole. no_text p place old.frames.open.items h.0 h.1 (outside whole) in
    let opens_in : IsNoSegment (read_as opening.found) → IsOpeningIn h.0 (text_so_far place) next opening = λ n.
    let other : IsNoSegment (read_as f.found) = subst (λ x. IsNoSegment (read_as x)) (sym is) n in
    let l = innermost_level p place old.frames.open.items h.0 h.1 (outside other) in
    record {
      none = no_text p place old.frames.open.items h.0 h.1 (outside other);
      level = l.0;
      below = l.1;
      are = l.2;
      next = l.3;
      is_due = subst (λ x. IsDueIn tag next (due_with (slot_in x) (alternative_of x) (read_as x))) is due;
    } in
    let in_bits : read_as opening.found ≡ BitSegment → InBitString h.0 = λ s.
    let l = bit_level p place old.frames.open.items h.0 h.1 (bit_segment_due tag next due_here due (ap element_is (ap read_as is ∙ s))) in
    (l.level, l.below, l.are, l.is) in
    let kept = has h.0 (text_so_far place) h.2 opens_in in_bits in
    let opened_as : CodeElement → Level = λ e. record { element = e; tag = tag; next = first_of e; contents_start = f.contents_start; entries = [] } in
    let level : opened_as (read_as opening.found) ≡ level_of f tag [] =
    ap opened_as (ap read_as (sym is)) ∙ ap (λ n. let l : Level = record { element = (read_as f.found); tag = tag; next = n; contents_start = f.contents_start; entries = [] } in l) (sym first) in (
      pushed (level_of f tag []) h.0,
      (old.frames.open.items, f, h.0, [], frames, refl, framed, h.1),
      subst (holds new.draft (pushed (level_of f tag []) h.0)) (ap (λ x. text_opened (read_as x) (text_so_far place)) (sym is) ∙ opened_text (read_as f.found) (text_so_far place) none_before)
          (subst (λ l. holds new.draft (pushed l h.0) (text_opened (read_as opening.found) (text_so_far place))) level kept),
      same ∙ h.3,
    )
