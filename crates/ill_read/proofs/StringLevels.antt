-- The innermost level where a segment may come next is that of the string.
use Rattle.std.proofs.Common.{◌≡◌, List, [], ◌∷◌, inl, inr, sym, ap, subst, refl, ◌∙◌}
use Rattle.ill_grammar.specs.Places.{alternative_of}
use Rattle.ill_tables.specs.declared.profile.Profile.{Profile as Named}
use Rattle.ill_refusals.specs.Place.{Open}
use Rattle.ill_grammar.specs.Due.{due_with, read_as, shape, slot_in}
use Rattle.ill_grammar.specs.Elements.{element_is}
use Rattle.ill_grammar.specs.Standing.{AreFrames, IsFrameOf, IsHeld, Level, level_of, next_at, next_at_top}
use Rattle.ill_grammar.specs.declared.due.Next.TheVariants.{BitSegments, Segments}
use Rattle.ill_grammar.specs.declared.element.Element.{Element as CodeElement}
use Rattle.ill_grammar.specs.declared.element.Element.TheVariants.{BitSegment, BitString, Foreign, Leaf, List as ListOf, LooseWrapper, ModuleLeaf, Segment, Sequence, Wrapper}
use Rattle.ill_grammar.specs.declared.frame.Frame.{Frame}
use Rattle.ill_grammar.proofs.DueTags.{bit_segment_due, segment_due}
use Rattle.ill_grammar.proofs.OpenFrames.{next_behind}
use Rattle.ill_read.proofs.DeliveredEntries.{pushed_apart, pushed_segment}

-- the innermost level is of an element that is so
pub record IsLevel (levels : List Level) (Is : CodeElement → Type 0) : Type 0 where
  pub level : Level
  pub below : List Level
  pub are : levels ≡ level ∷ below
  pub is : Is level.element

-- a string that is no BIT STRING has segments
pub string_level : (p : Named) (place : List Open) (frames : List Frame) (levels : List Level) → AreFrames p place frames levels → next_at p frames ≡ Segments → IsLevel levels (λ e. e ≡ BitString → ⊥)
string_level p [] frames levels h s = absurd (let q : next_at_top p ≡ Segments = sym (ap (next_at p) h.0) ∙ s in cc)
string_level p (o ∷ path) frames levels h s = go (λ t. string_level p path h.0 h.2 h.7 t) (read_as f.found) refl
  where
    f : Frame
    f = h.1

    k : IsFrameOf p f o path h.0 h.3
    k = h.6

    next : shape f.place ≡ Segments
    next = sym (ap (next_at p) h.4 ∙ next_behind p h.0 f) ∙ s

    held : (e : CodeElement) → read_as f.found ≡ e → IsHeld p e Segments h.3 o.trees
    held e is = subst (λ x. IsHeld p x Segments h.3 o.trees) is (subst (λ n. IsHeld p (read_as f.found) n h.3 o.trees) next k.held)

    l : Level
    l = level_of f o.tag h.3

    own : (e : CodeElement) → read_as f.found ≡ e → (e ≡ Segment → ⊥) → (e ≡ BitSegment → ⊥) → (e ≡ BitString → ⊥) → IsLevel levels (λ e. e ≡ BitString → ⊥)
    own e is segment bit_segment bits =
        record { level = l; below = h.2; are = h.5 ∙ pushed_apart l h.2 (λ x. segment (sym is ∙ x), λ x. bit_segment (sym is ∙ x)); is = λ x. bits (sym is ∙ x) }

    go : (next_at p h.0 ≡ Segments → IsLevel h.2 (λ e. e ≡ BitString → ⊥)) → (e : CodeElement) → read_as f.found ≡ e → IsLevel levels (λ e. e ≡ BitString → ⊥)
    go round Segment is =
        let d = due_with (slot_in f.found) (alternative_of f.found) (read_as f.found) in
        let x = round (segment_due o.tag (next_at p h.0) d k.is_due (ap element_is is)) in
        record { level = x.level; below = x.below; are = h.5 ∙ pushed_segment l h.2 (inl is) ∙ x.are; is = x.is }
    go round (Leaf t) is = own (Leaf t) is (λ x. cc) (λ x. cc) (λ x. cc)
    go round (ModuleLeaf t) is = own (ModuleLeaf t) is (λ x. cc) (λ x. cc) (λ x. cc)
    go round BitString is = absurd (held BitString is)
    go round BitSegment is = absurd (held BitSegment is)
    go round (Sequence node) is = absurd (held (Sequence node) is)
    go round (ListOf node) is = absurd (held (ListOf node) is)
    go round (Wrapper w) is = absurd (held (Wrapper w) is)
    go round (LooseWrapper w) is = absurd (held (LooseWrapper w) is)
    go round (Foreign n) is = absurd (held (Foreign n) is)

-- a BIT STRING has segments of its own
pub bit_level : (p : Named) (place : List Open) (frames : List Frame) (levels : List Level) → AreFrames p place frames levels → next_at p frames ≡ BitSegments → IsLevel levels (λ e. e ≡ BitString)
bit_level p [] frames levels h s = absurd (let q : next_at_top p ≡ BitSegments = sym (ap (next_at p) h.0) ∙ s in cc)
bit_level p (o ∷ path) frames levels h s = go (λ t. bit_level p path h.0 h.2 h.7 t) (read_as f.found) refl
  where
    f : Frame
    f = h.1

    k : IsFrameOf p f o path h.0 h.3
    k = h.6

    next : shape f.place ≡ BitSegments
    next = sym (ap (next_at p) h.4 ∙ next_behind p h.0 f) ∙ s

    held : (e : CodeElement) → read_as f.found ≡ e → IsHeld p e BitSegments h.3 o.trees
    held e is = subst (λ x. IsHeld p x BitSegments h.3 o.trees) is (subst (λ n. IsHeld p (read_as f.found) n h.3 o.trees) next k.held)

    l : Level
    l = level_of f o.tag h.3

    go : (next_at p h.0 ≡ BitSegments → IsLevel h.2 (λ e. e ≡ BitString)) → (e : CodeElement) → read_as f.found ≡ e → IsLevel levels (λ e. e ≡ BitString)
    go round BitSegment is =
        let d = due_with (slot_in f.found) (alternative_of f.found) (read_as f.found) in
        let x = round (bit_segment_due o.tag (next_at p h.0) d k.is_due (ap element_is is)) in
        record { level = x.level; below = x.below; are = h.5 ∙ pushed_segment l h.2 (inr is) ∙ x.are; is = x.is }
    go round BitString is =
        record { level = l; below = h.2; are = h.5 ∙ pushed_apart l h.2 (λ x. (let q : BitString ≡ Segment = sym is ∙ x in cc), λ x. (let q : BitString ≡ BitSegment = sym is ∙ x in cc)); is = is }
    go round (Leaf t) is = absurd (held (Leaf t) is)
    go round (ModuleLeaf t) is = absurd (held (ModuleLeaf t) is)
    go round Segment is = absurd (held Segment is)
    go round (Sequence node) is = absurd (held (Sequence node) is)
    go round (ListOf node) is = absurd (held (ListOf node) is)
    go round (Wrapper w) is = absurd (held (Wrapper w) is)
    go round (LooseWrapper w) is = absurd (held (LooseWrapper w) is)
    go round (Foreign n) is = absurd (held (Foreign n) is)
