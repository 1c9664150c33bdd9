-- The text of the strings that are open.
use Rattle.ill_tables.specs.declared.profile.Profile.{Profile as Named}
use Rattle.ber_tree.specs.Identifier.{Tag}
use Rattle.ber_tree.specs.Tree.{octet_string}
use Rattle.ber_leaf.specs.Leaf.{bit_string}
use Rattle.ber_leaf.specs.Segments.{segment_tag}
use Rattle.ill_grammar.specs.Elements.{found_is}
use Rattle.ill_grammar.specs.Due.{DueEntry, IsDueIn}
use Rattle.ill_grammar.specs.declared.due.Next.TheVariants.{BitSegments}
use Rattle.ill_grammar.proofs.DueTags.{due_bit_segment, due_segment}
use Rattle.ill_read.specs.code.Drafts.{IsNoSegment}
use Rattle.std.proofs.Common.{◌≡◌, ℕ, List, [], ◌∷◌, Option, refl, sym, ap, subst, ◌∙◌}
use Rattle.ber_tree.specs.Tree.{Trees}
use Rattle.ill_schema.specs.Content.{Content}
use Rattle.ber_leaf.specs.Segments.{segments_content}
use Rattle.ill_grammar.specs.Elements.{element_is}
use Rattle.ill_grammar.specs.Due.{shape, read_as}
use Rattle.ill_refusals.specs.Element.{Element, leaf, segment}
use Rattle.ill_refusals.specs.Place.{Open}
use Rattle.ill_grammar.specs.Standing.{Level, next_at, IsHeld, IsFrameOf, AreFrames}
use Rattle.ill_read.specs.Paths.{segments_after, text_so_far}
use Rattle.ill_grammar.specs.declared.due.Next.{Next}
use Rattle.ill_grammar.specs.declared.due.Next.TheVariants.{Segments}
use Rattle.ill_grammar.specs.declared.element.Element.{Element as CodeElement}
use Rattle.ill_grammar.specs.declared.element.Element.TheVariants.{Leaf, Segment, ModuleLeaf, BitString, BitSegment}
use Rattle.ill_grammar.specs.declared.frame.Frame.{Frame}
use Rattle.ill_grammar.proofs.OpenFrames.{next_behind}

-- the text that an open element adds
abbrev pub text_with : Element → List ℕ → Trees → List ℕ
text_with e before ts = elim e as (λ _. List ℕ) [ leaf l ↦ segments_content l ts | segment t ↦ segments_after t before ts | _ ↦ [] ]

-- no segment may come next
abbrev pub IsOutside : Next → Type 0
IsOutside n = (n ≡ Segments → ⊥) × (n ≡ BitSegments → ⊥)

-- an element that is no string holds no text
pub text_apart : (p : Named) (e : CodeElement) (n : Next) (entries : List (Option Content)) (ts : Trees) → IsHeld p e n entries ts → IsOutside n → (before : List ℕ) (us : Trees)
    → text_with (element_is e) before us ≡ []
text_apart p (Leaf l) Segments entries ts h apart before us = absurd (apart.0 refl)
text_apart p (Leaf l) _ entries ts h apart before us = absurd h
text_apart p (ModuleLeaf l) Segments entries ts h apart before us = absurd (apart.0 refl)
text_apart p (ModuleLeaf l) _ entries ts h apart before us = absurd h
text_apart p BitString BitSegments entries ts h apart before us = absurd (apart.1 refl)
text_apart p BitString _ entries ts h apart before us = absurd h
text_apart p Segment Segments entries ts h apart before us = absurd (apart.0 refl)
text_apart p Segment _ entries ts h apart before us = absurd h
text_apart p BitSegment BitSegments entries ts h apart before us = absurd (apart.1 refl)
text_apart p BitSegment _ entries ts h apart before us = absurd h
text_apart p _ n entries ts h apart before us = refl

-- nor do the elements round what is no segment
pub no_text : (p : Named) (place : List Open) (frames : List Frame) (levels : List Level) → AreFrames p place frames levels → IsOutside (next_at p frames) → text_so_far place ≡ []
no_text p [] frames levels h apart = refl
no_text p (o ∷ path) frames levels h apart =
    let f = h.1 in
    let k : IsFrameOf p f o path h.0 _ = h.6 in
    let here : next_at p frames ≡ shape f.place = ap (next_at p) h.4 ∙ next_behind p h.0 f in
    ap (λ e. text_with e (text_so_far path) o.trees) (sym k.element)
    ∙ text_apart p (read_as f.found) (shape f.place) _ o.trees k.held (subst IsOutside here apart) (text_so_far path) o.trees

-- what may come next in a segment is a segment
segment_next : (p : Named) (n : Next) (entries : List (Option Content)) (ts : Trees) → IsHeld p Segment n entries ts → n ≡ Segments
segment_next p Segments entries ts h = refl
segment_next p _ entries ts h = absurd h

bit_segment_next : (p : Named) (n : Next) (entries : List (Option Content)) (ts : Trees) → IsHeld p BitSegment n entries ts → n ≡ BitSegments
bit_segment_next p BitSegments entries ts h = refl
bit_segment_next p _ entries ts h = absurd h

pub no_segment_in : (p : Named) (e : CodeElement) (n : Next) (entries : List (Option Content)) (ts : Trees) → IsHeld p e n entries ts → IsOutside n → IsNoSegment e
no_segment_in p e n entries ts h apart = (
  λ s. apart.0 (segment_next p n entries ts (subst (λ x. IsHeld p x n entries ts) s h)),
  λ s. apart.1 (bit_segment_next p n entries ts (subst (λ x. IsHeld p x n entries ts) s h)),
)

-- what is due outside strings is no segment
pub due_outside : (t : Tag) (n : Next) (d : DueEntry) → IsDueIn t n d → ((u : Tag) → found_is d.found ≡ segment u → ⊥) → IsOutside n
due_outside t n d h apart = (λ s. apart octet_string (due_segment t n d h s), λ s. apart (segment_tag bit_string) (due_bit_segment t n d h s))

pub segments_alone : (e : CodeElement) (u : Tag) → IsNoSegment e → element_is e ≡ segment u → ⊥
segments_alone Segment u whole s = whole.0 refl
segments_alone BitSegment u whole s = whole.1 refl
segments_alone _ u whole s = cc
