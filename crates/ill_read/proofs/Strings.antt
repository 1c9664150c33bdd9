-- Strings in segments: a segment more, read or closed.
use Rattle.std.proofs.Common.{◌≡◌, ℕ, List, [], ◌∷◌, ◌++◌, append_assoc, append-nil, Option, Some, Ok, false, sym, ap, ap₂, refl, subst, ◌∙◌}
use Rattle.ber_tree.specs.Identifier.{Tag}
use Rattle.ber_tree.specs.Tree.{Tree, Trees, constructed, none, more, tag_of, octet_string, IsString, text, text_all, AreSegments}
use Rattle.ber_leaf.specs.Profile.{profile_two}
use Rattle.ill_schema.specs.Content.{Content}
use Rattle.ill_grammar.specs.Elements.{element_is}
use Rattle.ill_grammar.specs.Due.{IsDueIn, next_is, behind, shape, read_as}
use Rattle.ill_read.specs.code.Judged.{IsStep}
use Rattle.ill_refusals.specs.Next.{due, next_after, opening}
use Rattle.ill_refusals.specs.Place.{Open}
use Rattle.ill_grammar.specs.Standing.{Level, next_at, IsHeld, IsFrameOf, AreFrames}
use Rattle.ill_read.specs.Paths.{text_so_far}
use Rattle.ill_refusals.specs.code.Step.{snoc, with_tree}
use Rattle.ill_grammar.specs.Due.{DueEntry}
use Rattle.ill_grammar.specs.declared.due.Next.{Next}
use Rattle.ill_grammar.specs.declared.due.Next.TheVariants.{Segments}
use Rattle.ill_grammar.specs.declared.element.Element.{Element as CodeElement}
use Rattle.ill_grammar.specs.declared.element.Element.TheVariants.{Leaf, Segment, ModuleLeaf}
use Rattle.ill_grammar.specs.declared.frame.Frame.{Frame}
use Rattle.ill_read.specs.declared.path.Path.{Path}
use Rattle.ill_grammar.proofs.DueElements.{due_element_is}
use Rattle.ill_tables.specs.declared.profile.Profile.{Profile as Named}
use Rattle.ber_leaf.specs.Leaf.{bit_string}
use Rattle.ber_leaf.specs.Segments.{join_bits, segment_tag, tree_bits}
use Rattle.ill_grammar.specs.declared.due.Next.TheVariants.{BitSegments}
use Rattle.ill_grammar.specs.declared.due.Slot.{Slot}
use Rattle.ill_grammar.specs.declared.element.Element.TheVariants.{BitString, BitSegment}
use Rattle.ill_grammar.proofs.BitSegments.{bits_more}
use Rattle.ill_grammar.proofs.OpenFrames.{next_behind}
use Rattle.ill_read.proofs.MoreTrees.{next-added, with_one}
use Rattle.ill_grammar.proofs.ReadLeaves.{module_content, read_content}
use Rattle.ill_read.proofs.Segments.{text_with}
use Rattle.ill_refusals.proofs.Rows.{same_tag-is}

-- a tree that is one of the segments that may come next
abbrev pub IsSegmentOf : Next → Tree → Type 0
IsSegmentOf Segments T = (tag_of T ≡ octet_string) × IsString octet_string T
IsSegmentOf BitSegments T = (tag_of T ≡ segment_tag bit_string) × IsString (segment_tag bit_string) T
IsSegmentOf _ T = ⊥

-- the text with such a segment more
abbrev pub text_after : Next → List ℕ → Tree → List ℕ
text_after BitSegments before T = join_bits before (tree_bits T)
text_after _ before T = before ++ text T

pub is_segment : (n : Next) (T : Tree) (d : DueEntry) → IsDueIn (tag_of T) n d → n ≡ Segments → IsString octet_string T → IsSegmentOf n T
is_segment n T d h e s =
    let k : IsDueIn (tag_of T) Segments d = subst (λ x. IsDueIn (tag_of T) x d) e h in
    subst (λ x. IsSegmentOf x T) (sym e) (same_tag-is (tag_of T) octet_string k.tag, s)

pub is_bit_segment : (n : Next) (T : Tree) (d : DueEntry) → IsDueIn (tag_of T) n d → n ≡ BitSegments → IsString (segment_tag bit_string) T → IsSegmentOf n T
is_bit_segment n T d h e s =
    let k : IsDueIn (tag_of T) BitSegments d = subst (λ x. IsDueIn (tag_of T) x d) e h in
    subst (λ x. IsSegmentOf x T) (sym e) (same_tag-is (tag_of T) (segment_tag bit_string) k.tag, s)

segments_more : (u : Tag) (ts : Trees) (T : Tree) → AreSegments u ts → tag_of T ≡ u → IsString u T → AreSegments u (snoc ts T)
segments_more u none T h e s = (e, s, tt)
segments_more u (more U ts) T h e s = (h.0, h.1, segments_more u ts T h.2 e s)

text_more : (ts : Trees) (T : Tree) → text_all (snoc ts T) ≡ text_all ts ++ text T
text_more none T = append-nil (text T)
text_more (more U ts) T = ap (λ xs. text U ++ xs) (text_more ts T) ∙ sym (append_assoc (text U) (text_all ts) (text T))

-- what a string holds, with a segment more
string_held : (p : Named) (e : CodeElement) (n : Next) (entries : List (Option Content)) (ts : Trees) (T : Tree) → IsHeld p e n entries ts → IsSegmentOf n T → IsHeld p e n entries (snoc ts T)
string_held p (Leaf l) Segments entries ts T h s = (h.0, h.1, segments_more octet_string ts T h.2 s.0 s.1)
string_held p (ModuleLeaf l) Segments entries ts T h s = (h.0, h.1, segments_more octet_string ts T h.2 s.0 s.1)
string_held p Segment Segments entries ts T h s = (h.0, segments_more octet_string ts T h.1 s.0 s.1)
string_held p _ Segments entries ts T h s = absurd h
string_held p BitString BitSegments entries ts T h s = (h.0, segments_more (segment_tag bit_string) ts T h.1 s.0 s.1)
string_held p BitSegment BitSegments entries ts T h s = (h.0, segments_more (segment_tag bit_string) ts T h.1 s.0 s.1)
string_held p _ BitSegments entries ts T h s = absurd h
string_held p _ _ entries ts T h s = absurd s

string_text : (p : Named) (e : CodeElement) (n : Next) (entries : List (Option Content)) (ts : Trees) (T : Tree) (before : List ℕ) → IsHeld p e n entries ts → IsSegmentOf n T
    → text_with (element_is e) before (snoc ts T) ≡ text_after n (text_with (element_is e) before ts) T
string_text p (Leaf l) Segments entries ts T before h s = read_content l (constructed octet_string (snoc ts T)) ∙ text_more ts T ∙ ap (λ x. x ++ text T) (sym (read_content l (constructed octet_string ts)))
string_text p (ModuleLeaf l) Segments entries ts T before h s =
    module_content l (constructed octet_string (snoc ts T)) ∙ text_more ts T ∙ ap (λ x. x ++ text T) (sym (module_content l (constructed octet_string ts)))
string_text p Segment Segments entries ts T before h s = ap (λ xs. before ++ xs) (text_more ts T) ∙ sym (append_assoc before (text_all ts) (text T))
string_text p _ Segments entries ts T before h s = absurd h
string_text p BitString BitSegments entries ts T before h s = bits_more (0 ∷ []) ts T
string_text p BitSegment BitSegments entries ts T before h s = bits_more (join_bits before (0 ∷ [])) ts T
string_text p _ BitSegments entries ts T before h s = absurd h
string_text p _ _ entries ts T before h s = absurd s

stays_in : (n : Next) (slot : Slot) (T : Tree) → IsSegmentOf n T → behind n slot ≡ n
stays_in Segments slot T s = refl
stays_in BitSegments slot T s = refl
stays_in _ slot T s = absurd s

string_frame : (p : Named) (f : Frame) (o : Open) (path : List Open) (outer : List Frame) (entries : List (Option Content)) (T : Tree) (d : DueEntry) → IsFrameOf p f o path outer entries
    → IsDueIn (tag_of T) (shape f.place) d → IsSegmentOf (shape f.place) T → IsFrameOf p f (with_one o T) path outer entries
string_frame p f o path outer entries T d h is s =
    let D = due_element_is (tag_of T) (shape f.place) d is in
    let found : due profile_two (tag_of T) (next_after profile_two (opening profile_two o.element) o.trees) ≡ Some D.0 = ap (due profile_two (tag_of T)) (sym h.next) ∙ D.1 in
    let one_more = next-added (opening profile_two o.element) o.trees T D.0 h.were_due found in
    record {
      element = h.element;
      start = h.start;
      identified = h.identified;
      end = h.end;
      bound = h.bound;
      next = ap next_is (sym (stays_in (shape f.place) d.slot T s)) ∙ sym D.3 ∙ sym one_more.0;
      is_due = h.is_due;
      after = h.after;
      held = string_held p (read_as f.found) (shape f.place) entries o.trees T h.held s;
      were_due = one_more.1;
    }

-- a segment in the string round it
pub segment_added : {D : Type 0} (p : Named) (holds : D → List Level → List ℕ → Type 0) (path : Path D) (place : List Open) (levels : List Level) (d : DueEntry) (T : Tree) (at : ℕ) (rest : List ℕ)
    → path.frames.profile ≡ p → AreFrames p place path.frames.open.items levels → IsDueIn (tag_of T) (next_at p path.frames.open.items) d → IsSegmentOf (next_at p path.frames.open.items) T
    → holds path.draft levels (text_after (next_at p path.frames.open.items) (text_so_far place) T) → IsStep p holds path (Ok false) (with_tree place T at rest)
segment_added p holds path [] levels d T at rest same h is s t = absurd (subst (λ fs. IsSegmentOf (next_at p fs) T) h.0 s)
segment_added p holds path (o ∷ outside) levels d T at rest same h is s t =
    let f = h.1 in
    let k : IsFrameOf p f o outside h.0 h.3 = h.6 in
    let here : next_at p path.frames.open.items ≡ (shape f.place) = ap (next_at p) h.4 ∙ next_behind p h.0 f in
    let due : IsDueIn (tag_of T) (shape f.place) d = subst (λ n. IsDueIn (tag_of T) n d) here is in
    let one : IsSegmentOf (shape f.place) T = subst (λ n. IsSegmentOf n T) here s in
    let joined = string_text p (read_as f.found) (shape f.place) h.3 o.trees T (text_so_far outside) k.held one in
    let as_element = λ (us : Trees). ap (λ x. text_with x (text_so_far outside) us) k.element in
    let text_is : text_after (next_at p path.frames.open.items) (text_so_far (o ∷ outside)) T ≡ text_so_far (with_one o T ∷ outside) =
    ap₂ (λ n x. text_after n x T) here (sym (as_element o.trees)) ∙ sym joined ∙ as_element (snoc o.trees T) in
    (levels, (h.0, f, h.2, h.3, h.4, h.5, string_frame p f o outside h.0 h.3 T d k due one, h.7), subst (λ x. holds path.draft levels x) text_is t, same)
