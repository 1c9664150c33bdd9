-- The content of an element that has ended.
use Rattle.ill_tables.specs.declared.profile.Profile.{Profile as Named}
use Rattle.ill_schema.specs.Profiles.{profile_of}
use Rattle.std.proofs.Common.{◌≡◌, ℕ, List, [], ◌∷◌, ◌++◌, take, map, Option, None, true, IsTrue, refl, sym, ap, subst, ◌∙◌, inl, inr}
use Rattle.ber_core.specs.Foreign.{is_identified}
use Rattle.ber_tree.specs.Tree.{AreSegments, Trees, constructed, none}
use Rattle.ber_leaf.specs.Leaf.{bit_string, value}
use Rattle.ber_leaf.specs.Segments.{segments_content}
use Rattle.ill_schema.specs.Content.{Content, simple}
use Rattle.ill_schema.specs.Content as content
use Rattle.ill_schema.specs.Meaning.{Matches}
use Rattle.ill_tables.specs.Table.{rows_of}
use Rattle.ill_schema.specs.Value.{entries_of, items_of}
use Rattle.ill_tables.specs.declared.node.NodeId.{NodeId}
use Rattle.ill_refusals.specs.Fault.{element_fault, string_fault}
use Rattle.ill_refusals.specs.Next.{missing}
use Rattle.ill_refusals.specs.Place.{Open, next_in}
use Rattle.ill_grammar.specs.Due.{next_is, shape, read_as}
use Rattle.ill_grammar.specs.Elements.{element_is}
use Rattle.ill_grammar.specs.LeafTypes.{leaf_is, module_leaf_is}
use Rattle.ill_read.specs.code.Drafts.{IsContentOf, IsRightText, rows_left}
use Rattle.ill_read.specs.Paths.{text_so_far}
use Rattle.ill_grammar.specs.Standing.{IsHeld, IsFrameOf}
use Rattle.ill_grammar.specs.Contents.{absent_content, IsValueOf}
use Rattle.ill_grammar.specs.declared.due.Next.{Next}
use Rattle.ill_grammar.specs.declared.due.Next.TheVariants.{BitSegments, Foreigns, Rows, Inner, Items, Either, Segments, Root, Nothing}
use Rattle.ill_grammar.specs.declared.element.Element.{Element as CodeElement}
use Rattle.ill_grammar.specs.declared.element.Element.TheVariants.{Leaf, Sequence, List as ListOf, Wrapper, LooseWrapper, Segment, ModuleLeaf, BitString, BitSegment, Foreign}
use Rattle.ill_grammar.specs.declared.element.Wrapped.{Wrapped}
use Rattle.ill_grammar.specs.declared.frame.Frame.{Frame}
use Rattle.ill_grammar.proofs.Entries.{rows_ended}
use Rattle.ill_grammar.proofs.ReadLeaves.{module_segments, read_segments}
use Rattle.ill_read.proofs.Segments.{text_with}

-- the rows of a node as the entries have them
whole_rows : (p : Named) (node own : NodeId) (n : ℕ) (entries : List (Option Content)) (ts : Trees) → own ≡ node → missing (profile_of p) (next_is (Rows own n)) ≡ None
    → Matches (profile_of p) (entries_of entries) (take n (rows_of node)) ts → Matches (profile_of p) (entries_of (entries ++ map absent_content (rows_left (Rows own n)))) (rows_of node) ts
whole_rows p node own n entries ts e m h =
    subst (λ x. Matches (profile_of p) (entries_of (entries ++ map absent_content (rows_left (Rows x n)))) (rows_of node) ts) (sym e)
    (rows_ended p node n entries ts (subst (λ x. missing (profile_of p) (next_is (Rows x n)) ≡ None) e m) h)

-- what an element has in it comes to its content, if its text is right
pub record EndsWith (p : Named) (e : CodeElement) (n : Next) (entries : List (Option Content)) (o : Open) (text : List ℕ) : Type 0 where
  pub content : Content
  pub is : IsContentOf e n entries text content
  pub value : IsRightText p e text → IsValueOf p (element_is e) content (constructed o.tag o.trees)
  pub fault : string_fault (profile_of p) (element_is e) o.trees ≡ element_fault (profile_of p) (element_is e) text

pub content_ended : (p : Named) (e : CodeElement) (n : Next) (entries : List (Option Content)) (o : Open) (before : List ℕ) → IsTrue (is_identified o.tag true) → IsHeld p e n entries o.trees
    → (e ≡ Segment → ⊥) → (e ≡ BitSegment → ⊥) → missing (profile_of p) (next_is n) ≡ None → EndsWith p e n entries o (text_with (element_is e) before o.trees)
content_ended p (Leaf l) Segments entries o before tagged h apart other m =
    let c = simple (value (leaf_is l) (segments_content (leaf_is l) o.trees)) in
    record { content = c; is = refl; value = λ right. ((h.0, subst (λ t. AreSegments t o.trees) (sym (read_segments l)) h.2), right.0, right.1, refl); fault = refl }
content_ended p (ModuleLeaf l) Segments entries o before tagged h apart other m =
    let c = simple (value (module_leaf_is l) (segments_content (module_leaf_is l) o.trees)) in
    record { content = c; is = refl; value = λ right. ((h.0, subst (λ t. AreSegments t o.trees) (sym (module_segments l)) h.2), right.0, right.1, refl); fault = refl }
content_ended p BitString BitSegments entries o before tagged h apart other m =
    let c = simple (value bit_string (segments_content bit_string o.trees)) in
    record { content = c; is = refl; value = λ right. ((refl, h.1), right.0, right.1, refl); fault = refl }
content_ended p (Foreign k) (Foreigns same) entries o before tagged h apart other m =
    record { content = content.foreign (constructed o.tag o.trees); is = (refl, o.tag, o.trees, h.1, refl); value = λ right. (rw tagged h.2, refl); fault = refl }
content_ended p (Sequence node) (Rows own n) entries o before tagged h apart other m =
    let es = entries_of (entries ++ map absent_content (rows_left (Rows own n))) in
    record { content = content.sequence es; is = (refl, refl); value = λ right. (o.tag, o.trees, es, refl, refl, whole_rows p node own n entries o.trees h.0 m h.1); fault = refl }
content_ended p (ListOf node) (Items own) entries o before tagged h apart other m =
    record { content = content.list (items_of h.1); is = (refl, h.1, h.2, refl); value = λ right. (o.tag, o.trees, items_of h.1, refl, refl, h.3); fault = refl }
content_ended p (Wrapper w) (Inner own) entries o before tagged h apart other m = absurd cc
content_ended p (Wrapper w) (Root own) entries o before tagged h apart other m = absurd cc
content_ended p (Wrapper w) Nothing entries o before tagged h apart other m =
    record { content = h.0; is = (refl, h.2); value = λ right. (o.tag, h.1, ap (constructed o.tag) h.3, h.4); fault = refl }
content_ended p (LooseWrapper w) (Either own) entries o before tagged h apart other m =
    let es = entries_of (entries ++ map absent_content (rows_left (Either own))) in
    let rows = whole_rows p w.node own.node 0 [] none (ap (λ (x : Wrapped). x.node) h.0) m refl in
    let whole : Matches (profile_of p) es (rows_of w.node) o.trees = subst (λ xs. Matches (profile_of p) (entries_of (xs ++ map absent_content (rows_left (Either own)))) (rows_of w.node) o.trees) (sym h.1)
    (subst (λ us. Matches (profile_of p) (entries_of (map absent_content (rows_left (Either own)))) (rows_of w.node) us) (sym h.2) rows) in
    record { content = content.sequence es; is = (refl, refl); value = λ right. inr (o.tag, o.trees, es, refl, refl, whole); fault = refl }
content_ended p (LooseWrapper w) (Rows own n) entries o before tagged h apart other m =
    let es = entries_of (entries ++ map absent_content (rows_left (Rows own n))) in
    record { content = content.sequence es; is = (refl, refl); value = λ right. inr (o.tag, o.trees, es, refl, refl, whole_rows p w.node own n entries o.trees h.0 m h.1); fault = refl }
content_ended p (LooseWrapper w) Nothing entries o before tagged h apart other m =
    record { content = h.0; is = (refl, h.2); value = λ right. inl (o.tag, h.1, ap (constructed o.tag) h.3, h.4); fault = refl }
content_ended p Segment n entries o before tagged h apart other m = absurd (apart refl)
content_ended p BitSegment n entries o before tagged h apart other m = absurd (other refl)
content_ended p _ _ entries o before tagged h apart other m = absurd h

-- of the innermost open element
pub frame_ended : (p : Named) (f : Frame) (o : Open) (path : List Open) (outer : List Frame) (entries : List (Option Content)) → IsFrameOf p f o path outer entries → (read_as f.found ≡ Segment → ⊥)
    → (read_as f.found ≡ BitSegment → ⊥) → missing (profile_of p) (next_in (profile_of p) (o ∷ path)) ≡ None → EndsWith p (read_as f.found) (shape f.place) entries o (text_so_far (o ∷ path))
frame_ended p f o path outer entries k apart other m =
    subst (λ x. EndsWith p (read_as f.found) (shape f.place) entries o (text_with x (text_so_far path) o.trees)) k.element
    (content_ended p (read_as f.found) (shape f.place) entries o (text_so_far path) k.identified k.held apart other (ap (missing (profile_of p)) k.next ∙ m))
