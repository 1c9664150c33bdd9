-- The values that a draft holds, as elements open, are read and end.
use Rattle.ill_tables.specs.declared.profile.Profile.TheVariants.{Two}
use Rattle.std.proofs.Common.{◌≡◌, ℕ, List, [], ◌∷◌, ◌++◌, length, map, append_assoc, append-nil, Option, Some, None, Ok, IsTrue, refl, sym, ap, ap₂, subst, ◌∙◌, option_map}
use Rattle.std.proofs.lemmas.List.{map-append}
use Rattle.ber_core.specs.Id.{tag_of_id}
use Rattle.ber_tree.specs.Identifier.{Tag}
use Rattle.ber_tree.specs.Octets.{are_octets}
use Rattle.ber_tree.specs.Tree.{Trees}
use Rattle.ber_leaf.specs.Leaf.{value, content_fault}
use Rattle.ber_leaf.specs.Profile.{profile_two}
use Rattle.ill_schema.specs.Content.{Content, simple}
use Rattle.ill_schema.specs.Content as content
use Rattle.ill_schema.specs.Value.{content_of, items_of}
use Rattle.ill_tables.specs.declared.node.NodeId.{NodeId}
use Rattle.ill_schema.specs.declared.value.Value.{Value}
use Rattle.ill_grammar.specs.Elements.{is_two_element}
use Rattle.ill_grammar.specs.LeafTypes.{leaf_is}
use Rattle.ill_read.proofs.OpenedElements.{opened_same}
use Rattle.ill_read.specs.code.Drafts.{HasOpened, IsContentOf, IsRightText, rows_before, with_entry}
use Rattle.ill_read.specs.code.OpenValues.{EndsExactly, HasAdded, IsFound, IsLast, IsList}
use Rattle.ill_grammar.specs.Standing.{Level, level_of, whole_level, IsHeld}
use Rattle.ill_read.specs.Paths.{AreHeld, AreValues}
use Rattle.ill_grammar.specs.Contents.{absent_content}
use Rattle.ill_grammar.specs.declared.due.Next.{Next}
use Rattle.ill_grammar.specs.declared.due.Next.TheVariants.{Segments, Nothing}
use Rattle.ill_grammar.specs.declared.due.Slot.{Slot}
use Rattle.ill_grammar.specs.declared.element.Element.{Element as CodeElement}
use Rattle.ill_grammar.specs.declared.element.Element.TheVariants.{Leaf, List as ListOf, Wrapper, LooseWrapper, Segment, BitSegment}
use Rattle.ill_grammar.specs.declared.element.Wrapped.{Wrapped}
use Rattle.ill_grammar.specs.declared.frame.Frame.{Frame}
use Rattle.ill_grammar.specs.declared.judge.ConstructedElement.{ConstructedElement}
use Rattle.ill_grammar.specs.declared.leaf_type.LeafType.{LeafType}
use Rattle.ill_read.specs.declared.value_draft.ValueDraft.{ValueDraft}
use Rattle.ill_grammar.specs.Due.{shape, first_of, read_as}

-- an element that opens has no entries
pub values_opened : (v : ValueDraft) (next : Next) (opening : ConstructedElement) (contents_start : ℕ) → IsTrue (is_two_element (read_as opening.found)) → contents_start ≡ length v.held.entries.items → HasOpened AreValues v next opening contents_start v
values_opened v next opening contents_start two e levels text h is inside =
    subst (λ t. AreValues v (elim (read_as opening.found) as (λ _. List Level) [ Segment ↦ levels | BitSegment ↦ levels | _ ↦ l ∷ levels ]) t) (sym (opened_same (read_as opening.found) text two)) (go (read_as opening.found))
  where
    l : Level
    l = record { element = (read_as opening.found); tag = tag_of_id opening.id; next = first_of (read_as opening.found); contents_start = contents_start; entries = [] }

    more : AreValues v (l ∷ levels) text
    more = record { held = (v.held.entries.items, [], sym (append-nil v.held.entries.items), e, refl, h.held); text = h.text }

    go : (x : CodeElement) → AreValues v (elim x as (λ _. List Level) [ Segment ↦ levels | BitSegment ↦ levels | _ ↦ l ∷ levels ]) text
    go Segment = h
    go BitSegment = h
    go _ = more

-- an element's value is one entry more
pub values_added : (old new : ValueDraft) (l : Level) (below : List Level) (next : Next) (slot : Slot) (v : Value) (c : Content) → AreHeld (l ∷ below) old.held.entries.items → l.next ≡ next
    → content_of v ≡ c → HasAdded (rows_before next slot) v old.held.entries.items new.held.entries.items → new.text.items ≡ [] → AreValues new (with_entry l slot c ∷ below) []
values_added old new l below next slot v c h e is added text =
    let f : Option Value → Option Content = option_map content_of in
    let more = added.entries ++ Some v ∷ [] in
    let passed : map f more ≡ map absent_content (rows_before l.next slot) ++ Some c ∷ [] =
    map-append f added.entries (Some v ∷ []) ∙ ap₂ (λ (xs : List (Option Content)) (x : Content). xs ++ Some x ∷ []) (added.are ∙ ap (λ n. map absent_content (rows_before n slot)) (sym e)) is in
    record {
      held = (
        h.0,
        h.1 ++ more,
        added.added ∙ ap (λ xs. xs ++ more) h.2 ∙ append_assoc h.0 h.1 more,
        h.3,
        map-append f h.1 more ∙ ap₂ (λ (xs ys : List (Option Content)). xs ++ ys) h.4 passed,
        h.5,
      );
      text = text;
    }

-- the entries that were taken leave those below
left : (new : ValueDraft) (below : List Level) (under : List (Option Value)) → AreHeld below under → new.held.entries.items ≡ under → new.text.items ≡ [] → AreValues new below []
left new below under h e text = record { held = subst (AreHeld below) (sym e) h; text = text }

-- entries that are all there are values
all_there : (es : List (Option Value)) (cs : List Content) → map (option_map content_of) es ≡ map Some cs → (vs : List Value) × (es ≡ map Some vs) × (map content_of vs ≡ cs)
all_there [] [] e = ([], refl, refl)
all_there [] (c ∷ cs) e = absurd cc
all_there (x ∷ es) [] e = absurd cc
all_there (None ∷ es) (c ∷ cs) e = absurd cc
all_there (Some v ∷ es) (c ∷ cs) e =
    let r = all_there es cs (let q : map (option_map content_of) es ≡ map Some cs = cc in q) in
    let is : content_of v ≡ c = cc in
    (v ∷ r.0, ap (λ xs. Some v ∷ xs) r.1, ap₂ (λ (x : Content) (xs : List Content). x ∷ xs) is r.2)

pub list_ends : (old new : ValueDraft) (f : Frame) (v : Value) (node : NodeId) → read_as f.found ≡ ListOf node → IsList f.contents_start v old.held.entries.items new.held.entries.items → new.text.items ≡ old.text.items
    → EndsExactly old f new (Ok (Some v))
list_ends old new f v node is s same tag entries below text h =
    subst (λ x. IsRightText Two x text × ((trees : Trees) (c : Content) → IsHeld Two x (shape f.place) entries trees → IsContentOf x (shape f.place) entries text c → IsFound (Some v) c × AreValues new below [])) (sym is) (
      tt,
      λ trees c held k.
          let x = h.held in
          let there = all_there x.1 k.1 (x.4 ∙ k.2) in
          let taken = s x.0 there.0 (x.2 ∙ ap (λ xs. x.0 ++ xs) there.1) (sym x.3) in
          (taken.1 ∙ ap (λ cs. content.list (items_of cs)) there.2 ∙ sym k.3, left new below x.0 x.5 taken.0 (same ∙ h.text ∙ k.0)),
    )

-- the one entry is a value
one_there : (es : List (Option Value)) (c : Content) → map (option_map content_of) es ≡ Some c ∷ [] → (v : Value) × (es ≡ Some v ∷ []) × (content_of v ≡ c)
one_there (Some v ∷ []) c e = (v, refl, let q : content_of v ≡ c = cc in q)
one_there (Some v ∷ x ∷ es) c e = absurd cc
one_there _ c e = absurd cc

last_left : (old new : ValueDraft) (f : Frame) (tag : Tag) (entries : List (Option Content)) (below : List Level) (text : List ℕ) (found : Option Value) (c : Content)
    → AreValues old (level_of f tag entries ∷ below) text → IsLast found old.held.entries.items new.held.entries.items → new.text.items ≡ old.text.items → text ≡ [] → entries ≡ Some c ∷ []
    → IsFound found c × AreValues new below []
last_left old new f tag entries below text found c h s same empty is =
    let x = h.held in
    let there = one_there x.1 c (x.4 ∙ is) in
    let taken = s x.0 (Some there.0) (x.2 ∙ ap (λ xs. x.0 ++ xs) there.1) in
    (subst (λ y. IsFound y c) (sym taken.0) there.2, left new below x.0 x.5 taken.1 (same ∙ h.text ∙ empty))

pub wrapper_ends : (old new : ValueDraft) (f : Frame) (found : Option Value) (w : Wrapped) → read_as f.found ≡ Wrapper w → IsLast found old.held.entries.items new.held.entries.items
    → new.text.items ≡ old.text.items → EndsExactly old f new (Ok found)
wrapper_ends old new f found w is s same tag entries below text h =
    subst (λ x. IsRightText Two x text × ((trees : Trees) (c : Content) → IsHeld Two x (shape f.place) entries trees → IsContentOf x (shape f.place) entries text c → IsFound found c × AreValues new below [])) (sym is)
    (tt, λ trees c held k. last_left old new f tag entries below text found c h s same k.0 k.1)

pub loose_wrapper_ends : (old new : ValueDraft) (f : Frame) (found : Option Value) (w : Wrapped) → read_as f.found ≡ LooseWrapper w → (shape f.place) ≡ Nothing
    → IsLast found old.held.entries.items new.held.entries.items → new.text.items ≡ old.text.items → EndsExactly old f new (Ok found)
loose_wrapper_ends old new f found w is nothing s same tag entries below text h =
    subst (λ x. IsRightText Two x text × ((trees : Trees) (c : Content) → IsHeld Two x (shape f.place) entries trees → IsContentOf x (shape f.place) entries text c → IsFound found c × AreValues new below [])) (sym is) (
      tt,
      λ trees c held k.
          let q : (text ≡ []) × (entries ≡ Some c ∷ []) = subst (λ n. IsContentOf (LooseWrapper w) n entries text c) nothing k in
          last_left old new f tag entries below text found c h s same q.0 q.1,
    )

-- a string has no entries
string_none : (l : LeafType) (n : Next) (entries : List (Option Content)) (ts : Trees) → IsHeld Two (Leaf l) n entries ts → entries ≡ []
string_none l Segments entries ts h = h.1
string_none l _ entries ts h = absurd h

no_entries : (es : List (Option Value)) (entries : List (Option Content)) → map (option_map content_of) es ≡ entries → entries ≡ [] → es ≡ []
no_entries [] entries e n = refl
no_entries (x ∷ es) entries e n = absurd (let q : map (option_map content_of) (x ∷ es) ≡ [] = e ∙ n in cc)

pub string_ends : (old new : ValueDraft) (f : Frame) (v : Value) (l : LeafType) (octets : List ℕ) → read_as f.found ≡ Leaf l → octets ≡ old.text.items → IsTrue (are_octets octets)
    → content_fault profile_two (leaf_is l) octets ≡ None → content_of v ≡ simple (value (leaf_is l) octets) → new.held.entries.items ≡ old.held.entries.items → new.text.items ≡ []
    → EndsExactly old f new (Ok (Some v))
string_ends old new f v l octets is same ok right value_is kept empty tag entries below text h =
    let joined : octets ≡ text = same ∙ h.text in
    subst (λ x. IsRightText Two x text × ((trees : Trees) (c : Content) → IsHeld Two x (shape f.place) entries trees → IsContentOf x (shape f.place) entries text c → IsFound (Some v) c × AreValues new below [])) (sym is) (
      (subst (λ o. IsTrue (are_octets o)) joined ok, subst (λ o. content_fault profile_two (leaf_is l) o ≡ None) joined right),
      λ trees c held k.
          let x = h.held in
          let none = no_entries x.1 entries x.4 (string_none l (shape f.place) entries trees held) in
          (value_is ∙ ap (λ o. simple (value (leaf_is l) o)) joined ∙ sym k, left new below x.0 x.5 (kept ∙ x.2 ∙ ap (λ xs. x.0 ++ xs) none ∙ append-nil x.0) empty),
    )

-- the value of a message
pub body_there : (old new : ValueDraft) (found : Option Value) (c : Content) → AreValues old (whole_level Two c ∷ []) [] → IsLast found old.held.entries.items new.held.entries.items
    → (v : Value) × (found ≡ Some v) × (content_of v ≡ c)
body_there old new found c h s =
    let x = h.held in
    let there = one_there x.1 c x.4 in
    let taken = s x.0 (Some there.0) (x.2 ∙ ap (λ xs. x.0 ++ xs) there.1) in
    (there.0, taken.0, there.2)
