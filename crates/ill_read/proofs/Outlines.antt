-- The marks that an outline has, as elements open, are read and end.
use Rattle.std.proofs.lemmas.List.{map-append}
use Rattle.ill_grammar.specs.Elements.{element_is}
use Rattle.ill_tables.specs.declared.profile.Profile.TheVariants.{Module, Two}
use Rattle.ill_tables.specs.declared.profile.Profile.{Profile as Named}
use Rattle.ill_schema.specs.Profiles.{profile_of}
use Rattle.ill_schema.specs.Meaning.{Means}
use Rattle.ill_schema.specs.Tagging.{leaf_of, untagged}
use Rattle.ill_tables.specs.declared.node.Kind.{Kind}
use Rattle.ber_core.specs.Der.{encoding}
use Rattle.ber_core.specs.Foreign.{foreign_levels, is_foreign}
use Rattle.ber_tree.specs.Tree.{Tree}
use Rattle.ber_leaf.specs.Segments.{join_bits}
use Rattle.ber_leaf.specs.Leaf.{Leaf as LeafKind, bit_string}
use Rattle.std.proofs.Common.{◌⊎◌, ap₂}
use Rattle.std.proofs.Math.Seq.{drop-append_seam}
use Rattle.ill_grammar.specs.Contents.{IsValueOf}
use Rattle.ill_grammar.specs.Begun.{Begun}
use Rattle.ill_grammar.specs.LeafTypes.{IsContentIn, module_leaf_is}
use Rattle.ill_grammar.specs.Standing.{level_of, top_part}
use Rattle.ill_grammar.proofs.DueTags.{AwaitsForeign, IsForeign, awaited, foreign_due}
use Rattle.ill_grammar.proofs.Meanings.{closed}
use Rattle.ill_read.specs.declared.normal_form_draft.NormalFormDraft.{NormalFormDraft}
use Rattle.std.proofs.Common.{IsTrue, ◌≡◌, ℕ, List, [], ◌∷◌, ◌++◌, length, map, append_assoc, append-nil, Option, Some, None, refl, sym, ap, subst, ◌∙◌, inl, inr, true, false, Bool}
use Rattle.std.proofs.lemmas.Option.{slice_get_cases}
use Rattle.ber_core.specs.Id.{tag_of_id}
use Rattle.ber_tree.specs.Identifier.{Tag}
use Rattle.ber_tree.specs.Tree.{Trees, tag_of}
use Rattle.ber_leaf.specs.Leaf.{value}
use Rattle.ber_leaf.specs.Simple.{Simple}
use Rattle.ill_schema.specs.Apdu.{Apdu, choice_of}
use Rattle.ill_schema.specs.Content.{Content, simple}
use Rattle.ill_schema.specs.Content as content
use Rattle.ill_schema.specs.Presence.{default_value}
use Rattle.ill_tables.specs.Table.{kind_of, rows_of}
use Rattle.ill_schema.specs.Value.{entries_of, items_of}
use Rattle.ill_tables.specs.declared.node.NodeId.{NodeId}
use Rattle.ill_tables.specs.declared.part.PartId.{PartId}
use Rattle.ill_tables.specs.declared.part.Presence.{Presence}
use Rattle.ill_tables.specs.declared.part.Row.{Row}
use Rattle.ill_grammar.specs.Places.{alternative_of}
use Rattle.ill_grammar.specs.Due.{IsDueIn, behind, shape, first_of, read_as, slot_in}
use Rattle.ill_grammar.specs.LeafTypes.{leaf_is}
use Rattle.ill_grammar.specs.Outline.{AreEntries, AreItems, IsMarked, leaf_marked, octets_marks}
use Rattle.ill_grammar.specs.Standing.{Level, IsHeld}
use Rattle.ill_grammar.specs.Contents.{with_alternative, absent_content}
use Rattle.ill_read.specs.code.Drafts.{HasBits, HasModuleElement, IsModuleElement, IsPrimitiveOf, IsRightContent, text_opened, IsNoSegment, HasOpened, HasClosed, HasLeaf, HasText, HoldsApdu, HasEnded, IsContentOf, IsDueAt, IsOpeningIn, IsRightText, rows_before, rows_left, with_entry}
use Rattle.ill_grammar.specs.Due.{due_with}
use Rattle.ill_read.specs.code.OctetDrafts.{AreNormal, AreOctets, AreWritten, IsBehind, innermost, written}
use Rattle.ill_grammar.specs.Cells.{is_any}
use Rattle.ill_read.specs.code.Outlines.{AreFronts, ArePreceded, AreOutlined, AreOwn, AreOwnAs, AreAbsent, HasPreceding, HasMarksAndForm, HasAbsent, HasEnding, IsPreceded, alternative_marks, first_marks, foreign_marks, held_marks, is_open_type, last_marks, late_marks, start_marks, text_marks}
use Rattle.ill_grammar.specs.declared.due.Next.{Next}
use Rattle.ill_grammar.specs.declared.due.Next.TheVariants.{Rows, Inner, Items, Either, Segments, BitSegments, Foreigns, Nothing, Root}
use Rattle.ill_grammar.specs.declared.due.Slot.{Slot}
use Rattle.ill_grammar.specs.declared.due.Slot.TheVariants.{Row as AtRow}
use Rattle.ill_grammar.specs.declared.element.Element.{Element as CodeElement}
use Rattle.ill_grammar.specs.declared.element.Element.TheVariants.{Leaf, Sequence, List as ListOf, Wrapper, LooseWrapper, Segment, ModuleLeaf, BitString, BitSegment, Foreign}
use Rattle.ill_grammar.specs.declared.element.Wrapped.{Wrapped}
use Rattle.ill_grammar.specs.declared.frame.Frame.{Frame}
use Rattle.ill_grammar.specs.declared.judge.ConstructedElement.{ConstructedElement}
use Rattle.ill_grammar.specs.declared.judge.PrimitiveElement.{PrimitiveElement}
use Rattle.ill_grammar.specs.declared.leaf_type.LeafType.{LeafType}
use Rattle.ill_grammar.specs.declared.outline.Mark.{Mark}
use Rattle.ill_grammar.specs.declared.outline.Mark.TheVariants as mark
use Rattle.ill_read.specs.declared.outline_draft.OutlineDraft.{OutlineDraft}
use Rattle.ill_read.proofs.DeliveredEntries.{pushed_apart, pushed_segment}
use Rattle.ill_read.proofs.HeldEntries.{drop-take-more}
use Rattle.ill_grammar.specs.declared.place.Found.{Found}
use Rattle.ill_read.specs.code.Drafts.{HasString, WrapsString}
use Rattle.ill_read.proofs.AddedEntries.{one_due}
use Rattle.ill_read.proofs.StringsInTags.{wrapped_of}
use Rattle.std.proofs.Common.{suc, ◌+◌, ◌<◌, ◌≤◌, take, drop, slice_get, arith}

-- ---- rows that are passed

passed_join : (xs ys : List Row) (a b : List Mark) → AreAbsent xs a → AreAbsent ys b → AreAbsent (xs ++ ys) (a ++ b)
passed_join [] ys a b h k = subst (λ ms. AreAbsent ys (ms ++ b)) (sym h) k
passed_join (x ∷ xs) ys a b h k = (h.0, h.1 ++ b, ap (λ ms. ms ++ b) h.2, h.3, passed_join xs ys h.1 b h.4 k)

-- one more row is passed
pub passed_more : (node : NodeId) (from n : ℕ) (old mid new : List Mark) → from ≤ n → n < length (rows_of node) → HasAbsent [] (drop from (take n (rows_of node))) old mid
    → new ≡ mid ++ mark.Absent (record { node = node; row = n }) ∷ [] → HasAbsent [] (drop from (take (n + 1) (rows_of node))) old new
passed_more node from n old mid new h within p a =
    let s : n + 1 ≡ suc n = omega arith in
    let part = mark.Absent (record { node = node; row = n }) in
    let r = row_there (rows_of node) n within in
    let more : drop from (take (n + 1) (rows_of node)) ≡ drop from (take n (rows_of node)) ++ r.0 ∷ [] = ap (λ i. drop from (take i (rows_of node))) s ∙ drop-take-more from n (rows_of node) r.0 h r.1 in
    record {
      marks = p.marks ++ part ∷ [];
      added = a ∙ ap (λ xs. xs ++ part ∷ []) p.added ∙ append_assoc old p.marks (part ∷ []);
      are = subst (λ rows. AreAbsent rows (p.marks ++ part ∷ [])) (sym more) (passed_join _ (r.0 ∷ []) p.marks (part ∷ []) p.are (record { node = node; row = n }, [], refl, r.1, refl));
    }
  where
    row_there : (rows : List Row) (k : ℕ) → k < length rows → (row : Row) × (slice_get rows k ≡ Some row)
    row_there rows k h = elim (slice_get_cases rows k).1 [ inl x ↦ (x.0, x.2) | inr x ↦ absurd (omega (arith, h, x.0)) ]

-- ---- the entries of a value

pub entries_join : (xs ys : List (Option Content)) (a b : List Mark) → AreEntries (entries_of xs) a → AreEntries (entries_of ys) b → AreEntries (entries_of (xs ++ ys)) (a ++ b)
entries_join [] ys a b h k = subst (λ ms. AreEntries (entries_of ys) (ms ++ b)) (sym h) k
entries_join (None ∷ xs) ys a b h k = (h.0, h.1 ++ b, ap (λ ms. ms ++ b) h.2, h.3, entries_join xs ys h.1 b h.4 k)
entries_join (Some c ∷ xs) ys a b h k = (h.0, h.1 ++ b, ap (λ ms. ms ++ b) h.2 ∙ append_assoc h.0 h.1 b, h.3, entries_join xs ys h.1 b h.4 k)

-- a default is a leaf
default_leaf : (p : Presence) (node : NodeId) (c : Content) → (elim p as (λ _. Option Content) [ Presence.Default d ↦ Some (simple (default_value (kind_of node) d)) | _ ↦ None ]) ≡ Some c
    → (v : Simple) × (c ≡ simple v)
default_leaf (Presence.Default d) node c e = let q : simple (default_value (kind_of node) d) ≡ c = cc in (default_value (kind_of node) d, sym q)
default_leaf _ node c e = absurd cc

passed_entry : (row : Row) (e : Option Content) (es : List (Option Content)) (part : PartId) (rest ms : List Mark) → ms ≡ mark.Absent part ∷ rest → slice_get (rows_of part.node) part.row ≡ Some row → absent_content row ≡ e
    → AreEntries (entries_of es) rest → AreEntries (entries_of (e ∷ es)) ms
passed_entry row None es part rest ms is at q h = (part, rest, is, (row, at, q), h)
passed_entry row (Some c) es part rest ms is at q h =
    let s = default_leaf row.presence row.node c q in
    (mark.Absent part ∷ [], rest, is, subst (λ x. IsMarked x (mark.Absent part ∷ [])) (sym s.1) (inr (part, refl, (row, at, q ∙ ap (λ x. Some x) s.1))), h)

pub passed_entries : (rows : List Row) (ms : List Mark) → AreAbsent rows ms → AreEntries (entries_of (map absent_content rows)) ms
passed_entries [] ms h = h
passed_entries (row ∷ rows) ms h = passed_entry row (absent_content row) (map absent_content rows) h.0 h.1 ms h.2 h.3 refl (passed_entries rows h.1 h.4)

pub entry_added : (entries : List (Option Content)) (rows : List Row) (c : Content) (own p x : List Mark) → AreEntries (entries_of entries) own → AreAbsent rows p → IsMarked c x
    → AreEntries (entries_of (entries ++ (map absent_content rows ++ Some c ∷ []))) (own ++ (p ++ x))
entry_added entries rows c own p x h k m =
    entries_join entries (map absent_content rows ++ Some c ∷ []) own (p ++ x) h (entries_join (map absent_content rows) (Some c ∷ []) p x (passed_entries rows p k) (x, [], sym (append-nil x), m, refl))

pub as_items : (items : List Content) (ms : List Mark) → AreEntries (entries_of (map Some items)) ms → AreItems (items_of items) ms
as_items [] ms h = h
as_items (c ∷ items) ms h = (h.0, h.1, h.2, h.3, as_items items h.1 h.4)

-- the one entry
pub only_entry : (c : Content) (ms : List Mark) → AreEntries (entries_of (Some c ∷ [])) ms → IsMarked c ms
only_entry c ms h = subst (IsMarked c) (sym (h.2 ∙ ap (λ r. h.0 ++ r) h.4 ∙ append-nil h.0)) h.3

pub chosen : (n : Option ℕ) (c : Content) (ms : List Mark) → IsMarked c ms → IsMarked (with_alternative n c) (alternative_marks n ++ ms)
chosen None c ms h = h
chosen (Some n) c ms h = (ms, refl, h)

-- ---- an element that ends

abbrev whole_marks : Next → CodeElement → List Mark → List Mark → List Mark → List Mark
whole_marks n e own inside rows = first_marks n e ++ ((own ++ inside) ++ (late_marks n ++ (rows ++ last_marks n)))

joined_marks : (text : List ℕ) (own rows last : List Mark) → text ≡ [] → (own ++ map mark.Octet text) ++ (rows ++ last) ≡ (own ++ rows) ++ last
joined_marks text own rows last e = ap (λ t. (own ++ map mark.Octet t) ++ (rows ++ last)) e ∙ ap (λ x. x ++ (rows ++ last)) (append-nil own) ∙ sym (append_assoc own rows last)

sequence_marked : (entries : List (Option Content)) (left : List Row) (text : List ℕ) (c : Content) (own rows : List Mark) → text ≡ [] → c ≡ content.sequence (entries_of (entries ++ map absent_content left))
    → AreEntries (entries_of entries) own → AreAbsent left rows → IsMarked c (mark.Sequence ∷ ((own ++ map mark.Octet text) ++ (rows ++ mark.End ∷ [])))
sequence_marked entries left text c own rows none is h k =
    subst (λ x. IsMarked x (mark.Sequence ∷ ((own ++ map mark.Octet text) ++ (rows ++ mark.End ∷ [])))) (sym is)
    (own ++ rows, ap (λ ms. mark.Sequence ∷ ms) (joined_marks text own rows (mark.End ∷ []) none), entries_join entries (map absent_content left) own rows h (passed_entries left rows k))

list_marked : (entries : List (Option Content)) (items : List Content) (text : List ℕ) (c : Content) (own rows : List Mark) → text ≡ [] → entries ≡ map Some items → c ≡ content.list (items_of items)
    → AreEntries (entries_of entries) own → rows ≡ [] → IsMarked c (mark.List ∷ ((own ++ map mark.Octet text) ++ (rows ++ mark.End ∷ [])))
list_marked entries items text c own rows none es is h k =
    subst (λ x. IsMarked x (mark.List ∷ ((own ++ map mark.Octet text) ++ (rows ++ mark.End ∷ [])))) (sym is) (
      own,
      ap (λ ms. mark.List ∷ ms) (joined_marks text own rows (mark.End ∷ []) none ∙ ap (λ r. (own ++ r) ++ mark.End ∷ []) k ∙ ap (λ x. x ++ mark.End ∷ []) (append-nil own)),
      as_items items own (subst (λ xs. AreEntries (entries_of xs) own) es h),
    )

part_marked : (entries : List (Option Content)) (text : List ℕ) (c : Content) (own rows : List Mark) → text ≡ [] → entries ≡ Some c ∷ [] → AreEntries (entries_of entries) own → rows ≡ []
    → IsMarked c ((own ++ map mark.Octet text) ++ (rows ++ []))
part_marked entries text c own rows none es h k =
    subst (IsMarked c) (sym (joined_marks text own rows [] none ∙ append-nil (own ++ rows) ∙ ap (λ r. own ++ r) k ∙ append-nil own)) (only_entry c own (subst (λ xs. AreEntries (entries_of xs) own) es h))

string_marked : (p : Named) (first : Mark) (l : LeafKind) (entries : List (Option Content)) (text : List ℕ) (c : Content) (own rows : List Mark) → leaf_marked first ≡ Some l → entries ≡ [] → IsContentIn p l text
    → c ≡ simple (value l text) → AreEntries (entries_of entries) own → rows ≡ [] → IsMarked c (first ∷ ((own ++ map mark.Octet text) ++ (rows ++ mark.End ∷ [])))
string_marked p first l entries text c own rows begins none right is h k =
    let own_none : own ≡ [] = subst (λ xs. AreEntries (entries_of xs) own) none h in
    subst (λ x. IsMarked x (first ∷ ((own ++ map mark.Octet text) ++ (rows ++ mark.End ∷ [])))) (sym is)
    (inl (record {
      first = first;
      leaf = l;
      octets = text;
      profile = p;
      begins = begins;
      are = ap (λ o. first ∷ ((o ++ map mark.Octet text) ++ (rows ++ mark.End ∷ []))) own_none ∙ ap (λ r. first ∷ (map mark.Octet text ++ (r ++ mark.End ∷ []))) k;
      content = right;
      holds = refl;
    }))

-- ---- wrappers of open types, and what is in them

own_none : (b : Bool) (entries : List (Option Content)) (own : List Mark) → entries ≡ [] → AreOwnAs b entries own → own ≡ []
own_none true entries own e h = h
own_none false entries own e h = subst (λ xs. AreEntries (entries_of xs) own) e h

pub none_own : (b : Bool) → AreOwnAs b [] []
none_own true = refl
none_own false = refl

any_is : (k : Kind) → is_any k ≡ true → k ≡ Kind.Any
any_is Kind.Any e = refl
any_is _ e = cc

-- an element of a foreign tree may come next in what its marks wait for, and nothing else may
awaits_open : (p : Named) (e : CodeElement) (n : Next) (entries : List (Option Content)) (ts : Trees) → IsHeld p e n entries ts → AwaitsForeign n → is_open_type e ≡ true
awaits_open p (Foreign m) (Foreigns k) entries ts h o = refl
awaits_open p (Wrapper w) (Root same) entries ts h o = ap is_any (subst (λ (x : Wrapped). kind_of x.node ≡ Kind.Any) h.0 o)
awaits_open p _ (Foreigns k) entries ts h o = absurd h
awaits_open p _ (Root same) entries ts h o = absurd h
awaits_open p _ _ entries ts h o = absurd o

open_awaits : (p : Named) (e : CodeElement) (n : Next) (entries : List (Option Content)) (ts : Trees) (t : Tag) (s : Slot) (a : Option ℕ) (el : CodeElement) → is_open_type e ≡ true → IsHeld p e n entries ts → IsDueIn t n (due_with s a el) → AwaitsForeign n
open_awaits p (Foreign m) (Foreigns k) entries ts t s a el q h d = tt
open_awaits p (Foreign m) _ entries ts t s a el q h d = absurd h
open_awaits p (Wrapper w) (Root same) entries ts t s a el q h d = d.0
open_awaits p (Wrapper w) (Inner same) entries ts t s a el q h d = absurd (closed t same a (Begun.Element el) d.begun (subst (λ (x : Wrapped). kind_of x.node ≡ Kind.Any) (sym h.0) (any_is (kind_of w.node) q)))
open_awaits p (Wrapper w) Nothing entries ts t s a el q h d = absurd d
open_awaits p (Wrapper w) _ entries ts t s a el q h d = absurd h
open_awaits p _ n entries ts t s a el q h d = absurd cc

no_rows : (n : Next) (slot : Slot) → AwaitsForeign n → rows_before n slot ≡ []
no_rows (Root w) slot o = refl
no_rows (Foreigns m) slot o = refl
no_rows _ slot o = absurd o

-- the marks that an element's entry has: none, where it is of a foreign tree
abbrev IsEntryMarked : CodeElement → Content → List Mark → Type 0
IsEntryMarked (Foreign m) c ms = ms ≡ []
IsEntryMarked _ c ms = IsMarked c ms

foreign_entry : (el : CodeElement) (c : Content) (ms : List Mark) → IsForeign (element_is el) → IsEntryMarked el c ms → ms ≡ []
foreign_entry (Foreign m) c ms f h = h
foreign_entry _ c ms f h = absurd (let q = f.1 in cc)

-- in what isn't of an open type, the entry's marks say its content
entry_says : (p : Named) (e : CodeElement) (n : Next) (entries : List (Option Content)) (ts : Trees) (t : Tag) (s : Slot) (a : Option ℕ) (el : CodeElement) (c : Content) (ms : List Mark) → is_open_type e ≡ false → IsHeld p e n entries ts → IsDueIn t n (due_with s a el)
    → IsEntryMarked el c ms → IsMarked c ms
entry_says p e n entries ts t s a (Foreign m) c ms q h d k =
    let both : true ≡ false = sym (awaits_open p e n entries ts h (foreign_due t n (due_with s a (Foreign m)) m d refl)) ∙ q in absurd cc
entry_says p e n entries ts t s a _ c ms q h d k = k

-- what an open type holds is a foreign tree
open_holds : (p : Named) (c : Content) (node : NodeId) (U : Tree) → kind_of node ≡ Kind.Any → Means (profile_of p) c node untagged U → (c ≡ content.foreign U) × IsTrue (is_foreign foreign_levels U)
open_holds p (simple v) node U k h = absurd (let q : None ≡ Some h.0 = subst (λ x. leaf_of x v ≡ Some h.0) k h.1 in cc)
open_holds p (content.sequence es) node U k h = absurd (let q = sym k ∙ h.0 in cc)
open_holds p (content.list is) node U k h = absurd (let q = sym k ∙ h.0 in cc)
open_holds p (content.alternative n c) node U k h = absurd (let q = sym k ∙ h.1.0 in cc)
open_holds p (content.foreign V) node U k h = (ap (λ T. content.foreign T) (sym h.1.0), h.1.1)

-- the marks in an element that has ended, after those of its entries
abbrev IsInsideAs : Bool → Content → List ℕ → List Mark → Type 0
IsInsideAs true c text inside = (T : Tree) × (c ≡ content.foreign T) × IsTrue (is_foreign foreign_levels T) × (inside ≡ octets_marks mark.Foreign (encoding T))
IsInsideAs false c text inside = inside ≡ map mark.Octet text

abbrev IsInside : CodeElement → Content → List ℕ → List Mark → Type 0
IsInside (Foreign m) c text inside = inside ≡ []
IsInside (Wrapper w) c text inside = IsInsideAs (is_any (kind_of w.node)) c text inside
IsInside _ c text inside = inside ≡ map mark.Octet text

-- a loose wrapper that ends as a sequence without elements
late_marked : (w : Wrapped) (entries : List (Option Content)) (text : List ℕ) (c : Content) (own rows : List Mark) → text ≡ [] → c ≡ content.sequence (entries_of (entries ++ map absent_content (rows_of w.node)))
    → entries ≡ [] → AreEntries (entries_of entries) own → AreAbsent (rows_of w.node) rows → IsMarked c (whole_marks (Either w) (LooseWrapper w) own (map mark.Octet text) rows)
late_marked w entries text c own rows none is held h k =
    let own_none : own ≡ [] = subst (λ xs. AreEntries (entries_of xs) own) held h in
    subst (λ o. IsMarked c ((o ++ map mark.Octet text) ++ (mark.Sequence ∷ (rows ++ mark.End ∷ [])))) (sym own_none)
    (subst (λ t. IsMarked c (map mark.Octet t ++ (mark.Sequence ∷ (rows ++ mark.End ∷ [])))) (sym none)
    (sequence_marked entries (rows_of w.node) [] c [] rows refl is (subst (AreEntries (entries_of entries)) own_none h) k))

-- a wrapper that has ended: the marks of a foreign tree come now
wrapper_marked : (b : Bool) (entries : List (Option Content)) (text : List ℕ) (c : Content) (own inside rows : List Mark) → text ≡ [] → entries ≡ Some c ∷ [] → AreOwnAs b entries own → IsInsideAs b c text inside → rows ≡ []
    → IsMarked c ((own ++ inside) ++ (rows ++ []))
wrapper_marked true entries text c own inside rows none es h i k =
    let all : (own ++ inside) ++ (rows ++ []) ≡ octets_marks mark.Foreign (encoding i.0) = ap (λ o. (o ++ inside) ++ (rows ++ [])) h ∙ ap (λ r. inside ++ (r ++ [])) k ∙ append-nil inside ∙ i.3 in
    subst (λ x. IsMarked x ((own ++ inside) ++ (rows ++ []))) (sym i.1) (all, i.2)
wrapper_marked false entries text c own inside rows none es h i k = subst (λ ms. IsMarked c ((own ++ ms) ++ (rows ++ []))) (sym i) (part_marked entries text c own rows none es h k)

-- the marks of an element that has ended say its content
ended_marked : (p : Named) (e : CodeElement) (n : Next) (entries : List (Option Content)) (ts : Trees) (text : List ℕ) (c : Content) (own inside rows : List Mark) → IsHeld p e n entries ts → IsRightText p e text
    → IsContentOf e n entries text c → AreOwn e entries own → IsInside e c text inside → AreAbsent (rows_left n) rows → IsEntryMarked e c (whole_marks n e own inside rows)
ended_marked p (Leaf l) Segments entries ts text c own inside rows held right is h i k =
    subst (λ ms. IsMarked c (mark.Leaf l ∷ ((own ++ ms) ++ (rows ++ mark.End ∷ [])))) (sym i) (string_marked p (mark.Leaf l) (leaf_is l) entries text c own rows refl held.1 right is h k)
ended_marked p (ModuleLeaf l) Segments entries ts text c own inside rows held right is h i k =
    subst (λ ms. IsMarked c (mark.ModuleLeaf l ∷ ((own ++ ms) ++ (rows ++ mark.End ∷ [])))) (sym i) (string_marked p (mark.ModuleLeaf l) (module_leaf_is l) entries text c own rows refl held.1 right is h k)
ended_marked p BitString BitSegments entries ts text c own inside rows held right is h i k =
    subst (λ ms. IsMarked c (mark.BitString ∷ ((own ++ ms) ++ (rows ++ mark.End ∷ [])))) (sym i) (string_marked p mark.BitString bit_string entries text c own rows refl held.0 right is h k)
ended_marked p (Sequence node) (Rows own_node m) entries ts text c own inside rows held right is h i k =
    subst (λ ms. IsMarked c (mark.Sequence ∷ ((own ++ ms) ++ (rows ++ mark.End ∷ [])))) (sym i) (sequence_marked entries (rows_left (Rows own_node m)) text c own rows is.0 is.1 h k)
ended_marked p (ListOf node) (Items own_node) entries ts text c own inside rows held right is h i k =
    subst (λ ms. IsMarked c (mark.List ∷ ((own ++ ms) ++ (rows ++ mark.End ∷ [])))) (sym i) (list_marked entries is.1 text c own rows is.0 is.2 is.3 h k)
ended_marked p (Wrapper w) (Inner own_part) entries ts text c own inside rows held right is h i k = wrapper_marked _ entries text c own inside rows is.0 is.1 h i k
ended_marked p (Wrapper w) (Root own_part) entries ts text c own inside rows held right is h i k = wrapper_marked _ entries text c own inside rows is.0 is.1 h i k
ended_marked p (Wrapper w) Nothing entries ts text c own inside rows held right is h i k = wrapper_marked _ entries text c own inside rows is.0 is.1 h i k
ended_marked p (LooseWrapper w) Nothing entries ts text c own inside rows held right is h i k =
    subst (λ ms. IsMarked c ((own ++ ms) ++ (rows ++ []))) (sym i) (part_marked entries text c own rows is.0 is.1 h k)
ended_marked p (LooseWrapper w) (Rows own_node m) entries ts text c own inside rows held right is h i k =
    subst (λ ms. IsMarked c (mark.Sequence ∷ ((own ++ ms) ++ (rows ++ mark.End ∷ [])))) (sym i) (sequence_marked entries (rows_left (Rows own_node m)) text c own rows is.0 is.1 h k)
ended_marked p (LooseWrapper w) (Either own_part) entries ts text c own inside rows held right is h i k =
    subst (λ ms. IsMarked c (whole_marks (Either own_part) (LooseWrapper own_part) own ms rows)) (sym i) (late_marked own_part entries text c own rows is.0 is.1 held.1 h k)
ended_marked p (Foreign m) (Foreigns n) entries ts text c own inside rows held right is h i k =
    ap (λ o. (o ++ inside) ++ (rows ++ [])) h ∙ ap (λ ms. ms ++ (rows ++ [])) i ∙ append-nil rows ∙ k
ended_marked p Segment n entries ts text c own inside rows held right is h i k = absurd is
ended_marked p BitSegment n entries ts text c own inside rows held right is h i k = absurd is
ended_marked p _ _ entries ts text c own inside rows held right is h i k = absurd held

-- ---- the draft

none_held : (p : Named) (e : CodeElement) (w : Wrapped) (entries : List (Option Content)) (ts : Trees) → IsHeld p e (Either w) entries ts → entries ≡ []
none_held p (LooseWrapper x) w entries ts h = h.1
none_held p _ w entries ts h = absurd h

-- an entry more, and the marks that its element began with
first_more : (p : Named) (n : Next) (e : CodeElement) (entries : List (Option Content)) (ts : Trees) (t : Tag) (slot : Slot) (alt : Option ℕ) (el : CodeElement) (own : List Mark) → IsHeld p e n entries ts
    → IsDueIn t n (due_with slot alt el) → AreOwn e entries own → (first_marks n e ++ own) ++ start_marks n slot ≡ first_marks (behind n slot) e ++ own
first_more p (Rows node k) e entries ts t (AtRow r) alt el own held d h = append-nil _
first_more p (Rows node k) e entries ts t _ alt el own held d h = absurd d
first_more p (Either w) e entries ts t (AtRow r) alt el own held d h =
    let none : own ≡ [] = own_none (is_open_type e) entries own (none_held p e w entries ts held) h in
    ap (λ o. o ++ mark.Sequence ∷ []) none ∙ ap (λ o. mark.Sequence ∷ o) (sym none)
first_more p (Either w) e entries ts t _ alt el own held d h = append-nil _
first_more p Segments e entries ts t slot alt el own held d h = append-nil _
first_more p BitSegments e entries ts t slot alt el own held d h = append-nil _
first_more p Nothing e entries ts t slot alt el own held d h = absurd d
first_more p _ e entries ts t slot alt el own held d h = append-nil _

-- the marks of an element come after those of the elements before it
entry_marked : (p : Named) (l : Level) (below : List Level) (next : Next) (t : Tag) (slot : Slot) (alt : Option ℕ) (el : CodeElement) (c : Content) (old mid new y : List Mark) → IsDueAt p l next t slot alt el
    → AreFronts (l ∷ below) old → HasPreceding l.next slot alt old mid → new ≡ mid ++ y → IsEntryMarked el c y → AreFronts (with_entry l slot (with_alternative alt c) ∷ below) new
entry_marked p l below next t slot alt el c old mid new y due h led e m =
    (h.0, h.1, h.2 ++ x, joined, h.4, own_more (is_open_type l.element) refl h.5, h.6)
  where
    start : List Mark
    start = start_marks l.next slot

    alternative : List Mark
    alternative = alternative_marks alt

    x : List Mark
    x = led.rows ++ (alternative ++ y)

    first : List Mark
    first = first_marks l.next l.element

    all : new ≡ old ++ (start ++ x)
    all = e ∙ ap (λ ms. ms ++ y) led.added ∙ append_assoc old (start ++ (led.rows ++ alternative)) y
        ∙ ap (λ ms. old ++ ms) (append_assoc start (led.rows ++ alternative) y ∙ ap (λ ms. start ++ ms) (append_assoc led.rows alternative y))

    joined : new ≡ h.1 ++ (first_marks (behind l.next slot) l.element ++ (h.2 ++ x))
    joined = all ∙ ap (λ ms. ms ++ (start ++ x)) h.3 ∙ append_assoc h.1 (first ++ h.2) (start ++ x)
        ∙ ap (λ ms. h.1 ++ ms) (sym (append_assoc (first ++ h.2) start x) ∙ ap (λ ms. ms ++ x) (first_more p l.next l.element l.entries due.trees t slot alt el h.2 due.held due.is_due h.5) ∙ append_assoc (first_marks (behind l.next slot) l.element) h.2 x)

    nothing_more : is_open_type l.element ≡ true → x ≡ []
    nothing_more q =
        let awaits = open_awaits p l.element l.next l.entries due.trees t slot alt el q due.held due.is_due in
        let found = awaited t l.next (due_with slot alt el) due.is_due awaits in
        let none : led.rows ≡ [] = subst (λ rows. AreAbsent rows led.rows) (no_rows l.next slot awaits) led.are in
        ap (λ ms. ms ++ (alternative ++ y)) none ∙ ap (λ o. alternative_marks o ++ y) found.1 ∙ foreign_entry el c y found.0 m

    own_more : (b : Bool) → is_open_type l.element ≡ b → AreOwnAs b l.entries h.2 → AreOwnAs b (l.entries ++ (map absent_content (rows_before l.next slot) ++ Some (with_alternative alt c) ∷ [])) (h.2 ++ x)
    own_more true q o = ap (λ ms. ms ++ x) o ∙ nothing_more q
    own_more false q o = entry_added l.entries (rows_before l.next slot) (with_alternative alt c) h.2 led.rows (alternative ++ y) o led.are
        (chosen alt c y (entry_says p l.element l.next l.entries due.trees t slot alt el c y q due.held due.is_due m))

-- ---- the text of a string that is open

text_none : (e : CodeElement) → text_marks e [] ≡ []
text_none BitString = refl
text_none _ = refl

text_plain : (e : CodeElement) (text : List ℕ) → (e ≡ BitString → ⊥) → text_marks e text ≡ map mark.Octet text
text_plain BitString text other = absurd (other refl)
text_plain _ text other = refl

opened_none : (e : CodeElement) (text : List ℕ) → IsNoSegment e → text ≡ [] → text_marks e (text_opened e text) ≡ []
opened_none BitString text whole none = refl
opened_none BitSegment text whole none = absurd (whole.1 refl)
opened_none _ text whole none = ap (map mark.Octet) none

pub outline_opened : (old new : OutlineDraft) (next : Next) (o : ConstructedElement) (contents_start : ℕ) (mid : List Mark) → IsNoSegment (read_as o.found) → HasOpened AreOctets old.octets next o contents_start new.octets
    → HasPreceding next (slot_in o.found) (alternative_of o.found) old.marks.items mid → new.marks.items ≡ mid ++ first_marks (first_of (read_as o.found)) (read_as o.found) → HasOpened AreOutlined old next o contents_start new
outline_opened old new next o contents_start mid whole octets led e levels text h opening inside = record {
  octets = octets levels text h.octets opening inside;
  front = new.marks.items;
  joined = sym (append-nil new.marks.items) ∙ ap (λ t. new.marks.items ++ t) (sym (ap (λ ls. text_marks (innermost ls) (text_opened (read_as o.found) text)) (pushed_apart l levels whole) ∙ opened_none (read_as o.found) text whole i.none));
  are = subst (λ ls. AreFronts ls new.marks.items) (sym (pushed_apart l levels whole))
      (h.front, mid, [], e ∙ ap (λ ms. mid ++ ms) (sym (append-nil _)), subst (λ ls. ArePreceded (tag_of_id o.id) (read_as o.found) ls h.front mid) (sym i.are) is_led, none_own (is_open_type (read_as o.found)), h.are);
}
  where
    l : Level
    l = record { element = (read_as o.found); tag = tag_of_id o.id; next = first_of (read_as o.found); contents_start = contents_start; entries = [] }

    i : IsOpeningIn levels text next o
    i = opening whole

    front : old.marks.items ≡ h.front
    front = h.joined ∙ ap (λ t. h.front ++ text_marks (innermost levels) t) i.none ∙ ap (λ ms. h.front ++ ms) (text_none (innermost levels)) ∙ append-nil h.front

    is_led : IsPreceded (tag_of_id o.id) (read_as o.found) i.level.next h.front mid
    is_led = subst (λ n. IsPreceded (tag_of_id o.id) (read_as o.found) n h.front mid) (sym i.next)
        (record { slot = slot_in o.found; alternative = alternative_of o.found; is_due = i.is_due; led = subst (λ ms. HasPreceding next (slot_in o.found) (alternative_of o.found) ms mid) front led })

-- a segment of a string has no marks of its own
pub outline_segment : (old new : OutlineDraft) (next : Next) (o : ConstructedElement) (contents_start : ℕ) → (read_as o.found ≡ Segment) ⊎ (read_as o.found ≡ BitSegment) → HasOpened AreOctets old.octets next o contents_start new.octets → new.marks ≡ old.marks → HasOpened AreOutlined old next o contents_start new
outline_segment old new next o contents_start is octets same levels text h opening inside =
    let joined : old.marks.items ≡ h.front ++ text_marks (innermost levels) (text_opened (read_as o.found) text) = h.joined ∙ ap (λ ms. h.front ++ ms) (stays is) in
    record {
      octets = octets levels text h.octets opening inside;
      front = h.front;
      joined = ap (λ (v : _). v.items) same ∙ subst (λ ls. old.marks.items ≡ h.front ++ text_marks (innermost ls) (text_opened (read_as o.found) text)) (sym (pushed_segment l levels is)) joined;
      are = subst (λ ls. AreFronts ls h.front) (sym (pushed_segment l levels is)) h.are;
    }
  where
    l : Level
    l = record { element = (read_as o.found); tag = tag_of_id o.id; next = first_of (read_as o.found); contents_start = contents_start; entries = [] }

    stays : (read_as o.found ≡ Segment) ⊎ (read_as o.found ≡ BitSegment) → text_marks (innermost levels) text ≡ text_marks (innermost levels) (text_opened (read_as o.found) text)
    stays (inl s) = ap (λ e. text_marks (innermost levels) (text_opened e text)) (sym s)
    stays (inr s) =
        let x = inside s in
        let bits : innermost levels ≡ BitString = ap innermost x.2 ∙ x.3 in
        ap (λ e. text_marks e text) bits ∙ ap (λ e. text_marks e (text_opened (read_as o.found) text)) (sym bits)

-- the text of a string grows
pub outline_text : (old new : OutlineDraft) (octets : List ℕ) → HasText AreOctets old.octets octets new.octets → new.marks.items ≡ old.marks.items ++ map mark.Octet octets → HasText AreOutlined old octets new
outline_text old new octets has e l below text other h = record {
  octets = has l below text other h.octets;
  front = h.front;
  joined = e ∙ ap (λ ms. ms ++ map mark.Octet octets) (h.joined ∙ ap (λ ms. h.front ++ ms) (text_plain l.element text other)) ∙ append_assoc h.front (map mark.Octet text) (map mark.Octet octets)
      ∙ ap (λ ms. h.front ++ ms) (sym (map-append mark.Octet text octets) ∙ sym (text_plain l.element (text ++ octets) other));
  are = h.are;
}

-- a BIT STRING has its marks when it ends
pub outline_bits : (old new : OutlineDraft) (octets : List ℕ) → HasBits AreOctets old.octets octets new.octets → new.marks ≡ old.marks → HasBits AreOutlined old octets new
outline_bits old new octets has same l below text is h = record {
  octets = has l below text is h.octets;
  front = h.front;
  joined = ap (λ (v : _). v.items) same ∙ h.joined ∙ ap (λ e. h.front ++ text_marks e text) is ∙ ap (λ e. h.front ++ text_marks e (join_bits text octets)) (sym is);
  are = h.are;
}

-- an entry more in the innermost element, where no text is open
outline_entry : (p : Named) (old new : OutlineDraft) (l : Level) (below : List Level) (next : Next) (t : Tag) (f : Found) (el : CodeElement) (c : Content) (mid y : List Mark) → AreOutlined old (l ∷ below) [] → IsDueAt p l next t (slot_in f) (alternative_of f) el
    → HasPreceding next (slot_in f) (alternative_of f) old.marks.items mid → new.marks.items ≡ mid ++ y → IsEntryMarked el c y → AreFronts (with_entry l (slot_in f) (with_alternative (alternative_of f) c) ∷ below) new.marks.items
outline_entry p old new l below next t f el c mid y h due led e m =
    let front : old.marks.items ≡ h.front = h.joined ∙ ap (λ ms. h.front ++ ms) (text_none l.element) ∙ append-nil h.front in
    let here = subst (λ n. HasPreceding n (slot_in f) (alternative_of f) h.front mid) (sym due.next) (subst (λ ms. HasPreceding next (slot_in f) (alternative_of f) ms mid) front led) in
    entry_marked p l below next t (slot_in f) (alternative_of f) el c h.front mid new.marks.items y due h.are here e m

closed_text : (ms : List Mark) (e : CodeElement) → ms ≡ ms ++ text_marks e []
closed_text ms e = sym (append-nil ms) ∙ ap (λ t. ms ++ t) (sym (text_none e))

pub outline_leaf : (p : Named) (old new : OutlineDraft) (next : Next) (r : PrimitiveElement) (leaf : LeafType) (octets : List ℕ) (mid : List Mark) → IsContentIn p (leaf_is leaf) octets → HasLeaf p AreOctets old.octets next r leaf octets new.octets
    → HasPreceding next (slot_in r.found) (alternative_of r.found) old.marks.items mid → new.marks.items ≡ mid ++ octets_marks (mark.Leaf leaf) octets → HasLeaf p AreOutlined old next r leaf octets new
outline_leaf p old new next r leaf octets mid right has led e after l below h due = record {
  octets = has after l below h.octets due;
  front = new.marks.items;
  joined = closed_text new.marks.items l.element;
  are = outline_entry p old new l below next (tag_of_id r.id) r.found (Leaf leaf) (simple (value (leaf_is leaf) octets)) mid (octets_marks (mark.Leaf leaf) octets) h due led e
      (inl (record { first = mark.Leaf leaf; leaf = leaf_is leaf; octets = octets; profile = p; begins = refl; are = refl; content = right; holds = refl }));
}

-- a string in its explicit tag has the marks of a leaf
pub outline_string : (p : Named) (old new : OutlineDraft) (next : Next) (o : ConstructedElement) (leaf : LeafType) (octets : List ℕ) (mid : List Mark) → WrapsString (read_as o.found) leaf → IsContentIn p (leaf_is leaf) octets
    → HasString p AreOctets old.octets next o leaf octets new.octets → HasPreceding next (slot_in o.found) (alternative_of o.found) old.marks.items mid → new.marks.items ≡ mid ++ octets_marks (mark.Leaf leaf) octets
    → HasString p AreOutlined old next o leaf octets new
outline_string p old new next o leaf octets mid string right has led e l below h due =
    let x = wrapped_of (read_as o.found) leaf string in
    let c = simple (value (leaf_is leaf) octets) in
    record {
      octets = has l below h.octets due;
      front = new.marks.items;
      joined = closed_text new.marks.items l.element;
      are = outline_entry p old new l below next (tag_of_id o.id) o.found (read_as o.found) c mid (octets_marks (mark.Leaf leaf) octets) h due led e
          (subst (λ e. IsEntryMarked e c (octets_marks (mark.Leaf leaf) octets)) (sym x.1)
          (inl (record { first = mark.Leaf leaf; leaf = leaf_is leaf; octets = octets; profile = p; begins = refl; are = refl; content = right; holds = refl })));
    }

-- a primitive element that only the module profile has
abbrev pub module_marks : CodeElement → List ℕ → List Mark
module_marks (Foreign m) octets = []
module_marks e octets = first_marks (first_of e) e ++ (map mark.Octet octets ++ mark.End ∷ [])

module_marked : (p : Named) (e : CodeElement) (tag : Tag) (octets : List ℕ) (c : Content) → IsModuleElement e → IsRightContent p e octets → IsPrimitiveOf e tag octets c → IsEntryMarked e c (module_marks e octets)
module_marked p (ModuleLeaf l) tag octets c other right is =
    subst (λ x. IsMarked x (module_marks (ModuleLeaf l) octets)) (sym is) (inl (record { first = mark.ModuleLeaf l; leaf = module_leaf_is l; octets = octets; profile = p; begins = refl; are = refl; content = right; holds = refl }))
module_marked p BitString tag octets c other right is =
    subst (λ x. IsMarked x (module_marks BitString octets)) (sym is) (inl (record { first = mark.BitString; leaf = bit_string; octets = octets; profile = p; begins = refl; are = refl; content = right; holds = refl }))
module_marked p (Foreign m) tag octets c other right is = refl
module_marked p _ tag octets c other right is = absurd other

pub outline_element : (p : Named) (old new : OutlineDraft) (next : Next) (r : PrimitiveElement) (octets : List ℕ) (mid : List Mark) → IsModuleElement (read_as r.found) → IsRightContent p (read_as r.found) octets → HasModuleElement p AreOctets old.octets next r octets new.octets
    → HasPreceding next (slot_in r.found) (alternative_of r.found) old.marks.items mid → new.marks.items ≡ mid ++ module_marks (read_as r.found) octets → HasModuleElement p AreOutlined old next r octets new
outline_element p old new next r octets mid other right has led e l below c h due is = record {
  octets = has l below c h.octets due is;
  front = new.marks.items;
  joined = closed_text new.marks.items l.element;
  are = outline_entry p old new l below next (tag_of_id r.id) r.found (read_as r.found) c mid (module_marks (read_as r.found) octets) h due led e (module_marked p (read_as r.found) (tag_of_id r.id) octets c other right is);
}

-- nothing is marked before an element of a foreign tree
pub foreign_led : (p : Named) (l : Level) (next : Next) (t : Tag) (slot : Slot) (alt : Option ℕ) (m : ℕ) (ms : List Mark) → IsDueAt p l next t slot alt (Foreign m) → HasPreceding next slot alt ms ms
foreign_led p l next t slot alt m ms due =
    let awaits = foreign_due t l.next (due_with slot alt (Foreign m)) m due.is_due refl in
    let found = awaited t l.next (due_with slot alt (Foreign m)) due.is_due awaits in
    subst (λ n. HasPreceding n slot alt ms ms) due.next (go l.next awaits found.1)
  where
    go : (n : Next) → AwaitsForeign n → alt ≡ None → HasPreceding n slot alt ms ms
    go (Root w) o none = record { rows = []; added = sym (append-nil ms) ∙ ap (λ a. ms ++ alternative_marks a) (sym none); are = refl }
    go (Foreigns n) o none = record { rows = []; added = sym (append-nil ms) ∙ ap (λ a. ms ++ alternative_marks a) (sym none); are = refl }
    go _ o none = absurd o

-- the octets of an element stand behind the offset at which it began
behind_base : (l : Level) (k : Level) (below : List Level) (front : List ℕ) → AreWritten (l ∷ k ∷ below) front → drop l.contents_start front ≡ written l.element l.next l.entries
behind_base l k below front a =
    ap₂ drop a.3 (a.2 ∙ sym (append_assoc a.0 a.1 (written l.element l.next l.entries))) ∙ drop-append_seam (a.0 ++ a.1) (written l.element l.next l.entries)

plain_behind : (d : NormalFormDraft) (e : CodeElement) (front text : List ℕ) → (e ≡ BitString → ⊥) → IsBehind d e front text → text ≡ [] → d.octets ≡ front
plain_behind d BitString front text other h none = absurd (other refl)
plain_behind d _ front text other h none = h ∙ ap (λ t. front ++ t) none ∙ append-nil front

-- what is marked when an element ends
inside_marked : (p : Named) (e : CodeElement) (n : Next) (entries : List (Option Content)) (d : NormalFormDraft) (contents_start : ℕ) (text : List ℕ) (c : Content) (T : Tree) → IsContentOf e n entries text c → IsValueOf p (element_is e) c T
    → (e ≡ BitString → d.bits ≡ text) → ((e ≡ BitString → ⊥) → text ≡ [] → drop contents_start d.octets ≡ written e n entries) → IsInside e c text (text_marks e text ++ held_marks e d contents_start)
inside_marked p BitString n entries d contents_start text c T is v bits behind = ap (map mark.Octet) (bits refl)
inside_marked p (Foreign m) n entries d contents_start text c T is v bits behind = ap (λ t. map mark.Octet t ++ []) is.0
inside_marked p (Wrapper w) n entries d contents_start text c T is v bits behind = go (is_any (kind_of w.node)) refl
  where
    go : (b : Bool) → is_any (kind_of w.node) ≡ b → IsInsideAs b c text (map mark.Octet text ++ foreign_marks b (drop contents_start d.octets))
    go false q = append-nil _
    go true q =
        let held = open_holds p c w.node v.1 (any_is (kind_of w.node) q) v.3 in
        let octets : drop contents_start d.octets ≡ encoding v.1 = behind (λ s. cc) is.0 ∙ ap (written (Wrapper w) n) (is.1 ∙ ap (λ x. Some x ∷ []) held.0) in
        (v.1, held.0, held.1, ap (λ t. map mark.Octet t ++ foreign_marks true (drop contents_start d.octets)) is.0 ∙ ap (octets_marks mark.Foreign) octets)
inside_marked p _ n entries d contents_start text c T is v bits behind = append-nil _

bits_behind : (d : NormalFormDraft) (e : CodeElement) (front text : List ℕ) → IsBehind d e front text → e ≡ BitString → d.bits ≡ text
bits_behind d e front text h is = (let k : IsBehind d BitString front text = subst (λ x. IsBehind d x front text) is h in k.1)

-- an element ends: its last marks are put after its own
pub outline_closed : (p : Named) (old new : OutlineDraft) (f : Frame) (next : Next) (mid : List Mark) → HasClosed p AreOctets old.octets f next new.octets → mid ≡ old.marks.items ++ held_marks (read_as f.found) old.octets f.contents_start → HasEnding (shape f.place) mid new.marks.items
    → HasClosed p AreOutlined old f next new
outline_closed p old new f next mid has held_as rear tag entries trees l below text c h held right is value due =
    let a = h.are in
    let e = read_as f.found in
    let n = shape f.place in
    let first = first_marks n e in
    let last = late_marks n ++ (rear.rows ++ last_marks n) in
    let inside = text_marks e text ++ held_marks e old.octets f.contents_start in
    let marks : new.marks.items ≡ a.1 ++ whole_marks n e a.2 inside rear.rows =
    rear.added ∙ ap (λ ms. ms ++ last) (held_as ∙ ap (λ ms. ms ++ held_marks e old.octets f.contents_start) (h.joined ∙ ap (λ ms. ms ++ text_marks e text) a.3) ∙ append_assoc (a.1 ++ (first ++ a.2)) (text_marks e text) (held_marks e old.octets f.contents_start))
    ∙ append_assoc (a.1 ++ (first ++ a.2)) inside last ∙ append_assoc a.1 (first ++ a.2) (inside ++ last)
    ∙ ap (λ ms. a.1 ++ ms) (append_assoc first a.2 (inside ++ last) ∙ ap (λ ms. first ++ ms) (sym (append_assoc a.2 inside last))) in
    let due_as : (s : Slot) (alt : Option ℕ) → IsDueIn tag l.next (due_with s alt e) → IsDueIn (tag_of value.0) l.next (due_with s alt e) = λ s alt. subst (λ t. IsDueIn t l.next (due_with s alt e)) (sym value.1) in
    let one = one_due p value.0 l.next a.4.slot (slot_in f.found) a.4.alternative (alternative_of f.found) e c (due_as _ _ a.4.is_due) (due_as _ _ due.is_due) value.2 in
    let o = h.octets in
    let inner = inside_marked p e n entries old.octets f.contents_start text c value.0 is value.2 (bits_behind old.octets e o.front text o.joined)
    (λ other none. ap (drop f.contents_start) (plain_behind old.octets e o.front text other o.joined none) ∙ behind_base (level_of f tag entries) l below o.front o.are) in
    let there = entry_marked p l below next tag a.4.slot a.4.alternative e c a.0 a.1 new.marks.items _ (record { trees = due.trees; held = due.held; next = due.next; is_due = a.4.is_due }) a.6 a.4.led marks
    (ended_marked p e n entries trees text c a.2 inside rear.rows held right is a.5 inner rear.are) in
    record {
      octets = has tag entries trees l below text c h.octets held right is value due;
      front = new.marks.items;
      joined = closed_text new.marks.items l.element;
      are = subst (λ s. AreFronts (with_entry l s (with_alternative (alternative_of f.found) c) ∷ below) new.marks.items) one.0 (subst (λ x. AreFronts (with_entry l a.4.slot x ∷ below) new.marks.items) one.1 there);
    }

-- a message is of no open type
top_closed : (p : Named) → is_open_type (Wrapper (top_part p)) ≡ false
top_closed Two = refl
top_closed Module = refl

pub outline_ended : (p : Named) (old new : OutlineDraft) (a : Apdu) (b : List ℕ) (n : ℕ) (within : Bool) → HoldsApdu p AreOutlined old a b → new.marks.items ≡ old.marks.items
    → HasEnded p AreNormal new.octets a n within → HasEnded p HasMarksAndForm new a n within
outline_ended p old new a b n true h same has =
    let f = h.0.are in
    let marks = same ∙ h.0.joined ∙ append-nil h.0.front ∙ f.3 ∙ ap (λ ms. ms ++ f.2) (f.4 ∙ f.6) in
    ((subst (IsMarked (choice_of a)) (sym marks) (only_entry (choice_of a) f.2 (subst (λ x. AreOwnAs x (Some (choice_of a) ∷ []) f.2) (top_closed p) f.5)), has.0), has.1)
outline_ended p old new a b n false h same has = has

-- ---- the calls

pub octets_joined : (octets : List ℕ) (m₁ first m₂ m₃ m₄ : List Mark) → m₂ ≡ m₁ ++ first → m₃ ≡ m₂ ++ map mark.Octet octets → m₄ ≡ m₃ ++ mark.End ∷ [] → m₄ ≡ m₁ ++ (first ++ (map mark.Octet octets ++ mark.End ∷ []))
octets_joined octets m₁ first m₂ m₃ m₄ e₂ e₃ e₄ =
    let o = map mark.Octet octets in
    e₄ ∙ ap (λ m. m ++ mark.End ∷ []) (e₃ ∙ ap (λ m. m ++ o) e₂) ∙ append_assoc (m₁ ++ first) o (mark.End ∷ []) ∙ append_assoc m₁ first (o ++ mark.End ∷ [])
