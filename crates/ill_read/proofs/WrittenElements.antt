-- What an element adds to the octets of the element round it.
use Rattle.ill_tables.specs.declared.profile.Profile.{Profile as Named}
use Rattle.ill_schema.specs.Profiles.{profile_of}
use Rattle.std.proofs.Common.{◌≡◌, ℕ, zero, suc, Bool, true, false, List, [], ◌∷◌, ◌++◌, length, map, take, drop, append-nil, append_assoc, Option, Some, None, refl, sym, ap, ap₂, subst, ◌∙◌, inl, inr, arith, slice_get}
use Rattle.std.proofs.lemmas.List.{length-take-le}
use Rattle.ber_core.specs.Der.{encoding, encodings}
use Rattle.ber_tree.specs.Identifier.{Tag, identifier}
use Rattle.ber_tree.specs.Length.{shortest_length}
use Rattle.ber_tree.specs.Tree.{Tree, Trees, constructed, none, more, tag_of}
use Rattle.ber_leaf.specs.Profile.{profile_two}
use Rattle.ill_schema.specs.Content.{Content}
use Rattle.ill_schema.specs.Content as content
use Rattle.ill_refusals.specs.Element.{foreign}
use Rattle.ill_schema.specs.Meaning.{Matches}
use Rattle.ill_schema.specs.Normal.{normal_tree, normal_trees, normal_items}
use Rattle.ill_schema.specs.Presence.{is_default}
use Rattle.ill_tables.specs.Table.{rows_of}
use Rattle.ill_schema.specs.Tagging.{untagged, tagging, sequence_tag}
use Rattle.ill_schema.specs.Value.{entries_of, items_of}
use Rattle.ill_tables.specs.declared.node.NodeId.{NodeId}
use Rattle.ill_tables.specs.declared.part.Row.{Row}
use Rattle.ill_grammar.specs.Elements.{element_is}
use Rattle.ill_grammar.specs.Due.{IsDueIn, IsRowDue, IsInnerDue, IsItemDue, behind}
use Rattle.ill_grammar.specs.Standing.{IsHeld, foreign_entries}
use Rattle.ill_grammar.specs.Contents.{with_alternative, absent_content, IsValueOf}
use Rattle.ill_read.specs.code.Drafts.{IsContentOf, rows_before, rows_left}
use Rattle.ill_grammar.specs.Due.{due_with}
use Rattle.ill_read.specs.code.OctetDrafts.{foreign_octets, tree_octets, enclosed, items_in, part_octets, unless_left, written}
use Rattle.ill_grammar.specs.Written.{entry_octets, normal_element}
use Rattle.ill_grammar.specs.declared.due.Next.{Next}
use Rattle.ill_grammar.specs.declared.due.Next.TheVariants.{Rows, Inner, Items, Either, Segments, BitSegments, Root, Foreigns, Nothing}
use Rattle.ill_grammar.specs.declared.due.Slot.{Slot}
use Rattle.ill_grammar.specs.declared.due.Slot.TheVariants.{Row as AtRow, Item, Inner as Inside, Segment as InString, Foreign as InForeign}
use Rattle.ill_grammar.specs.declared.element.Element.{Element as CodeElement}
use Rattle.ill_grammar.specs.declared.element.Element.TheVariants.{Leaf as LeafElement, Sequence, List as ListOf, Wrapper, LooseWrapper, Segment, ModuleLeaf, BitString, BitSegment, Foreign}
use Rattle.ill_grammar.specs.Begun.{Begun}
use Rattle.ill_grammar.specs.declared.element.Wrapped.{Wrapped}
use Rattle.std.proofs.lemmas.Option.{slice_get_within}
use Rattle.ill_grammar.proofs.NormalElements.{row_normal, item_normal, inner_normal}
use Rattle.ill_grammar.proofs.NormalEntries.{normal_added, normal_ended, normal_item_added}

matches_length : (p : Named) (es : List (Option Content)) (rs : List Row) (ts : Trees) → Matches (profile_of p) (entries_of es) rs ts → length es ≡ length rs
matches_length p [] [] ts h = refl
matches_length p [] (row ∷ rs) ts h = absurd h
matches_length p (None ∷ es) [] ts h = absurd h
matches_length p (Some c ∷ es) [] ts h = absurd h
matches_length p (None ∷ es) (row ∷ rs) ts h = ap suc (matches_length p es rs ts h.1)
matches_length p (Some c ∷ es) (row ∷ rs) ts h = elim h.1 [
  | inl x ↦ ap suc (matches_length p es rs x.1 x.4)
  | inr x ↦ ap suc (matches_length p es rs ts x.1)
]

-- an entry's octets, by the tree that is its normal tree
entry_is : (row : Row) (o : Option Row) (c : Content) (U : Tree) → o ≡ Some row → normal_tree c row.node (tagging profile_two row) ≡ U
    → entry_octets row c ≡ elim (elim o as (λ _. Bool) [ Some x ↦ is_default x c | None ↦ false ]) as (λ _. List ℕ) [ true ↦ [] | false ↦ encoding U ]
entry_is row o c U e n =
    ap (λ t. elim (is_default row c) as (λ _. List ℕ) [ true ↦ [] | false ↦ encoding t ]) n
    ∙ sym (ap (λ x. elim (elim x as (λ _. Bool) [ Some y ↦ is_default y c | None ↦ false ]) as (λ _. List ℕ) [ true ↦ [] | false ↦ encoding U ]) e)

-- in the rows of a sequence
row_written : (p : Named) (T : Tree) (node : NodeId) (n r : ℕ) (alt : Option ℕ) (el : CodeElement) (c : Content) (entries : List (Option Content)) (ts : Trees) → IsRowDue (tag_of T) node n r alt (Begun.Element el)
    → IsValueOf p (element_is el) c T → Matches (profile_of p) (entries_of entries) (take n (rows_of node)) ts
    → encodings (normal_trees (entries_of (entries ++ (map absent_content (drop n (take r (rows_of node))) ++ Some (with_alternative alt c) ∷ []))) (rows_of node))
    ≡ encodings (normal_trees (entries_of entries) (rows_of node)) ++ unless_left (Rows node n) (AtRow r) (with_alternative alt c) (encoding (normal_element (element_is el) (tag_of T) c))
row_written p T node n r alt el c entries ts d m h =
    let rows = rows_of node in
    let behind = d.behind in
    let below = slice_get_within rows r d.row d.is_row in
    let size : length entries ≡ n = matches_length p entries (take n rows) ts h ∙ length-take-le n rows (omega (arith, behind, below)) in
    normal_added rows n r d.row entries (with_alternative alt c) size d.behind d.is_row
    ∙ ap (λ x. encodings (normal_trees (entries_of entries) rows) ++ x)
    (entry_is d.row (slice_get rows r) (with_alternative alt c) _ d.is_row (row_normal p (tag_of T) node n r alt (Begun.Element el) c T d m))

-- in a wrapper
part_written : (p : Named) (T : Tree) (w : Wrapped) (slot : Slot) (alt : Option ℕ) (el : CodeElement) (c : Content) → IsInnerDue (tag_of T) w (due_with slot alt el) → IsValueOf p (element_is el) c T
    → part_octets w (Some (with_alternative alt c) ∷ []) ≡ encoding (normal_element (element_is el) (tag_of T) c)
part_written p T w slot alt el c d m = ap encoding (inner_normal p (tag_of T) w (due_with slot alt el) c T d m)

items_some : (cs : List Content) (c : Content) → items_in (map Some cs ++ Some c ∷ []) ≡ cs ++ c ∷ []
items_some [] c = refl
items_some (d ∷ cs) c = ap (λ xs. d ∷ xs) (items_some cs c)

items_all : (cs : List Content) → items_in (map Some cs) ≡ cs
items_all [] = refl
items_all (d ∷ cs) = ap (λ xs. d ∷ xs) (items_all cs)

first_row : (rows : List Row) (row : Row) → slice_get rows 0 ≡ Some row → (rest : List Row) × (rows ≡ row ∷ rest)
first_row [] row e = absurd cc
first_row (x ∷ rows) row e = (rows, let q : x ≡ row = cc in ap (λ y. y ∷ rows) q)

-- in a list
item_written : (p : Named) (T : Tree) (node : NodeId) (slot : Slot) (alt : Option ℕ) (el : CodeElement) (c : Content) (items : List Content) → IsItemDue (tag_of T) node (due_with slot alt el) → IsValueOf p (element_is el) c T
    → encodings (normal_items (items_of (items ++ with_alternative alt c ∷ [])) (rows_of node)) ≡ encodings (normal_items (items_of items) (rows_of node)) ++ encoding (normal_element (element_is el) (tag_of T) c)
item_written p T node slot alt el c items d m =
    let first = first_row (rows_of node) d.row d.is_row in
    let c' = with_alternative alt c in
    ap (λ rs. encodings (normal_items (items_of (items ++ c' ∷ [])) rs)) first.1
    ∙ normal_item_added items c' d.row first.0
    ∙ ap₂ (λ rs t. encodings (normal_items (items_of items) rs) ++ encoding t) (sym first.1) (item_normal p (tag_of T) node (due_with slot alt el) c T d m)

-- in a foreign tree
foreign_joined : (es : List (Option Content)) (c : Content) → foreign_octets (es ++ Some c ∷ []) ≡ foreign_octets es ++ tree_octets c
foreign_joined [] c = append-nil (tree_octets c)
foreign_joined (None ∷ es) c = foreign_joined es c
foreign_joined (Some d ∷ es) c = ap (λ o. tree_octets d ++ o) (foreign_joined es c) ∙ sym (append_assoc (tree_octets d) (foreign_octets es) (tree_octets c))

foreign_normal : (T : Tree) (el : CodeElement) (c : Content) (n : ℕ) → element_is el ≡ foreign n → c ≡ content.foreign T → encoding (normal_element (element_is el) (tag_of T) c) ≡ encoding T
foreign_normal T el c n e is = ap₂ (λ x d. encoding (normal_element x (tag_of T) d)) e is

-- what an open element has written with one element more
pub entry_written : (p : Named) (e : CodeElement) (n : Next) (entries : List (Option Content)) (ts : Trees) (T : Tree) (slot : Slot) (alt : Option ℕ) (el : CodeElement) (c : Content)
    → IsHeld p e n entries ts → IsDueIn (tag_of T) n (due_with slot alt el) → IsValueOf p (element_is el) c T
    → written e (behind n slot) (entries ++ (map absent_content (rows_before n slot) ++ Some (with_alternative alt c) ∷ []))
    ≡ written e n entries ++ unless_left n slot (with_alternative alt c) (encoding (normal_element (element_is el) (tag_of T) c))
entry_written p (LeafElement l) Segments entries ts T slot alt el c h d m = absurd (subst (λ x. IsValueOf p x c T) d.found m)
entry_written p Segment Segments entries ts T slot alt el c h d m = absurd (subst (λ x. IsValueOf p x c T) d.found m)
entry_written p (Sequence node) (Rows own n) entries ts T (AtRow r) alt el c h d m =
    subst (λ x. encodings (normal_trees (entries_of (entries ++ (map absent_content (drop n (take r (rows_of own))) ++ Some (with_alternative alt c) ∷ []))) (rows_of x))
    ≡ encodings (normal_trees (entries_of entries) (rows_of x)) ++ unless_left (Rows own n) (AtRow r) (with_alternative alt c) (encoding (normal_element (element_is el) (tag_of T) c))) h.0
    (row_written p T own n r alt el c entries ts d m (subst (λ x. Matches (profile_of p) (entries_of entries) (take n (rows_of x)) ts) (sym h.0) h.1))
entry_written p (Sequence node) (Rows own n) entries ts T _ alt el c h d m = absurd d
entry_written p (ListOf node) (Items own) entries ts T slot alt el c h d m =
    let c' = with_alternative alt c in
    let more : items_in (entries ++ Some c' ∷ []) ≡ h.1 ++ c' ∷ [] = ap (λ es. items_in (es ++ Some c' ∷ [])) h.2 ∙ items_some h.1 c' in
    let before : items_in entries ≡ h.1 = ap items_in h.2 ∙ items_all h.1 in
    ap (λ is. encodings (normal_items (items_of is) (rows_of node))) more
    ∙ item_written p T node slot alt el c h.1 (subst (λ x. IsItemDue (tag_of T) x (due_with slot alt el)) h.0 d) m
    ∙ ap (λ is. encodings (normal_items (items_of is) (rows_of node)) ++ encoding (normal_element (element_is el) (tag_of T) c)) (sym before)
entry_written p (Wrapper w) (Inner own) entries ts T slot alt el c h d m =
    let c' = with_alternative alt c in
    ap (λ es. part_octets w (es ++ Some c' ∷ [])) h.1
    ∙ part_written p T w slot alt el c (subst (λ x. IsInnerDue (tag_of T) x (due_with slot alt el)) h.0 d) m
    ∙ ap (λ es. part_octets w es ++ encoding (normal_element (element_is el) (tag_of T) c)) (sym h.1)
entry_written p (Wrapper w) Nothing entries ts T slot alt el c h d m = absurd d
entry_written p (LooseWrapper w) (Either own) entries ts T (AtRow r) alt el c h (inl d) m = absurd (let q : AtRow r ≡ Inside = d.1.slot in cc)
entry_written p (LooseWrapper w) (Either own) entries ts T (AtRow r) alt el c h (inr d) m =
    let c' = with_alternative alt c in
    let added = unless_left (Either own) (AtRow r) c' (encoding (normal_element (element_is el) (tag_of T) c)) in
    let same : own.node ≡ w.node = ap (λ (x : Wrapped). x.node) h.0 in
    ap (λ es. encodings (normal_trees (entries_of (es ++ (map absent_content (drop 0 (take r (rows_of own.node))) ++ Some c' ∷ []))) (rows_of w.node))) h.1
    ∙ subst (λ x. encodings (normal_trees (entries_of (map absent_content (drop 0 (take r (rows_of own.node))) ++ Some c' ∷ [])) (rows_of x)) ≡ added) same
    (row_written p T own.node 0 r alt el c [] none d.1 m refl)
    ∙ ap (λ es. part_octets w es ++ added) (sym h.1)
entry_written p (LooseWrapper w) (Either own) entries ts T Inside alt el c h (inl d) m =
    let c' = with_alternative alt c in
    ap (λ es. part_octets w (es ++ Some c' ∷ [])) h.1
    ∙ part_written p T w Inside alt el c (subst (λ x. IsInnerDue (tag_of T) x (due_with Inside alt el)) h.0 d.1) m
    ∙ ap (λ es. part_octets w es ++ encoding (normal_element (element_is el) (tag_of T) c)) (sym h.1)
entry_written p (LooseWrapper w) (Either own) entries ts T Item alt el c h (inl d) m = absurd (let q : Item ≡ Inside = d.1.slot in cc)
entry_written p (LooseWrapper w) (Either own) entries ts T InString alt el c h (inl d) m = absurd (let q : InString ≡ Inside = d.1.slot in cc)
entry_written p (LooseWrapper w) (Either own) entries ts T InForeign alt el c h (inl d) m = absurd (let q : InForeign ≡ Inside = d.1.slot in cc)
entry_written p (LooseWrapper w) (Either own) entries ts T _ alt el c h (inr d) m = absurd d.1
entry_written p (LooseWrapper w) (Rows own n) entries ts T (AtRow r) alt el c h d m =
    subst (λ x. encodings (normal_trees (entries_of (entries ++ (map absent_content (drop n (take r (rows_of own))) ++ Some (with_alternative alt c) ∷ []))) (rows_of x))
    ≡ encodings (normal_trees (entries_of entries) (rows_of x)) ++ unless_left (Rows own n) (AtRow r) (with_alternative alt c) (encoding (normal_element (element_is el) (tag_of T) c))) h.0
    (row_written p T own n r alt el c entries ts d m (subst (λ x. Matches (profile_of p) (entries_of entries) (take n (rows_of x)) ts) (sym h.0) h.1))
entry_written p (LooseWrapper w) (Rows own n) entries ts T _ alt el c h d m = absurd d
entry_written p (LooseWrapper w) Nothing entries ts T slot alt el c h d m = absurd d
entry_written p (ModuleLeaf l) Segments entries ts T slot alt el c h d m = absurd (subst (λ x. IsValueOf p x c T) d.found m)
entry_written p BitString BitSegments entries ts T slot alt el c h d m = absurd (subst (λ x. IsValueOf p x c T) d.found m)
entry_written p BitSegment BitSegments entries ts T slot alt el c h d m = absurd (subst (λ x. IsValueOf p x c T) d.found m)
entry_written p (Wrapper w) (Root own) entries ts T slot alt el c h d m =
    let v = subst (λ x. IsValueOf p x c T) d.1.found m in
    let is : with_alternative alt c ≡ content.foreign T = ap (λ a. with_alternative a c) d.1.alternative ∙ v.1 in
    ap₂ (λ es x. part_octets w (es ++ Some x ∷ [])) h.1 is ∙ ap₂ (λ es o. part_octets w es ++ o) (sym h.1) (sym (foreign_normal T el c _ d.1.found v.1))
entry_written p (Foreign k) (Foreigns zero) entries ts T slot alt el c h d m = absurd d
entry_written p (Foreign k) (Foreigns (suc n)) entries ts T slot alt el c h d m =
    let v = subst (λ x. IsValueOf p x c T) d.found m in
    let is : with_alternative alt c ≡ content.foreign T = ap (λ a. with_alternative a c) d.alternative ∙ v.1 in
    foreign_joined entries (with_alternative alt c) ∙ ap (λ o. foreign_octets entries ++ o) (ap tree_octets is ∙ sym (foreign_normal T el c n d.found v.1))
entry_written p _ _ entries ts T slot alt el c h d m = absurd h

-- the rows left of as many entries
rows_after : {X : Type 0} (n : ℕ) (xs : List X) (k : ℕ) → k ≡ length (take n xs) → drop n xs ≡ drop k xs
rows_after n [] k e = drop-none n ∙ sym (drop-none k)
  where
    drop-none : {X : Type 0} (m : ℕ) → drop m (let e : List X = [] in e) ≡ []
    drop-none zero = refl
    drop-none (suc m) = refl
rows_after zero (x ∷ xs) k e = ap (λ m. drop m (x ∷ xs)) (sym e)
rows_after (suc n) (x ∷ xs) zero e = absurd (omega (arith, e))
rows_after (suc n) (x ∷ xs) (suc k) e = rows_after n xs k (omega (arith, e))

ended_rows : (p : Named) (node : NodeId) (n : ℕ) (entries : List (Option Content)) (ts : Trees) → Matches (profile_of p) (entries_of entries) (take n (rows_of node)) ts
    → normal_trees (entries_of (entries ++ map absent_content (drop n (rows_of node)))) (rows_of node) ≡ normal_trees (entries_of entries) (rows_of node)
ended_rows p node n entries ts h =
    ap (λ rs. normal_trees (entries_of (entries ++ map absent_content rs)) (rows_of node)) (rows_after n (rows_of node) (length entries) (matches_length p entries (take n (rows_of node)) ts h))
    ∙ normal_ended (rows_of node) (length entries) entries refl

abbrev pub of_contents : Tag → List ℕ → List ℕ
of_contents tag contents = identifier tag true ++ (shortest_length (length contents) ++ contents)

tree_written : (ts : Trees) → foreign_octets (foreign_entries ts) ≡ encodings ts
tree_written none = refl
tree_written (more T ts) = ap (λ o. encoding T ++ o) (tree_written ts)

-- whether an element is a string, whose content is its text
abbrev pub holds_text : CodeElement → Bool
holds_text (LeafElement l) = true
holds_text (ModuleLeaf l) = true
holds_text BitString = true
holds_text _ = false

-- an element that has ended, by its contents
pub ended_written : (p : Named) (e : CodeElement) (n : Next) (entries : List (Option Content)) (ts : Trees) (text : List ℕ) (c : Content) (tag : Tag) → IsHeld p e n entries ts → IsContentOf e n entries text c
    → holds_text e ≡ false → ((T : Tree) × (tag_of T ≡ tag) × IsValueOf p (element_is e) c T) → encoding (normal_element (element_is e) tag c) ≡ of_contents tag (enclosed e n (written e n entries))
ended_written p (LeafElement l) n entries ts text c tag h k apart v = absurd cc
ended_written p Segment n entries ts text c tag h k apart v = absurd k
ended_written p (Sequence node) (Rows own n) entries ts text c tag h k apart v =
    let es = entries_of (entries ++ map absent_content (rows_left (Rows own n))) in
    ap (λ x. encoding (normal_element (element_is (Sequence node)) tag x)) k.1
    ∙ ap (λ x. of_contents tag (encodings x))
    (subst (λ x. normal_trees (entries_of (entries ++ map absent_content (drop n (rows_of x)))) (rows_of node) ≡ normal_trees (entries_of entries) (rows_of node)) (sym h.0) (ended_rows p node n entries ts h.1))
ended_written p (ListOf node) (Items own) entries ts text c tag h k apart v =
    ap (λ x. encoding (normal_element (element_is (ListOf node)) tag x)) k.3
    ∙ ap (λ is. of_contents tag (encodings (normal_items (items_of is) (rows_of node)))) (sym (ap items_in k.2 ∙ items_all k.1))
ended_written p (Wrapper w) n entries ts text c tag h k apart v =
    ap (of_contents tag) (append-nil (encoding (normal_tree c w.node untagged)) ∙ sym (ap (part_octets w) k.1))
ended_written p (LooseWrapper w) Nothing entries ts text c tag h k apart v =
    ap (of_contents tag) (append-nil (encoding (normal_tree c w.node untagged)) ∙ sym (ap (part_octets w) k.1))
ended_written p (LooseWrapper w) (Rows own n) entries ts text c tag h k apart v =
    ap (λ x. encoding (normal_element (element_is (LooseWrapper w)) tag x)) k.1
    ∙ ap (of_contents tag) (append-nil (of_contents sequence_tag (encodings (normal_trees (entries_of (entries ++ map absent_content (rows_left (Rows own n)))) (rows_of w.node))))
    ∙ ap (λ x. of_contents sequence_tag (encodings x))
    (subst (λ x. normal_trees (entries_of (entries ++ map absent_content (drop n (rows_of x)))) (rows_of w.node) ≡ normal_trees (entries_of entries) (rows_of w.node)) (sym h.0) (ended_rows p w.node n entries ts h.1)))
ended_written p (LooseWrapper w) (Either own) entries ts text c tag h k apart v =
    let same : own.node ≡ w.node = ap (λ (x : Wrapped). x.node) h.0 in
    let none_left : normal_trees (entries_of (map absent_content (rows_of w.node))) (rows_of w.node) ≡ none = ended_rows p w.node 0 [] none refl in
    ap (λ x. encoding (normal_element (element_is (LooseWrapper w)) tag x)) k.1
    ∙ ap (of_contents tag) (append-nil (of_contents sequence_tag (encodings (normal_trees (entries_of (entries ++ map absent_content (rows_of own.node))) (rows_of w.node))))
    ∙ ap₂ (λ es node. of_contents sequence_tag (encodings (normal_trees (entries_of (es ++ map absent_content (rows_of node))) (rows_of w.node)))) h.1 same
    ∙ ap (λ x. of_contents sequence_tag (encodings x)) none_left
    ∙ ap (λ es. of_contents sequence_tag (part_octets w es)) (sym h.1))
ended_written p (ModuleLeaf l) n entries ts text c tag h k apart v = absurd cc
ended_written p BitString n entries ts text c tag h k apart v = absurd cc
ended_written p BitSegment n entries ts text c tag h k apart v = absurd k
ended_written p (Foreign m) n entries ts text c tag h k apart v =
    let same : v.0 ≡ constructed k.1 k.2 = (let q : content.foreign v.0 ≡ content.foreign (constructed k.1 k.2) = sym v.2.1 ∙ k.4 in cc) in
    let named : k.1 ≡ tag = ap tag_of (sym same) ∙ v.1 in
    ap (λ x. encoding (normal_element (foreign m) tag x)) k.4 ∙ ap (λ t. of_contents t (encodings k.2)) named ∙ ap (of_contents tag) (sym (ap foreign_octets k.3 ∙ tree_written k.2))
ended_written p _ _ entries ts text c tag h k apart v = absurd h
