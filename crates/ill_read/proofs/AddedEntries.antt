-- An element's content among the entries of the element round it.
use Rattle.ill_tables.specs.declared.profile.Profile.{Profile as Named}
use Rattle.ill_schema.specs.Profiles.{profile_of}
use Rattle.ill_tables.specs.declared.node.Kind.{Kind}
use Rattle.ill_tables.specs.Table.{kind_of}
use Rattle.std.proofs.lemmas.Bool.{and_parts}
use Rattle.ber_core.specs.Foreign.{are_foreign, is_foreign}
use Rattle.std.proofs.Common.{◌≡◌, ℕ, zero, suc, ◌+◌, true, false, IsTrue, List, [], ◌∷◌, ◌++◌, take, drop, map, Option, Some, refl, sym, ap, ap₂, subst, ◌∙◌, inl, inr, slice_get}
use Rattle.ber_tree.specs.Tree.{Tree, Trees, none, more, tag_of}
use Rattle.ber_leaf.specs.Profile.{profile_two}
use Rattle.ill_tables.specs.declared.node.NodeId.{NodeId}
use Rattle.ill_schema.specs.Content.{Content}
use Rattle.ill_schema.specs.Content as content
use Rattle.ill_schema.specs.Meaning.{Matches, MatchItems, Means}
use Rattle.ill_tables.specs.Table.{rows_of}
use Rattle.ill_schema.specs.Tagging.{tagging}
use Rattle.ill_schema.specs.Value.{entries_of, items_of}
use Rattle.ill_tables.specs.declared.part.Row.{Row}
use Rattle.ill_schema.proofs.Unique.{means_unique}
use Rattle.ill_refusals.specs.Element.{Component}
use Rattle.ill_refusals.specs.Next as next
use Rattle.ill_grammar.specs.Elements.{component_of, component_at, element_is, found_is}
use Rattle.ill_grammar.specs.Due.{IsBegun, IsDueIn, IsDueInRows, IsRowDue, IsInnerDue, IsItemDue, behind}
use Rattle.ill_read.specs.code.Drafts.{rows_before}
use Rattle.ill_grammar.specs.Due.{due_with}
use Rattle.ill_grammar.specs.Standing.{HoldsPart, IsHeld, foreign_entries}
use Rattle.ill_grammar.specs.Contents.{with_alternative, absent_content, IsValueOf}
use Rattle.ill_refusals.specs.code.Step.{snoc}
use Rattle.ill_grammar.specs.Due.{DueEntry}
use Rattle.ill_grammar.specs.declared.due.Next.{Next}
use Rattle.ill_grammar.specs.declared.due.Next.TheVariants.{Rows, Inner, Items, Either, Segments, BitSegments, Root, Foreigns, Nothing}
use Rattle.ill_grammar.specs.declared.due.Slot.{Slot}
use Rattle.ill_grammar.specs.declared.due.Slot.TheVariants.{Row as AtRow, Item, Inner as Inside, Segment as InString, Foreign as InForeign}
use Rattle.ill_grammar.specs.declared.element.Element.{Element as CodeElement}
use Rattle.ill_grammar.specs.declared.element.Element.TheVariants.{Leaf, Sequence, List as ListOf, Wrapper, LooseWrapper, Segment, ModuleLeaf, BitString, BitSegment, Foreign}
use Rattle.ill_grammar.specs.Begun.{Begun}
use Rattle.ill_grammar.specs.declared.element.Wrapped.{Wrapped}
use Rattle.ill_grammar.proofs.Entries.{row_added, item_added}
use Rattle.ill_grammar.proofs.Meanings.{begun_means, begun_proper, row_means}
use Rattle.ill_refusals.proofs.OpenElements.{row_proper}
use Rattle.ill_refusals.proofs.WholeElements.{IsProperComponent}

-- in the rows of a sequence
in_row : (p : Named) (T : Tree) (node : NodeId) (n r : ℕ) (alt : Option ℕ) (f : Begun) (c : Content) (held : List (Option Content)) (ts : Trees) → IsRowDue (tag_of T) node n r alt f → IsValueOf p (found_is f) c T
    → Matches (profile_of p) (entries_of held) (take n (rows_of node)) ts
    → Matches (profile_of p) (entries_of (held ++ (map absent_content (drop n (take r (rows_of node))) ++ Some (with_alternative alt c) ∷ []))) (take (r + 1) (rows_of node)) (snoc ts T)
in_row p T node n r alt f c held ts h m k =
    let q = row_means p T node n r alt f c h m in
    row_added p node n r h.row held (with_alternative alt c) ts T h.behind h.lacking h.is_row q.0 q.1 k

-- in a wrapper
in_wrapper : (p : Named) (T : Tree) (w : Wrapped) (d : DueEntry) (c : Content) → IsInnerDue (tag_of T) w d → IsValueOf p (found_is d.found) c T → HoldsPart p w (Some (with_alternative d.alternative c) ∷ []) (more T none)
in_wrapper p T w d c h m =
    let q = begun_means p (component_of w) d.alternative d.found c T (begun_proper (tag_of T) w d.alternative d.found h.begun) h.begun m in
    (with_alternative d.alternative c, T, refl, refl, q.1)

some-append : (cs : List Content) (c : Content) → map Some cs ++ Some c ∷ [] ≡ map Some (cs ++ c ∷ [])
some-append [] c = refl
some-append (d ∷ cs) c = ap (λ xs. Some d ∷ xs) (some-append cs c)

-- in a list
in_list : (p : Named) (T : Tree) (node : NodeId) (d : DueEntry) (c : Content) (items : List Content) (ts : Trees) → IsItemDue (tag_of T) node d → IsValueOf p (found_is d.found) c T
    → MatchItems (profile_of p) (items_of items) (rows_of node) ts → MatchItems (profile_of p) (items_of (items ++ with_alternative d.alternative c ∷ [])) (rows_of node) (snoc ts T)
in_list p T node d c items ts h m k =
    let q = begun_means p (component_at (record { node = node; row = 0 }) h.row) d.alternative d.found c T (row_proper node 0 h.row h.is_row) h.begun m in
    item_added p items (with_alternative d.alternative c) (rows_of node) h.row ts T h.is_row q.1 k

-- a foreign tree more
foreign_more : (ts : Trees) (T : Tree) → foreign_entries ts ++ Some (content.foreign T) ∷ [] ≡ foreign_entries (snoc ts T)
foreign_more none T = refl
foreign_more (more U ts) T = ap (λ es. Some (content.foreign U) ∷ es) (foreign_more ts T)

all_foreign : (n : ℕ) (ts : Trees) (T : Tree) → IsTrue (are_foreign n ts) → IsTrue (is_foreign n T) → IsTrue (are_foreign n (snoc ts T))
all_foreign n none T h k = rw k refl
all_foreign n (more U ts) T h k = let p = and_parts (is_foreign n U) (are_foreign n ts) h in rw p.0 (all_foreign n ts T p.1 k)

-- what an open element holds with one element more
pub held_added : (p : Named) (e : CodeElement) (n : Next) (entries : List (Option Content)) (ts : Trees) (T : Tree) (slot : Slot) (alt : Option ℕ) (el : CodeElement) (c : Content)
    → IsHeld p e n entries ts → IsDueIn (tag_of T) n (due_with slot alt el) → IsValueOf p (element_is el) c T
    → IsHeld p e (behind n slot) (entries ++ (map absent_content (rows_before n slot) ++ Some (with_alternative alt c) ∷ [])) (snoc ts T)
held_added p (Leaf l) Segments entries ts T slot alt el c h d m = absurd (subst (λ x. IsValueOf p x c T) d.found m)
held_added p Segment Segments entries ts T slot alt el c h d m = absurd (subst (λ x. IsValueOf p x c T) d.found m)
held_added p (Sequence node) (Rows own n) entries ts T (AtRow r) alt el c h d m = (
  h.0,
  subst (λ x. Matches (profile_of p) (entries_of (entries ++ (map absent_content (drop n (take r (rows_of own))) ++ Some (with_alternative alt c) ∷ []))) (take (r + 1) (rows_of x)) (snoc ts T)) h.0
      (in_row p T own n r alt (Begun.Element el) c entries ts d m (subst (λ x. Matches (profile_of p) (entries_of entries) (take n (rows_of x)) ts) (sym h.0) h.1)),
)
held_added p (Sequence node) (Rows own n) entries ts T _ alt el c h d m = absurd d
held_added p (ListOf node) (Items own) entries ts T slot alt el c h d m = (
  h.0,
  h.1 ++ with_alternative alt c ∷ [],
  ap (λ xs. xs ++ Some (with_alternative alt c) ∷ []) h.2 ∙ some-append h.1 (with_alternative alt c),
  in_list p T node (due_with slot alt el) c h.1 ts (subst (λ x. IsItemDue (tag_of T) x (due_with slot alt el)) h.0 d) m h.3,
)
held_added p (Wrapper w) (Inner own) entries ts T slot alt el c h d m =
    let part = in_wrapper p T w (due_with slot alt el) c (subst (λ x. IsInnerDue (tag_of T) x (due_with slot alt el)) h.0 d) m in
    subst (λ us. HoldsPart p w (entries ++ Some (with_alternative alt c) ∷ []) (snoc us T)) (sym h.2)
    (subst (λ xs. HoldsPart p w (xs ++ Some (with_alternative alt c) ∷ []) (more T none)) (sym h.1) part)
held_added p (Wrapper w) Nothing entries ts T slot alt el c h d m = absurd d
held_added p (LooseWrapper w) (Either own) entries ts T (AtRow r) alt el c h (inl d) m = absurd (let q : AtRow r ≡ Inside = d.1.slot in cc)
held_added p (LooseWrapper w) (Either own) entries ts T (AtRow r) alt el c h (inr d) m = (
  ap (λ (x : Wrapped). x.node) h.0,
  let same : own.node ≡ w.node = ap (λ (x : Wrapped). x.node) h.0 in
      subst (λ xs. Matches (profile_of p) (entries_of (xs ++ (map absent_content (drop 0 (take r (rows_of own.node))) ++ Some (with_alternative alt c) ∷ []))) (take (r + 1) (rows_of w.node)) (snoc ts T)) (sym h.1)
      (subst (λ us. Matches (profile_of p) (entries_of (map absent_content (drop 0 (take r (rows_of own.node))) ++ Some (with_alternative alt c) ∷ [])) (take (r + 1) (rows_of w.node)) (snoc us T)) (sym h.2)
      (subst (λ x. Matches (profile_of p) (entries_of (map absent_content (drop 0 (take r (rows_of own.node))) ++ Some (with_alternative alt c) ∷ [])) (take (r + 1) (rows_of x)) (snoc none T)) same
      (in_row p T own.node 0 r alt (Begun.Element el) c [] none d.1 m refl))),
)
held_added p (LooseWrapper w) (Either own) entries ts T Inside alt el c h (inl d) m =
    let part = in_wrapper p T w (due_with Inside alt el) c (subst (λ x. IsInnerDue (tag_of T) x (due_with Inside alt el)) h.0 d.1) m in
    subst (λ us. HoldsPart p w (entries ++ Some (with_alternative alt c) ∷ []) (snoc us T)) (sym h.2)
    (subst (λ xs. HoldsPart p w (xs ++ Some (with_alternative alt c) ∷ []) (more T none)) (sym h.1) part)
held_added p (LooseWrapper w) (Either own) entries ts T Item alt el c h (inl d) m = absurd (let q : Item ≡ Inside = d.1.slot in cc)
held_added p (LooseWrapper w) (Either own) entries ts T InString alt el c h (inl d) m = absurd (let q : InString ≡ Inside = d.1.slot in cc)
held_added p (LooseWrapper w) (Either own) entries ts T InForeign alt el c h (inl d) m = absurd (let q : InForeign ≡ Inside = d.1.slot in cc)
held_added p (LooseWrapper w) (Either own) entries ts T _ alt el c h (inr d) m = absurd d.1
held_added p (LooseWrapper w) (Rows own n) entries ts T (AtRow r) alt el c h d m = (
  h.0,
  subst (λ x. Matches (profile_of p) (entries_of (entries ++ (map absent_content (drop n (take r (rows_of own))) ++ Some (with_alternative alt c) ∷ []))) (take (r + 1) (rows_of x)) (snoc ts T)) h.0
      (in_row p T own n r alt (Begun.Element el) c entries ts d m (subst (λ x. Matches (profile_of p) (entries_of entries) (take n (rows_of x)) ts) (sym h.0) h.1)),
)
held_added p (LooseWrapper w) (Rows own n) entries ts T _ alt el c h d m = absurd d
held_added p (LooseWrapper w) Nothing entries ts T slot alt el c h d m = absurd d
held_added p (ModuleLeaf l) Segments entries ts T slot alt el c h d m = absurd (subst (λ x. IsValueOf p x c T) d.found m)
held_added p BitString BitSegments entries ts T slot alt el c h d m = absurd (subst (λ x. IsValueOf p x c T) d.found m)
held_added p BitSegment BitSegments entries ts T slot alt el c h d m = absurd (subst (λ x. IsValueOf p x c T) d.found m)
held_added p (Wrapper w) (Root own) entries ts T slot alt el c h d m =
    let v = subst (λ x. IsValueOf p x c T) d.1.found m in
    let is_any : kind_of w.node ≡ Kind.Any = ap (λ (x : Wrapped). kind_of x.node) (sym h.0) ∙ d.0 in
    let same : with_alternative alt c ≡ content.foreign T = ap (λ a. with_alternative a c) d.1.alternative ∙ v.1 in
    (content.foreign T, T, ap₂ (λ xs x. xs ++ Some x ∷ []) h.1 same, ap (λ us. snoc us T) h.2, (is_any, (refl, v.0)))
held_added p (Foreign n) (Foreigns zero) entries ts T slot alt el c h d m = absurd d
held_added p (Foreign n) (Foreigns (suc k)) entries ts T slot alt el c h d m =
    let v = subst (λ x. IsValueOf p x c T) d.found m in
    let same : with_alternative alt c ≡ content.foreign T = ap (λ a. with_alternative a c) d.alternative ∙ v.1 in
    (h.0, ap₂ (λ xs x. xs ++ Some x ∷ []) h.1 same ∙ foreign_more ts T, subst (λ (x : ℕ). IsTrue (are_foreign x (snoc ts T))) h.0 (all_foreign (suc k) ts T (subst (λ (x : ℕ). IsTrue (are_foreign x ts)) (sym h.0) h.2) v.0))
held_added p _ _ entries ts T slot alt el c h d m = absurd h

-- ---- what is due for a tree is one thing: its slot, and the value that it gives

one_begun : (p : Named) (T : Tree) (w : Component) (a b : Option ℕ) (el : CodeElement) (c : Content) → IsProperComponent profile_two w → IsBegun (tag_of T) w a (Begun.Element el) → IsBegun (tag_of T) w b (Begun.Element el)
    → IsValueOf p (element_is el) c T → with_alternative a c ≡ with_alternative b c
one_begun p T w a b el c ok h k v =
    means_unique (profile_of p) _ _ w.node w.tagging T ok.proper ((begun_means p w a (Begun.Element el) c T ok h v).1) ((begun_means p w b (Begun.Element el) c T ok k v).1)

-- the row of the component that is due
abbrev row_due : Option next.Due → ℕ
row_due (Some (next.part w e n)) = w.part.row
row_due _ = 0

one_row : (p : Named) (T : Tree) (node : NodeId) (n : ℕ) (s t : Slot) (a b : Option ℕ) (el : CodeElement) (c : Content) → IsDueInRows (tag_of T) node n (due_with s a el) → IsDueInRows (tag_of T) node n (due_with t b el)
    → IsValueOf p (element_is el) c T → (s ≡ t) × (with_alternative a c ≡ with_alternative b c)
one_row p T node n (AtRow q) (AtRow r) a b el c h k v =
    let row : q ≡ r = ap row_due (sym h.is ∙ k.is) in
    let is : Some h.row ≡ Some k.row = sym h.is_row ∙ ap (slice_get (rows_of node)) row ∙ k.is_row in
    let same : k.row ≡ h.row = cc in (
      ap AtRow row,
      means_unique (profile_of p) _ _ h.row.node (tagging profile_two h.row) T (row_proper node q h.row h.is_row).proper ((row_means p T node n q a (Begun.Element el) c h v).1)
          (subst (λ (x : Row). Means (profile_of p) (with_alternative b c) x.node (tagging profile_two x) T) same ((row_means p T node n r b (Begun.Element el) c k v).1)),
    )
one_row p T node n (AtRow q) _ a b el c h k v = absurd k
one_row p T node n _ t a b el c h k v = absurd h

pub one_due : (p : Named) (T : Tree) (n : Next) (s t : Slot) (a b : Option ℕ) (el : CodeElement) (c : Content) → IsDueIn (tag_of T) n (due_with s a el) → IsDueIn (tag_of T) n (due_with t b el)
    → IsValueOf p (element_is el) c T → (s ≡ t) × (with_alternative a c ≡ with_alternative b c)
one_due p T (Rows node n) s t a b el c h k v = one_row p T node n s t a b el c h k v
one_due p T (Inner w) s t a b el c h k v = (h.slot ∙ sym k.slot, one_begun p T (component_of w) a b el c (begun_proper (tag_of T) w a (Begun.Element el) h.begun) h.begun k.begun v)
one_due p T (Items node) s t a b el c h k v =
    let is : Some k.row ≡ Some h.row = sym k.is_row ∙ h.is_row in
    let same : k.row ≡ h.row = cc in
    let at : Row → Component = component_at (record { node = node; row = 0 }) in
    (h.slot ∙ sym k.slot, one_begun p T (at h.row) a b el c (row_proper node 0 h.row h.is_row) h.begun (subst (λ (x : Row). IsBegun (tag_of T) (at x) b (Begun.Element el)) same k.begun) v)
one_due p T (Either w) s t a b el c (inl h) (inl k) v = (h.1.slot ∙ sym k.1.slot, one_begun p T (component_of w) a b el c (begun_proper (tag_of T) w a (Begun.Element el) h.1.begun) h.1.begun k.1.begun v)
one_due p T (Either w) s t a b el c (inr h) (inr k) v = one_row p T w.node 0 s t a b el c h.1 k.1 v
one_due p T (Either w) s t a b el c (inl h) (inr k) v = absurd (let q : true ≡ false = sym h.0 ∙ k.0 in cc)
one_due p T (Either w) s t a b el c (inr h) (inl k) v = absurd (let q : false ≡ true = sym h.0 ∙ k.0 in cc)
one_due p T Segments s t a b el c h k v = absurd (subst (λ e. IsValueOf p e c T) h.found v)
one_due p T BitSegments s t a b el c h k v = absurd (subst (λ e. IsValueOf p e c T) h.found v)
one_due p T (Root w) s t a b el c h k v = (h.1.slot ∙ sym k.1.slot, ap (λ x. with_alternative x c) (h.1.alternative ∙ sym k.1.alternative))
one_due p T (Foreigns zero) s t a b el c h k v = absurd h
one_due p T (Foreigns (suc n)) s t a b el c h k v = (h.slot ∙ sym k.slot, ap (λ x. with_alternative x c) (h.alternative ∙ sym k.alternative))
one_due p T Nothing s t a b el c h k v = absurd h
