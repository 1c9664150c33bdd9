-- Which trees are whole elements, by the element that is due.
use Rattle.std.proofs.Common.{◌≡◌, ◌⊎◌, ◌↔◌, ℕ, suc, ◌+◌, ◌-◌, Bool, true, false, ◌||◌, List, [], ◌∷◌, ◌++◌, Some, None, IsTrue, refl, sym, ap, subst, ◌∙◌, inl, inr, slice_get}
use Rattle.std.specs.Prelude.{flat_map, nat_eq}
use Rattle.ber_core.specs.Foreign.{is_foreign, foreign_levels}
use Rattle.ber_tree.specs.Identifier.{Tag}
use Rattle.ber_tree.specs.Tree.{Tree, Trees, constructed, none, more, tag_of, IsString}
use Rattle.ber_leaf.specs.Segments.{leaf_content}
use Rattle.ill_tables.specs.declared.node.Kind.{Kind}
use Rattle.ill_tables.specs.declared.node.LeafKind.{LeafKind}
use Rattle.ill_tables.specs.declared.node.NodeId.{NodeId}
use Rattle.ill_tables.specs.declared.part.PartId.{PartId}
use Rattle.ill_tables.specs.declared.part.Presence.{Presence}
use Rattle.ill_tables.specs.declared.part.Row.{Row}
use Rattle.ill_schema.specs.Content.{Content, simple, alternative, Entries, Items}
use Rattle.ber_leaf.specs.Simple.{Simple}
use Rattle.ill_schema.specs.Content as content
use Rattle.ill_refusals.specs.Element.{Component, components, components_from, inner, Element, leaf, sequence, list, wrapper, loose_wrapper, segment, foreign, left_out, Start, starts, own_starts, retag, tagged_starts, leave_out, component_starts, start, leaf_start}
use Rattle.ber_leaf.specs.Leaf.{Leaf, general_string, visible_string, value, content_fault}
use Rattle.ber_tree.specs.Octets.{are_octets}
use Rattle.ill_schema.specs.Meaning.{Means, Matches, MatchItems, HoldsLeaf, IsLeaf}
use Rattle.ber_leaf.specs.Profile.{Profile}
use Rattle.ill_schema.specs.Tagging.{Tagging, untagged, implicit, explicit, explicit_or_bare, tagging, Tagged, same_tag, sequence_tag, leaf_tag, leaf_of}
use Rattle.ill_schema.specs.Presence.{IsCarried}
use Rattle.ill_tables.specs.Table.{kind_of, rows_of}
use Rattle.ill_schema.specs.TableFacts.{own_tags, alternative_tags, tagging_tags}
use Rattle.ill_schema.proofs.Tags.{is_proper, is_proper_row, is_tagged, Mem, same_place, at_row, tables_proper}
use Rattle.ill_schema.proofs.Unique.{leaf_at, leaf_is, no_leaf, kind_says, any_proper, means_begins, good_choice, same_tags}
use Rattle.ill_refusals.proofs.Rows.{same_tag-is, starting}
use Rattle.ber_tree.proofs.Lists.{two_cases}

-- the tree is a whole element of this sort
abbrev pub IsElement : Profile → Element → Tree → Type 0
IsElement p (leaf l) T = IsLeaf l T × IsTrue (are_octets (leaf_content l T)) × (content_fault p l (leaf_content l T) ≡ None)
IsElement p (sequence node) T = (tag : Tag) × (ts : Trees) × (T ≡ constructed tag ts) × ((es : Entries) × Matches p es (rows_of node) ts)
IsElement p (list node) T = (tag : Tag) × (ts : Trees) × (T ≡ constructed tag ts) × ((is : Items) × MatchItems p is (rows_of node) ts)
IsElement p (wrapper c) T = (tag : Tag) × (U : Tree) × (T ≡ constructed tag (more U none)) × ((v : Content) × Means p v c.node untagged U)
IsElement p (loose_wrapper c) T =
    ((tag : Tag) × (U : Tree) × (T ≡ constructed tag (more U none)) × ((v : Content) × Means p v c.node untagged U))
    ⊎ ((tag : Tag) × (ts : Trees) × (T ≡ constructed tag ts) × ((es : Entries) × Matches p es (rows_of c.node) ts))
IsElement p (segment tag) T = IsString tag T
IsElement p (foreign n) T = IsTrue (is_foreign (suc n) T)
IsElement p (left_out part) T = ⊥

abbrev pub element_at : Kind → NodeId → ℕ → Element
element_at Kind.Seq node n = sequence node
element_at Kind.SeqOf node n = list node
element_at Kind.Choice node n = segment sequence_tag
element_at Kind.Any node n = foreign (foreign_levels - 1)
element_at kind node n = leaf (leaf_at kind n)

pub one_start : (t u : Tag) (e : Element) (s : Start) → starting t (start u e ∷ []) ≡ Some s → (u ≡ t) × (s.element ≡ e)
one_start t u e s h = elim (two_cases (same_tag u t)) [
  | inl k ↦ let q : starting t (start u e ∷ []) ≡ Some (start u e) = rw k refl in let r : Some (start u e) ≡ Some s = sym q ∙ h in
      let w : start u e ≡ s = cc in (same_tag-is u t k, sym (ap (λ (x : Start). x.element) w))
  | inr k ↦ let q : starting t (start u e ∷ []) ≡ None = rw k refl in absurd (let r : None ≡ Some s = sym q ∙ h in cc)
]

-- the start found is the first, or found in the rest
found_first : (t : Tag) (x : Start) (xs : List Start) (s : Start) → starting t (x ∷ xs) ≡ Some s → ((x.tag ≡ t) × (s ≡ x)) ⊎ (starting t xs ≡ Some s)
found_first t x xs s h = elim (two_cases (same_tag x.tag t)) [
  | inl k ↦ let q : starting t (x ∷ xs) ≡ Some x = rw k refl in let r : Some x ≡ Some s = sym q ∙ h in inl (same_tag-is x.tag t k, cc)
  | inr k ↦ let q : starting t (x ∷ xs) ≡ starting t xs = rw k refl in inr (sym q ∙ h)
]

-- the start that a kind has of its own for a tag
pub own_start : (k : Kind) (node : NodeId) (t : Tag) (s : Start) → starting t (own_starts k node) ≡ Some s → Mem t (own_tags k) × (s.element ≡ element_at k node t.number)
unfolding leaf_at
own_start Kind.Seq node t s h = let q = one_start t _ _ s h in (inl (sym q.0), q.1)
own_start Kind.SeqOf node t s h = let q = one_start t _ _ s h in (inl (sym q.0), q.1)
own_start Kind.Choice node t s h = absurd cc
own_start Kind.Any node t s h = absurd cc
own_start (Kind.Leaf LeafKind.Boolean) node t s h = let q = one_start t _ _ s h in (inl (sym q.0), q.1)
own_start (Kind.Leaf LeafKind.Integer) node t s h = let q = one_start t _ _ s h in (inl (sym q.0), q.1)
own_start (Kind.Leaf LeafKind.Enumerated) node t s h = let q = one_start t _ _ s h in (inl (sym q.0), q.1)
own_start (Kind.Leaf LeafKind.Date) node t s h = let q = one_start t _ _ s h in (inl (sym q.0), q.1)
own_start (Kind.Leaf LeafKind.Time) node t s h = let q = one_start t _ _ s h in (inl (sym q.0), q.1)
own_start (Kind.Leaf LeafKind.Printable) node t s h = let q = one_start t _ _ s h in (inl (sym q.0), q.1)
own_start (Kind.Leaf LeafKind.Null) node t s h = let q = one_start t _ _ s h in (inl (sym q.0), q.1)
own_start (Kind.Leaf LeafKind.ObjectIdentifier) node t s h = let q = one_start t _ _ s h in (inl (sym q.0), q.1)
own_start (Kind.Leaf LeafKind.OctetString) node t s h = let q = one_start t _ _ s h in (inl (sym q.0), q.1)
own_start (Kind.Leaf LeafKind.BitString) node t s h = let q = one_start t _ _ s h in (inl (sym q.0), q.1)
own_start (Kind.Leaf LeafKind.ObjectDescriptor) node t s h = let q = one_start t _ _ s h in (inl (sym q.0), q.1)
own_start Kind.IllString node t s h = elim (found_first t (leaf_start general_string) (leaf_start visible_string ∷ []) s h) [
  | inl q ↦ (inl (sym q.0), ap (λ (x : Start). x.element) q.1 ∙ ap (λ (x : Tag). leaf (leaf_at Kind.IllString x.number)) q.0)
  | inr r ↦ let q = one_start t _ _ s r in (inr (inl (sym q.0)), q.1 ∙ ap (λ (x : Tag). leaf (leaf_at Kind.IllString x.number)) q.0)
]

pub implicit_start : (k : Kind) (node : NodeId) (t u : Tag) (s : Start) → IsTrue (is_proper (implicit u) k) → starting t (retag u (own_starts k node)) ≡ Some s
    → (u ≡ t) × (k ≡ Kind.IllString → ⊥) × (s.element ≡ element_at k node t.number)
unfolding leaf_at
implicit_start Kind.Seq node t u s ok h = let q = one_start t _ _ s h in (q.0, λ e. cc, q.1)
implicit_start Kind.SeqOf node t u s ok h = let q = one_start t _ _ s h in (q.0, λ e. cc, q.1)
implicit_start Kind.Choice node t u s ok h = absurd cc
implicit_start Kind.Any node t u s ok h = absurd cc
implicit_start (Kind.Leaf LeafKind.Boolean) node t u s ok h = let q = one_start t _ _ s h in (q.0, λ e. cc, q.1)
implicit_start (Kind.Leaf LeafKind.Integer) node t u s ok h = let q = one_start t _ _ s h in (q.0, λ e. cc, q.1)
implicit_start (Kind.Leaf LeafKind.Enumerated) node t u s ok h = let q = one_start t _ _ s h in (q.0, λ e. cc, q.1)
implicit_start (Kind.Leaf LeafKind.Date) node t u s ok h = let q = one_start t _ _ s h in (q.0, λ e. cc, q.1)
implicit_start (Kind.Leaf LeafKind.Time) node t u s ok h = let q = one_start t _ _ s h in (q.0, λ e. cc, q.1)
implicit_start (Kind.Leaf LeafKind.Printable) node t u s ok h = let q = one_start t _ _ s h in (q.0, λ e. cc, q.1)
implicit_start (Kind.Leaf LeafKind.Null) node t u s ok h = let q = one_start t _ _ s h in (q.0, λ e. cc, q.1)
implicit_start (Kind.Leaf LeafKind.ObjectIdentifier) node t u s ok h = let q = one_start t _ _ s h in (q.0, λ e. cc, q.1)
implicit_start (Kind.Leaf LeafKind.OctetString) node t u s ok h = let q = one_start t _ _ s h in (q.0, λ e. cc, q.1)
implicit_start (Kind.Leaf LeafKind.BitString) node t u s ok h = let q = one_start t _ _ s h in (q.0, λ e. cc, q.1)
implicit_start (Kind.Leaf LeafKind.ObjectDescriptor) node t u s ok h = let q = one_start t _ _ s h in (q.0, λ e. cc, q.1)
implicit_start Kind.IllString node t u s ok h = absurd cc

is_leaf : (k : Kind) (v : Simple) (node : NodeId) (l : Leaf) (e : ℕ) → leaf_of k v ≡ Some l → element_at k node e ≡ leaf (leaf_at k e)
is_leaf Kind.Seq v node l e h = absurd cc
is_leaf Kind.SeqOf v node l e h = absurd cc
is_leaf Kind.Choice v node l e h = absurd cc
is_leaf Kind.Any v node l e h = absurd cc
is_leaf Kind.IllString v node l e h = refl
is_leaf (Kind.Leaf x) v node l e h = refl

leaf_element : (p : Profile) (v : Simple) (node : NodeId) (T : Tree) (k : Kind) (l : Leaf) (u : Tag) → leaf_of k v ≡ Some l → l ≡ leaf_at k (tag_of T).number → HoldsLeaf p l v u T
    → IsElement p (element_at k node (tag_of T).number) T
leaf_element p v node T k l u e a h = subst (λ x. IsElement p x T) (ap leaf a ∙ sym (is_leaf k v node l _ e)) (h.1, h.2.0, h.2.1)

-- at a kind's own tag: what means a value is a whole element, and the other way round
own_element : (p : Profile) (v : Content) (node : NodeId) (T : Tree) → (kind_of node ≡ Kind.Choice → ⊥) → Means p v node untagged T → IsElement p (element_at (kind_of node) node (tag_of T).number) T
own_element p (simple v) node T n h =
    leaf_element p v node T (kind_of node) h.0 (leaf_tag h.0) h.1 (leaf_is (kind_of node) v h.0 h.1 ∙ ap (λ (x : Tag). leaf_at (kind_of node) x.number) (sym h.2.0)) h.2
own_element p (content.sequence es) node T n h =
    subst (λ k. IsElement p (element_at k node (tag_of T).number) T) (sym h.0) (sequence_tag, h.1.0, h.1.1, (es, h.1.2))
own_element p (content.list is) node T n h =
    subst (λ k. IsElement p (element_at k node (tag_of T).number) T) (sym h.0) (sequence_tag, h.1.0, h.1.1, (is, h.1.2))
own_element p (alternative m w) node T n h = absurd (n h.1.0)
own_element p (content.foreign V) node T n h = subst (λ k. IsElement p (element_at k node (tag_of T).number) T) (sym h.0) h.1.1

pub improper_choice : (t : Tag) (k : Kind) → IsTrue (is_proper (implicit t) k) → k ≡ Kind.Choice → ⊥
improper_choice t k ok e = let x : IsTrue (is_proper (implicit t) Kind.Choice) = subst (λ z. IsTrue (is_proper (implicit t) z)) e ok in cc

-- under an implicit tag
implicit_element : (p : Profile) (v : Content) (node : NodeId) (t : Tag) (T : Tree) → IsTrue (is_proper (implicit t) (kind_of node)) → Means p v node (implicit t) T
    → IsElement p (element_at (kind_of node) node (tag_of T).number) T
implicit_element p (simple v) node t T ok h =
    leaf_element p v node T (kind_of node) h.0 t h.1 (leaf_is (kind_of node) v h.0 h.1 ∙ kind_says t (kind_of node) _ _ ok v h.0 h.1) h.2
implicit_element p (content.sequence es) node t T ok h =
    subst (λ k. IsElement p (element_at k node (tag_of T).number) T) (sym h.0) (t, h.1.0, h.1.1, (es, h.1.2))
implicit_element p (content.list is) node t T ok h =
    subst (λ k. IsElement p (element_at k node (tag_of T).number) T) (sym h.0) (t, h.1.0, h.1.1, (is, h.1.2))
implicit_element p (alternative m w) node t T ok h = absurd (improper_choice t (kind_of node) ok h.1.0)
implicit_element p (content.foreign V) node t T ok h = absurd (let a = any_proper (implicit t) (kind_of node) h.0 ok in let q : implicit t ≡ explicit a.0 = a.1 in cc)

-- the tag of an element of a kind where no other is in its place
unfoldable pub own_of : Kind → ℕ → Tag
own_of Kind.Seq n = sequence_tag
own_of Kind.SeqOf n = sequence_tag
own_of Kind.Choice n = sequence_tag
own_of Kind.Any n = sequence_tag
own_of kind n = leaf_tag (leaf_at kind n)

pub own_is : (k : Kind) (t : Tag) → Mem t (own_tags k) → t ≡ own_of k t.number
unfolding leaf_at own_of
own_is Kind.Seq t (inl e) = e
own_is Kind.SeqOf t (inl e) = e
own_is (Kind.Leaf LeafKind.Boolean) t (inl e) = e
own_is (Kind.Leaf LeafKind.Integer) t (inl e) = e
own_is (Kind.Leaf LeafKind.Enumerated) t (inl e) = e
own_is (Kind.Leaf LeafKind.Date) t (inl e) = e
own_is (Kind.Leaf LeafKind.Time) t (inl e) = e
own_is (Kind.Leaf LeafKind.Printable) t (inl e) = e
own_is (Kind.Leaf LeafKind.Null) t (inl e) = e
own_is (Kind.Leaf LeafKind.ObjectIdentifier) t (inl e) = e
own_is (Kind.Leaf LeafKind.OctetString) t (inl e) = e
own_is (Kind.Leaf LeafKind.BitString) t (inl e) = e
own_is (Kind.Leaf LeafKind.ObjectDescriptor) t (inl e) = e
own_is Kind.IllString t (inl e) = subst (λ (x : Tag). x ≡ leaf_tag (leaf_at Kind.IllString x.number)) (sym e) refl
own_is Kind.IllString t (inr (inl e)) = subst (λ (x : Tag). x ≡ leaf_tag (leaf_at Kind.IllString x.number)) (sym e) refl
own_is Kind.Seq t (inr m) = absurd m
own_is Kind.SeqOf t (inr m) = absurd m
own_is (Kind.Leaf LeafKind.Boolean) t (inr m) = absurd m
own_is (Kind.Leaf LeafKind.Integer) t (inr m) = absurd m
own_is (Kind.Leaf LeafKind.Enumerated) t (inr m) = absurd m
own_is (Kind.Leaf LeafKind.Date) t (inr m) = absurd m
own_is (Kind.Leaf LeafKind.Time) t (inr m) = absurd m
own_is (Kind.Leaf LeafKind.Printable) t (inr m) = absurd m
own_is (Kind.Leaf LeafKind.Null) t (inr m) = absurd m
own_is (Kind.Leaf LeafKind.ObjectIdentifier) t (inr m) = absurd m
own_is (Kind.Leaf LeafKind.OctetString) t (inr m) = absurd m
own_is (Kind.Leaf LeafKind.BitString) t (inr m) = absurd m
own_is (Kind.Leaf LeafKind.ObjectDescriptor) t (inr m) = absurd m
own_is Kind.IllString t (inr (inr m)) = absurd m
own_is Kind.Choice t m = absurd m
own_is Kind.Any t m = absurd m

pub leaf_value : (k : Kind) (n : ℕ) (octets : List ℕ) → ((k ≡ Kind.Seq) ⊎ (k ≡ Kind.SeqOf) ⊎ (k ≡ Kind.Choice) ⊎ (k ≡ Kind.Any) → ⊥) → leaf_of k (value (leaf_at k n) octets) ≡ Some (leaf_at k n)
unfolding leaf_at
leaf_value Kind.Seq n octets h = absurd (h (inl refl))
leaf_value Kind.SeqOf n octets h = absurd (h (inr (inl refl)))
leaf_value Kind.Choice n octets h = absurd (h (inr (inr (inl refl))))
leaf_value Kind.Any n octets h = absurd (h (inr (inr (inr refl))))
leaf_value (Kind.Leaf LeafKind.Boolean) n octets h = refl
leaf_value (Kind.Leaf LeafKind.Integer) n octets h = refl
leaf_value (Kind.Leaf LeafKind.Enumerated) n octets h = refl
leaf_value (Kind.Leaf LeafKind.Date) n octets h = refl
leaf_value (Kind.Leaf LeafKind.Time) n octets h = refl
leaf_value (Kind.Leaf LeafKind.Printable) n octets h = refl
leaf_value (Kind.Leaf LeafKind.Null) n octets h = refl
leaf_value (Kind.Leaf LeafKind.ObjectIdentifier) n octets h = refl
leaf_value (Kind.Leaf LeafKind.OctetString) n octets h = refl
leaf_value (Kind.Leaf LeafKind.BitString) n octets h = refl
leaf_value (Kind.Leaf LeafKind.ObjectDescriptor) n octets h = refl
leaf_value Kind.IllString n octets h = elim (two_cases (nat_eq n 27)) [ inl e ↦ rw e refl | inr e ↦ rw e refl ]

-- a whole element of a kind means a value, under a tagging that it suits
kind_value : (p : Profile) (node : NodeId) (g : Tagging) (T : Tree) (k : Kind) → kind_of node ≡ k → (k ≡ Kind.Choice → ⊥)
    → ((E : Tag → Tree → Type 0) → E (tag_of T) T → Tagged g (own_of k (tag_of T).number) E T)
    → IsElement p (element_at k node (tag_of T).number) T → (v : Content) × Means p v node g T
unfolding own_of
kind_value p node g T Kind.Seq e n lift h =
    (content.sequence h.3.0, (e, lift _ (h.1, h.2 ∙ ap (λ t. constructed t h.1) (sym (ap tag_of h.2)), h.3.1)))
kind_value p node g T Kind.SeqOf e n lift h =
    (content.list h.3.0, (e, lift _ (h.1, h.2 ∙ ap (λ t. constructed t h.1) (sym (ap tag_of h.2)), h.3.1)))
kind_value p node g T Kind.Choice e n lift h = absurd (n refl)
kind_value p node g T Kind.Any e n lift h = (content.foreign T, (e, lift _ (refl, h)))
kind_value p node g T Kind.IllString e n lift h =
    let l = leaf_at Kind.IllString (tag_of T).number in
    (simple (value l (leaf_content l T)), (l, ap (λ k. leaf_of k (value l (leaf_content l T))) e ∙ leaf_value Kind.IllString (tag_of T).number (leaf_content l T) (λ x. no_shape x), lift _ (refl, h.0, (h.1, h.2, refl))))
  where
    no_shape : (Kind.IllString ≡ Kind.Seq) ⊎ (Kind.IllString ≡ Kind.SeqOf) ⊎ (Kind.IllString ≡ Kind.Choice) ⊎ (Kind.IllString ≡ Kind.Any) → ⊥
    no_shape (inl x) = cc
    no_shape (inr (inl x)) = cc
    no_shape (inr (inr (inl x))) = cc
    no_shape (inr (inr (inr x))) = cc
kind_value p node g T (Kind.Leaf x) e n lift h =
    let l = leaf_at (Kind.Leaf x) (tag_of T).number in
    (simple (value l (leaf_content l T)), (l, ap (λ k. leaf_of k (value l (leaf_content l T))) e ∙ leaf_value (Kind.Leaf x) (tag_of T).number (leaf_content l T) (λ y. no_shape x y), lift _ (refl, h.0, (h.1, h.2, refl))))
  where
    no_shape : (x : LeafKind) → (Kind.Leaf x ≡ Kind.Seq) ⊎ (Kind.Leaf x ≡ Kind.SeqOf) ⊎ (Kind.Leaf x ≡ Kind.Choice) ⊎ (Kind.Leaf x ≡ Kind.Any) → ⊥
    no_shape x (inl y) = cc
    no_shape x (inr (inl y)) = cc
    no_shape x (inr (inr (inl y))) = cc
    no_shape x (inr (inr (inr y))) = cc

own_value : (p : Profile) (node : NodeId) (T : Tree) → (kind_of node ≡ Kind.Choice → ⊥) → Mem (tag_of T) (own_tags (kind_of node)) → IsElement p (element_at (kind_of node) node (tag_of T).number) T
    → (v : Content) × Means p v node untagged T
own_value p node T n m h = kind_value p node untagged T (kind_of node) refl n (λ E x. subst (λ t. E t T) (own_is (kind_of node) (tag_of T) m) x) h

implicit_value : (p : Profile) (node : NodeId) (t : Tag) (T : Tree) → IsTrue (is_proper (implicit t) (kind_of node)) → t ≡ tag_of T
    → IsElement p (element_at (kind_of node) node (tag_of T).number) T → (v : Content) × Means p v node (implicit t) T
implicit_value p node t T ok e h = kind_value p node (implicit t) T (kind_of node) refl (λ k. improper_choice t (kind_of node) ok k) (λ E x. subst (λ u. E u T) (sym e) x) h

-- an explicit tag is round what means the value
pub explicit_means : (p : Profile) (v : Content) (node : NodeId) (t : Tag) (T : Tree) → Means p v node (explicit t) T ↔ ((U : Tree) × (T ≡ constructed t (more U none)) × Means p v node untagged U)
explicit_means p (content.foreign V) node t T = ((λ h. (h.1.0, h.1.1, (h.0, h.1.2))), (λ h. (h.2.0, (h.0, h.1, h.2.1))))
explicit_means p (simple v) node t T = ((λ h. (h.2.0, h.2.1, (h.0, h.1, h.2.2))), (λ h. (h.2.0, h.2.1, (h.0, h.1, h.2.2))))
explicit_means p (content.sequence es) node t T = ((λ h. (h.1.0, h.1.1, (h.0, h.1.2))), (λ h. (h.2.0, (h.0, h.1, h.2.1))))
explicit_means p (content.list is) node t T = ((λ h. (h.1.0, h.1.1, (h.0, h.1.2))), (λ h. (h.2.0, (h.0, h.1, h.2.1))))
explicit_means p (alternative m w) node t T = ((λ h. (h.2.0, h.2.1, (h.0, h.1, h.2.2))), (λ h. (h.2.0, h.2.1, (h.0, h.1, h.2.2))))

abbrev pub is_carried : Presence → Bool
is_carried Presence.LeftOut = false
is_carried _ = true

-- a component whose tag suits its node, and which is carried if it is an untagged choice
pub record IsProperComponent (p : Profile) (c : Component) : Type 0 where
  pub proper : IsTrue (is_proper c.tagging (kind_of c.node))
  pub carried : IsTrue (is_tagged c.tagging || is_carried c.presence)

-- an element as the tables have it
abbrev pub IsProper : Profile → Element → Type 0
IsProper p (leaf l) = Unit {0}
IsProper p (sequence node) = kind_of node ≡ Kind.Seq
IsProper p (list node) = kind_of node ≡ Kind.SeqOf
IsProper p (wrapper c) = (c.presence ≡ Presence.Must) × (c.tagging ≡ untagged)
IsProper p (foreign n) = Unit {0}
IsProper p (loose_wrapper c) = (c.presence ≡ Presence.Must) × (c.tagging ≡ untagged) × (kind_of c.node ≡ Kind.Seq)
IsProper p (segment tag) = Unit {0}
IsProper p (left_out part) = Unit {0}

pub bare_kind : (t : Tag) (k : Kind) → IsTrue (is_proper (explicit_or_bare t) k) → k ≡ Kind.Seq
bare_kind t Kind.Seq h = refl
bare_kind t Kind.SeqOf h = absurd cc
bare_kind t Kind.Choice h = absurd cc
bare_kind t Kind.IllString h = absurd cc
bare_kind t Kind.Any h = absurd cc
bare_kind t (Kind.Leaf x) h = absurd cc

own_proper : (p : Profile) (node : NodeId) (k : Kind) (n : ℕ) → kind_of node ≡ k → IsProper p (element_at k node n)
own_proper p node Kind.Seq n e = e
own_proper p node Kind.SeqOf n e = e
own_proper p node Kind.Choice n e = tt
own_proper p node Kind.IllString n e = tt
own_proper p node Kind.Any n e = tt
own_proper p node (Kind.Leaf x) n e = tt

tagged_proper : (p : Profile) (g : Tagging) (c : Component) (t : Tag) (s : Start) → IsTrue (is_proper g (kind_of c.node)) → starting t (tagged_starts g c) ≡ Some s → IsProper p s.element
tagged_proper p untagged c t s ok h = subst (λ x. IsProper p x) (sym ((own_start (kind_of c.node) c.node t s h).1)) (own_proper p c.node (kind_of c.node) _ refl)
tagged_proper p (implicit u) c t s ok h = subst (λ x. IsProper p x) (sym ((implicit_start (kind_of c.node) c.node t u s ok h).2)) (own_proper p c.node (kind_of c.node) _ refl)
tagged_proper p (explicit u) c t s ok h = subst (λ x. IsProper p x) (sym ((one_start t u (wrapper (inner c)) s h).1)) (refl, refl)
tagged_proper p (explicit_or_bare u) c t s ok h = subst (λ x. IsProper p x) (sym ((one_start t u (loose_wrapper (inner c)) s h).1)) (refl, refl, bare_kind u (kind_of c.node) ok)

pub choice_starts : (k : Kind) (node : NodeId) (t : Tag) (s : Start) → starting t (own_starts k node) ≡ Some s → k ≡ Kind.Choice → ⊥
choice_starts k node t s h e = let r : starting t (own_starts Kind.Choice node) ≡ Some s = subst (λ x. starting t (own_starts x node) ≡ Some s) e h in cc

tagged_element : (p : Profile) (g : Tagging) (c : Component) (s : Start) (v : Content) (T : Tree) → IsTrue (is_proper g (kind_of c.node)) → starting (tag_of T) (tagged_starts g c) ≡ Some s
    → Means p v c.node g T → IsElement p s.element T
tagged_element p untagged c s v T ok h m =
    subst (λ x. IsElement p x T) (sym ((own_start (kind_of c.node) c.node (tag_of T) s h).1)) (own_element p v c.node T (λ e. choice_starts (kind_of c.node) c.node (tag_of T) s h e) m)
tagged_element p (implicit u) c s v T ok h m =
    subst (λ x. IsElement p x T) (sym ((implicit_start (kind_of c.node) c.node (tag_of T) u s ok h).2)) (implicit_element p v c.node u T ok m)
tagged_element p (explicit u) c s v T ok h m =
    let q = (explicit_means p v c.node u T).0 m in
    subst (λ x. IsElement p x T) (sym ((one_start (tag_of T) u (wrapper (inner c)) s h).1)) (u, q.0, q.1, (v, q.2))
tagged_element p (explicit_or_bare u) c s v T ok h m =
    subst (λ x. IsElement p x T) (sym ((one_start (tag_of T) u (loose_wrapper (inner c)) s h).1)) (loose v (bare_kind u (kind_of c.node) ok) m)
  where
    loose : (v : Content) → kind_of c.node ≡ Kind.Seq → Means p v c.node (explicit_or_bare u) T → IsElement p (loose_wrapper (inner c)) T
    loose (content.sequence es) k (_, inl x) = inl (u, x.0, x.1, (content.sequence es, (k, x.2)))
    loose (content.sequence es) k (_, inr x) = inr (u, x.0, x.1, (es, x.2))
    loose (simple w) k x = absurd (no_leaf (kind_of c.node) w x.0 x.1 (inl k))
    loose (content.list is) k x = absurd (let q : Kind.Seq ≡ Kind.SeqOf = sym k ∙ x.0 in cc)
    loose (alternative n w) k x = absurd (let q : Kind.Seq ≡ Kind.Choice = sym k ∙ x.1.0 in cc)
    loose (content.foreign V) k x = absurd (let q : Kind.Seq ≡ Kind.Any = sym k ∙ x.0 in cc)

tagged_value : (p : Profile) (g : Tagging) (c : Component) (s : Start) (T : Tree) → IsTrue (is_proper g (kind_of c.node)) → starting (tag_of T) (tagged_starts g c) ≡ Some s
    → IsElement p s.element T → (v : Content) × Means p v c.node g T
tagged_value p untagged c s T ok h m =
    let q = own_start (kind_of c.node) c.node (tag_of T) s h in
    own_value p c.node T (λ e. choice_starts (kind_of c.node) c.node (tag_of T) s h e) q.0 (subst (λ x. IsElement p x T) q.1 m)
tagged_value p (implicit u) c s T ok h m =
    let q = implicit_start (kind_of c.node) c.node (tag_of T) u s ok h in
    implicit_value p c.node u T ok q.0 (subst (λ x. IsElement p x T) q.2 m)
tagged_value p (explicit u) c s T ok h m =
    let q = one_start (tag_of T) u (wrapper (inner c)) s h in
    let x : IsElement p (wrapper (inner c)) T = subst (λ x. IsElement p x T) q.1 m in
    (x.3.0, (explicit_means p x.3.0 c.node u T).1 (x.1, x.2 ∙ ap (λ t. constructed t (more x.1 none)) (sym (ap tag_of x.2) ∙ sym q.0), x.3.1))
tagged_value p (explicit_or_bare u) c s T ok h m =
    let q = one_start (tag_of T) u (loose_wrapper (inner c)) s h in
    loose q.0 (subst (λ x. IsElement p x T) q.1 m)
  where
    sequence_value : (U : Tree) (v : Content) → kind_of c.node ≡ Kind.Seq → Means p v c.node untagged U → T ≡ constructed u (more U none) → (v : Content) × Means p v c.node (explicit_or_bare u) T
    sequence_value U (content.sequence es) k x e = (content.sequence es, (k, inl (U, e, x.1)))
    sequence_value U (simple w) k x e = absurd (no_leaf (kind_of c.node) w x.0 x.1 (inl k))
    sequence_value U (content.list is) k x e = absurd (let q : Kind.Seq ≡ Kind.SeqOf = sym k ∙ x.0 in cc)
    sequence_value U (alternative n w) k x e = absurd (let q : Kind.Seq ≡ Kind.Choice = sym k ∙ x.1.0 in cc)
    sequence_value U (content.foreign V) k x e = absurd (let q : Kind.Seq ≡ Kind.Any = sym k ∙ x.0 in cc)

    loose : u ≡ tag_of T → IsElement p (loose_wrapper (inner c)) T → (v : Content) × Means p v c.node (explicit_or_bare u) T
    loose e (inl x) = sequence_value x.1 x.3.0 (bare_kind u (kind_of c.node) ok) x.3.1 (x.2 ∙ ap (λ t. constructed t (more x.1 none)) (sym (ap tag_of x.2) ∙ sym e))
    loose e (inr x) = (content.sequence x.3.0, (bare_kind u (kind_of c.node) ok, inr (x.1, x.2 ∙ ap (λ t. constructed t x.1) (sym (ap tag_of x.2) ∙ sym e), x.3.1)))

-- the starts of a component that is carried, and of one that is left out
pub carried_starts : (c : Component) (pr : Presence) → c.presence ≡ pr → IsCarried pr → component_starts c ≡ tagged_starts c.tagging c
carried_starts c Presence.Must e h = rw e refl
carried_starts c Presence.May e h = rw e refl
carried_starts c (Presence.Default d) e h = rw e refl
carried_starts c Presence.LeftOut e h = absurd h

pub left_found : (t : Tag) (part : PartId) (ss : List Start) (s : Start) → starting t (leave_out part ss) ≡ Some s → s.element ≡ left_out part
left_found t part [] s h = absurd cc
left_found t part (x ∷ xs) s h = elim (found_first t (start x.tag (left_out part)) (leave_out part xs) s h) [
  | inl q ↦ ap (λ (z : Start). z.element) q.1
  | inr q ↦ left_found t part xs s q
]

pub carried_or_left : (pr : Presence) → IsCarried pr ⊎ (pr ≡ Presence.LeftOut)
carried_or_left Presence.Must = inl tt
carried_or_left Presence.May = inl tt
carried_or_left (Presence.Default d) = inl tt
carried_or_left Presence.LeftOut = inr refl

pub left_starts : (c : Component) → c.presence ≡ Presence.LeftOut → component_starts c ≡ leave_out c.part (tagged_starts c.tagging c)
left_starts c e = rw e refl

component_element : (p : Profile) (c : Component) (s : Start) (v : Content) (T : Tree) → IsTrue (is_proper c.tagging (kind_of c.node)) → starting (tag_of T) (component_starts c) ≡ Some s
    → IsCarried c.presence → Means p v c.node c.tagging T → IsElement p s.element T
component_element p c s v T ok h i m =
    tagged_element p c.tagging c s v T ok (subst (λ x. starting (tag_of T) x ≡ Some s) (carried_starts c c.presence refl i) h) m

component_value : (p : Profile) (c : Component) (s : Start) (T : Tree) → IsTrue (is_proper c.tagging (kind_of c.node)) → starting (tag_of T) (component_starts c) ≡ Some s
    → IsElement p s.element T → IsCarried c.presence × ((v : Content) × Means p v c.node c.tagging T)
component_value p c s T ok h m = elim (carried_or_left c.presence) [
  | inl i ↦ (i, tagged_value p c.tagging c s T ok (subst (λ x. starting (tag_of T) x ≡ Some s) (carried_starts c c.presence refl i) h) m)
  | inr e ↦
      let q = left_found (tag_of T) c.part (tagged_starts c.tagging c) s (subst (λ x. starting (tag_of T) x ≡ Some s) (left_starts c e) h) in
      absurd (subst (λ x. IsElement p x T) q m)
]

component_proper : (p : Profile) (c : Component) (t : Tag) (s : Start) → IsTrue (is_proper c.tagging (kind_of c.node)) → starting t (component_starts c) ≡ Some s → IsProper p s.element
component_proper p c t s ok h = elim (carried_or_left c.presence) [
  | inl i ↦ tagged_proper p c.tagging c t s ok (subst (λ x. starting t x ≡ Some s) (carried_starts c c.presence refl i) h)
  | inr e ↦ subst (λ x. IsProper p x) (sym (left_found t c.part (tagged_starts c.tagging c) s (subst (λ x. starting t x ≡ Some s) (left_starts c e) h))) tt
]

abbrev pub component_of : Profile → NodeId → ℕ → Row → Component
component_of p node n row = record { part = record { node = node; row = n }; presence = row.presence; tagging = tagging p row; node = row.node }

append_found : (t : Tag) (xs ys : List Start) (s : Start) → starting t (xs ++ ys) ≡ Some s → (starting t xs ≡ Some s) ⊎ (starting t ys ≡ Some s)
append_found t [] ys s h = inr h
append_found t (x ∷ xs) ys s h = elim (two_cases (same_tag x.tag t)) [
  | inl k ↦ let q : starting t (x ∷ (xs ++ ys)) ≡ Some x = rw k refl in let r : starting t (x ∷ xs) ≡ Some x = rw k refl in inl (r ∙ sym q ∙ h)
  | inr k ↦
      let q : starting t (x ∷ (xs ++ ys)) ≡ starting t (xs ++ ys) = rw k refl in
      let r : starting t (x ∷ xs) ≡ starting t xs = rw k refl in
      elim (append_found t xs ys s (sym q ∙ h)) [ inl a ↦ inl (r ∙ a) | inr b ↦ inr b ]
]

alternatives_found : (p : Profile) (t : Tag) (node : NodeId) (n : ℕ) (rs : List Row) (s : Start) → starting t (flat_map component_starts (components_from p node n rs)) ≡ Some s
    → (m : ℕ) × (row : Row) × (k : ℕ) × (slice_get rs m ≡ Some row) × (starting t (component_starts (component_of p node k row)) ≡ Some s)
alternatives_found p t node n [] s h = absurd cc
alternatives_found p t node n (row ∷ rs) s h = elim (append_found t (component_starts (component_of p node n row)) (flat_map component_starts (components_from p node (n + 1) rs)) s h) [
  | inl a ↦ (0, row, n, refl, a)
  | inr b ↦ let r = alternatives_found p t node (n + 1) rs s b in (suc r.0, r.1, r.2, r.3, r.4)
]

-- an untagged choice begins by its alternatives
abbrev alternative_starts : Profile → Kind → NodeId → List Start
alternative_starts p k node = elim k as (λ _. List Start) [ Kind.Choice ↦ flat_map component_starts (components p node) | _ ↦ [] ]

no_alternatives : (p : Profile) (k : Kind) (node : NodeId) (t : Tag) (s : Start) → starting t (alternative_starts p k node) ≡ Some s
    → (k ≡ Kind.Choice) × (starting t (flat_map component_starts (components p node)) ≡ Some s)
no_alternatives p Kind.Choice node t s h = (refl, h)
no_alternatives p Kind.Seq node t s h = absurd cc
no_alternatives p Kind.SeqOf node t s h = absurd cc
no_alternatives p Kind.IllString node t s h = absurd cc
no_alternatives p Kind.Any node t s h = absurd cc
no_alternatives p (Kind.Leaf x) node t s h = absurd cc

starts_found : (p : Profile) (g : Tagging) (c : Component) (t : Tag) (s : Start) → c.tagging ≡ g → starting t (starts p c) ≡ Some s
    → (starting t (component_starts c) ≡ Some s) ⊎ ((c.tagging ≡ untagged) × (kind_of c.node ≡ Kind.Choice) × (starting t (flat_map component_starts (components p c.node)) ≡ Some s))
starts_found p untagged c t s e h =
    let q : starts p c ≡ component_starts c ++ alternative_starts p (kind_of c.node) c.node =
    ap (λ x. elim x as (λ _. List Start) [ untagged ↦ component_starts c ++ alternative_starts p (kind_of c.node) c.node | _ ↦ component_starts c ]) e in
    elim (append_found t (component_starts c) (alternative_starts p (kind_of c.node) c.node) s (ap (starting t) (sym q) ∙ h)) [
      | inl a ↦ inl a
      | inr b ↦ let r = no_alternatives p (kind_of c.node) c.node t s b in inr (e, r.0, r.1)
    ]
starts_found p (implicit u) c t s e h = inl (ap (starting t) (sym (ap (λ x. elim x as (λ _. List Start) [ untagged ↦ component_starts c ++ alternative_starts p (kind_of c.node) c.node | _ ↦ component_starts c ]) e)) ∙ h)
starts_found p (explicit u) c t s e h = inl (ap (starting t) (sym (ap (λ x. elim x as (λ _. List Start) [ untagged ↦ component_starts c ++ alternative_starts p (kind_of c.node) c.node | _ ↦ component_starts c ]) e)) ∙ h)
starts_found p (explicit_or_bare u) c t s e h = inl (ap (starting t) (sym (ap (λ x. elim x as (λ _. List Start) [ untagged ↦ component_starts c ++ alternative_starts p (kind_of c.node) c.node | _ ↦ component_starts c ]) e)) ∙ h)

-- the tag that a tagged row begins by
tagged_tag : (p : Profile) (g : Tagging) (c : Component) (t : Tag) (s : Start) → IsTrue (is_proper g (kind_of c.node)) → IsTrue (is_tagged g) → starting t (tagged_starts g c) ≡ Some s → Mem t (tagging_tags g [])
tagged_tag p untagged c t s ok tagged h = absurd cc
tagged_tag p (implicit u) c t s ok tagged h = inl (sym ((implicit_start (kind_of c.node) c.node t u s ok h).0))
tagged_tag p (explicit u) c t s ok tagged h = inl (sym ((one_start t u (wrapper (inner c)) s h).0))
tagged_tag p (explicit_or_bare u) c t s ok tagged h = inl (sym ((one_start t u (loose_wrapper (inner c)) s h).0))

left_tag : (t : Tag) (part : PartId) (ss : List Start) (s : Start) → starting t (leave_out part ss) ≡ Some s → (x : Start) × (starting t ss ≡ Some x)
left_tag t part [] s h = absurd cc
left_tag t part (x ∷ xs) s h = elim (two_cases (same_tag x.tag t)) [
  | inl k ↦ (x, rw k refl)
  | inr k ↦ let q : starting t (leave_out part (x ∷ xs)) ≡ starting t (leave_out part xs) = rw k refl in let r = left_tag t part xs s (sym q ∙ h) in let w : starting t (x ∷ xs) ≡ starting t xs = rw k refl in (r.0, w ∙ r.1)
]

component_tag : (p : Profile) (c : Component) (t : Tag) (s : Start) → IsTrue (is_proper c.tagging (kind_of c.node)) → IsTrue (is_tagged c.tagging) → starting t (component_starts c) ≡ Some s
    → Mem t (tagging_tags c.tagging [])
component_tag p c t s ok tagged h = elim (carried_or_left c.presence) [
  | inl i ↦ tagged_tag p c.tagging c t s ok tagged (subst (λ x. starting t x ≡ Some s) (carried_starts c c.presence refl i) h)
  | inr e ↦
      let q = left_tag t c.part (tagged_starts c.tagging c) s (subst (λ x. starting t x ≡ Some s) (left_starts c e) h) in
      tagged_tag p c.tagging c t q.0 ok tagged q.1
]

-- what means a value at a component is a whole element of the sort by which the component begins there
pub start_element : (p : Profile) (c : Component) (s : Start) (v : Content) (T : Tree) → IsProperComponent p c → starting (tag_of T) (starts p c) ≡ Some s
    → IsCarried c.presence → Means p v c.node c.tagging T → IsElement p s.element T
start_element p c s v T ok h i m = elim (starts_found p c.tagging c (tag_of T) s refl h) [
  | inl a ↦ component_element p c s v T ok.proper a i m
  | inr b ↦ choice_element c.node b.1 v (subst (λ g. Means p v c.node g T) b.0 m) b.2
]
  where
    choice_element : (node : NodeId) → kind_of node ≡ Kind.Choice → (v : Content) → Means p v node untagged T
        → starting (tag_of T) (flat_map component_starts (components p node)) ≡ Some s → IsElement p s.element T
    choice_element node k (simple w) x f = absurd (no_leaf (kind_of node) w x.0 x.1 (inr (inr k)))
    choice_element node k (content.sequence es) x f = absurd (let q : Kind.Seq ≡ Kind.Choice = sym x.0 ∙ k in cc)
    choice_element node k (content.foreign V) x f = absurd (let q : Kind.Any ≡ Kind.Choice = sym x.0 ∙ k in cc)
    choice_element node k (content.list is) x f = absurd (let q : Kind.SeqOf ≡ Kind.Choice = sym x.0 ∙ k in cc)
    choice_element node k (alternative n w) x f =
        let r = alternatives_found p (tag_of T) node 0 (rows_of node) s f in
        let good = good_choice p node k in
        let row = x.0 in
        let proper : IsTrue (is_proper_row p row) = at_row (is_proper_row p) (rows_of node) n row (tables_proper p node) x.1.1 in
        let found_proper : IsTrue (is_proper_row p r.1) = at_row (is_proper_row p) (rows_of node) r.0 r.1 (tables_proper p node) r.3 in
        let tagged : IsTrue (is_tagged (tagging p row)) = at_row (λ y. is_tagged (tagging p y)) (rows_of node) n row good.0 x.1.1 in
        let found_tagged : IsTrue (is_tagged (tagging p r.1)) = at_row (λ y. is_tagged (tagging p y)) (rows_of node) r.0 r.1 good.0 r.3 in
        let a : Mem (tag_of T) (alternative_tags p row) =
        subst (λ ts. Mem (tag_of T) ts) (same_tags (tagging p row) _ _ tagged) (means_begins p w row.node (tagging p row) T proper x.2) in
        let b : Mem (tag_of T) (alternative_tags p r.1) = component_tag p (component_of p node r.2 r.1) (tag_of T) s found_proper found_tagged r.4 in
        let same = same_place (alternative_tags p) (tag_of T) (rows_of node) n r.0 row r.1 good.1 x.1.1 r.3 a b in
        component_element p (component_of p node r.2 row) s w T proper
        (subst (λ z. starting (tag_of T) (component_starts (component_of p node r.2 z)) ≡ Some s) (sym same.1) r.4) x.1.2 x.2

pub untagged_carried : (pr : Presence) (g : Tagging) → g ≡ untagged → IsTrue (is_tagged g || is_carried pr) → IsCarried pr
untagged_carried Presence.Must g e h = tt
untagged_carried Presence.May g e h = tt
untagged_carried (Presence.Default d) g e h = tt
untagged_carried Presence.LeftOut g e h = let q : IsTrue (is_tagged untagged || is_carried Presence.LeftOut) = subst (λ x. IsTrue (is_tagged x || is_carried Presence.LeftOut)) e h in absurd cc

-- and the other way round
pub start_value : (p : Profile) (c : Component) (s : Start) (T : Tree) → IsProperComponent p c → starting (tag_of T) (starts p c) ≡ Some s
    → IsElement p s.element T → IsCarried c.presence × ((v : Content) × Means p v c.node c.tagging T)
start_value p c s T ok h m = elim (starts_found p c.tagging c (tag_of T) s refl h) [
  | inl a ↦ component_value p c s T ok.proper a m
  | inr b ↦
      let r = alternatives_found p (tag_of T) c.node 0 (rows_of c.node) s b.2 in
      let row = r.1 in
      let proper : IsTrue (is_proper_row p row) = at_row (is_proper_row p) (rows_of c.node) r.0 row (tables_proper p c.node) r.3 in
      let q = component_value p (component_of p c.node r.2 row) s T proper r.4 m in (
        untagged_carried c.presence c.tagging b.0 ok.carried,
        (alternative r.0 q.1.0, subst (λ g. Means p (alternative r.0 q.1.0) c.node g T) (sym b.0) (row, (b.1, r.3, q.0), q.1.1)),
      )
]

pub start_proper : (p : Profile) (c : Component) (t : Tag) (s : Start) → IsProperComponent p c → starting t (starts p c) ≡ Some s → IsProper p s.element
start_proper p c t s ok h = elim (starts_found p c.tagging c t s refl h) [
  | inl a ↦ component_proper p c t s ok.proper a
  | inr b ↦
      let r = alternatives_found p t c.node 0 (rows_of c.node) s b.2 in
      component_proper p (component_of p c.node r.2 r.1) t s (at_row (is_proper_row p) (rows_of c.node) r.0 r.1 (tables_proper p c.node) r.3) r.4
]
