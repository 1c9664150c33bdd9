-- A tree means at most one value.
use Rattle.std.proofs.Common.{◌≡◌, ◌⊎◌, ℕ, ℤ, true, false, List, [], ◌∷◌, Some, IsTrue, refl, sym, ap, ap₂, subst, ◌∙◌, inl, inr, slice_get}
use Rattle.std.specs.Prelude.{flat_map, nat_eq, if◌then◌else◌}
use Rattle.std.specs.List.{list_all}
use Rattle.std.specs.Ordering.{int_eq}
use Rattle.std.specs.Cmp.{signed_Decides}
use Rattle.ber_tree.specs.Identifier.{Tag}
use Rattle.ber_tree.specs.Tree.{Tree, Trees, constructed, none, more, tag_of}
use Rattle.ber_leaf.specs.Segments.{leaf_content}
use Rattle.ill_tables.specs.declared.node.Kind.{Kind}
use Rattle.ill_tables.specs.declared.node.LeafKind.{LeafKind}
use Rattle.ill_tables.specs.declared.node.NodeId.{NodeId}
use Rattle.ill_tables.specs.declared.part.Presence.{Presence}
use Rattle.ill_tables.specs.declared.part.Row.{Row}
use Rattle.ill_schema.specs.Content.{Content, simple, sequence, list, alternative, foreign, Entries, no_entries, absent, present, Items, no_items, item}
use Rattle.ber_leaf.specs.Simple.{Simple, flag, whole, date, time, printable, general, visible, null, oid, binary, bits, descriptor}
use Rattle.ber_leaf.specs.Leaf.{Leaf, boolean, integer, enumerated, general_string, visible_string, printable_string, iso_date, iso_time, null_type, object_identifier, octet_string, bit_string, object_descriptor, value}
use Rattle.ber_leaf.specs.Profile.{Profile}
use Rattle.ill_schema.specs.Tagging.{Tagging, untagged, implicit, explicit, explicit_or_bare, tagging, Tagged, sequence_tag, leaf_tag, leaf_of}
use Rattle.ill_schema.specs.Presence.{is_default_of, same_value, MayLack}
use Rattle.ber_core.specs.Foreign.{is_foreign, foreign_levels}
use Rattle.ill_schema.specs.Meaning.{Means, Matches, MatchItems, MeansSimple, HoldsLeaf, IsAlternative}
use Rattle.ill_tables.specs.Table.{kind_of, rows_of}
use Rattle.std.proofs.lemmas.Bool.{and_parts}
use Rattle.ill_schema.specs.TableFacts.{own_tags, tagging_tags, alternative_tags, kind_tags, node_tags, row_tags}
use Rattle.ill_schema.proofs.Tags.{is_proper, is_proper_row, is_tagged, are_good, tables_good, tables_proper, Mem, Distinct, distinct, not_mem, disjoint, distinct-right, same_place, at_row, mem-left, mem-right, mem-rows}

-- a leaf by its kind and, for an ILL-String, its tag
unfoldable pub leaf_at : Kind → ℕ → Leaf
leaf_at (Kind.Leaf LeafKind.Boolean) n = boolean
leaf_at (Kind.Leaf LeafKind.Integer) n = integer
leaf_at (Kind.Leaf LeafKind.Enumerated) n = enumerated
leaf_at (Kind.Leaf LeafKind.Date) n = iso_date
leaf_at (Kind.Leaf LeafKind.Time) n = iso_time
leaf_at (Kind.Leaf LeafKind.Printable) n = printable_string
leaf_at (Kind.Leaf LeafKind.Null) n = null_type
leaf_at (Kind.Leaf LeafKind.ObjectIdentifier) n = object_identifier
leaf_at (Kind.Leaf LeafKind.OctetString) n = octet_string
leaf_at (Kind.Leaf LeafKind.BitString) n = bit_string
leaf_at (Kind.Leaf LeafKind.ObjectDescriptor) n = object_descriptor
leaf_at _ n = if nat_eq n 27 then general_string else visible_string

pub leaf_is : (k : Kind) (v : Simple) (l : Leaf) → leaf_of k v ≡ Some l → l ≡ leaf_at k (leaf_tag l).number
unfolding leaf_at
leaf_is (Kind.Leaf LeafKind.Boolean) (flag _) l e = let h : boolean ≡ l = cc in subst (λ x. x ≡ leaf_at (Kind.Leaf LeafKind.Boolean) (leaf_tag x).number) h refl
leaf_is (Kind.Leaf LeafKind.Integer) (whole _) l e = let h : integer ≡ l = cc in subst (λ x. x ≡ leaf_at (Kind.Leaf LeafKind.Integer) (leaf_tag x).number) h refl
leaf_is (Kind.Leaf LeafKind.Enumerated) (whole _) l e = let h : enumerated ≡ l = cc in subst (λ x. x ≡ leaf_at (Kind.Leaf LeafKind.Enumerated) (leaf_tag x).number) h refl
leaf_is (Kind.Leaf LeafKind.Date) (date _) l e = let h : iso_date ≡ l = cc in subst (λ x. x ≡ leaf_at (Kind.Leaf LeafKind.Date) (leaf_tag x).number) h refl
leaf_is (Kind.Leaf LeafKind.Time) (time _) l e = let h : iso_time ≡ l = cc in subst (λ x. x ≡ leaf_at (Kind.Leaf LeafKind.Time) (leaf_tag x).number) h refl
leaf_is (Kind.Leaf LeafKind.Printable) (printable _) l e = let h : printable_string ≡ l = cc in subst (λ x. x ≡ leaf_at (Kind.Leaf LeafKind.Printable) (leaf_tag x).number) h refl
leaf_is (Kind.Leaf LeafKind.Null) null l e = let h : null_type ≡ l = cc in subst (λ x. x ≡ leaf_at (Kind.Leaf LeafKind.Null) (leaf_tag x).number) h refl
leaf_is (Kind.Leaf LeafKind.ObjectIdentifier) (oid _) l e = let h : object_identifier ≡ l = cc in subst (λ x. x ≡ leaf_at (Kind.Leaf LeafKind.ObjectIdentifier) (leaf_tag x).number) h refl
leaf_is (Kind.Leaf LeafKind.OctetString) (binary _) l e = let h : octet_string ≡ l = cc in subst (λ x. x ≡ leaf_at (Kind.Leaf LeafKind.OctetString) (leaf_tag x).number) h refl
leaf_is (Kind.Leaf LeafKind.BitString) (bits _ _) l e = let h : bit_string ≡ l = cc in subst (λ x. x ≡ leaf_at (Kind.Leaf LeafKind.BitString) (leaf_tag x).number) h refl
leaf_is (Kind.Leaf LeafKind.ObjectDescriptor) (descriptor _) l e = let h : object_descriptor ≡ l = cc in subst (λ x. x ≡ leaf_at (Kind.Leaf LeafKind.ObjectDescriptor) (leaf_tag x).number) h refl
leaf_is Kind.IllString (general _) l e = let h : general_string ≡ l = cc in subst (λ x. x ≡ leaf_at Kind.IllString (leaf_tag x).number) h refl
leaf_is Kind.IllString (visible _) l e = let h : visible_string ≡ l = cc in subst (λ x. x ≡ leaf_at Kind.IllString (leaf_tag x).number) h refl
leaf_is k v l e = absurd cc

-- where a tag is in place of a leaf's own, the kind says the leaf
pub kind_says : (t : Tag) (k : Kind) (m n : ℕ) → IsTrue (is_proper (implicit t) k) → (v : Simple) (l : Leaf) → leaf_of k v ≡ Some l → leaf_at k m ≡ leaf_at k n
unfolding leaf_at
kind_says t (Kind.Leaf LeafKind.Boolean) m n h v l e = refl
kind_says t (Kind.Leaf LeafKind.Integer) m n h v l e = refl
kind_says t (Kind.Leaf LeafKind.Enumerated) m n h v l e = refl
kind_says t (Kind.Leaf LeafKind.Date) m n h v l e = refl
kind_says t (Kind.Leaf LeafKind.Time) m n h v l e = refl
kind_says t (Kind.Leaf LeafKind.Printable) m n h v l e = refl
kind_says t (Kind.Leaf LeafKind.Null) m n h v l e = refl
kind_says t (Kind.Leaf LeafKind.ObjectIdentifier) m n h v l e = refl
kind_says t (Kind.Leaf LeafKind.OctetString) m n h v l e = refl
kind_says t (Kind.Leaf LeafKind.BitString) m n h v l e = refl
kind_says t (Kind.Leaf LeafKind.ObjectDescriptor) m n h v l e = refl
kind_says t Kind.IllString m n h v l e = absurd cc
kind_says t Kind.Choice m n h v l e = absurd cc
kind_says t Kind.Seq m n h v l e = absurd cc
kind_says t Kind.SeqOf m n h v l e = absurd cc
kind_says t Kind.Any m n h v l e = absurd cc

leaf_own : (k : Kind) (v : Simple) (l : Leaf) → leaf_of k v ≡ Some l → Mem (leaf_tag l) (own_tags k)
leaf_own (Kind.Leaf LeafKind.Boolean) (flag _) l e = let h : boolean ≡ l = cc in subst (λ x. Mem (leaf_tag x) (own_tags (Kind.Leaf LeafKind.Boolean))) h (inl refl)
leaf_own (Kind.Leaf LeafKind.Integer) (whole _) l e = let h : integer ≡ l = cc in subst (λ x. Mem (leaf_tag x) (own_tags (Kind.Leaf LeafKind.Integer))) h (inl refl)
leaf_own (Kind.Leaf LeafKind.Enumerated) (whole _) l e = let h : enumerated ≡ l = cc in subst (λ x. Mem (leaf_tag x) (own_tags (Kind.Leaf LeafKind.Enumerated))) h (inl refl)
leaf_own (Kind.Leaf LeafKind.Date) (date _) l e = let h : iso_date ≡ l = cc in subst (λ x. Mem (leaf_tag x) (own_tags (Kind.Leaf LeafKind.Date))) h (inl refl)
leaf_own (Kind.Leaf LeafKind.Time) (time _) l e = let h : iso_time ≡ l = cc in subst (λ x. Mem (leaf_tag x) (own_tags (Kind.Leaf LeafKind.Time))) h (inl refl)
leaf_own (Kind.Leaf LeafKind.Printable) (printable _) l e = let h : printable_string ≡ l = cc in subst (λ x. Mem (leaf_tag x) (own_tags (Kind.Leaf LeafKind.Printable))) h (inl refl)
leaf_own (Kind.Leaf LeafKind.Null) null l e = let h : null_type ≡ l = cc in subst (λ x. Mem (leaf_tag x) (own_tags (Kind.Leaf LeafKind.Null))) h (inl refl)
leaf_own (Kind.Leaf LeafKind.ObjectIdentifier) (oid _) l e = let h : object_identifier ≡ l = cc in subst (λ x. Mem (leaf_tag x) (own_tags (Kind.Leaf LeafKind.ObjectIdentifier))) h (inl refl)
leaf_own (Kind.Leaf LeafKind.OctetString) (binary _) l e = let h : octet_string ≡ l = cc in subst (λ x. Mem (leaf_tag x) (own_tags (Kind.Leaf LeafKind.OctetString))) h (inl refl)
leaf_own (Kind.Leaf LeafKind.BitString) (bits _ _) l e = let h : bit_string ≡ l = cc in subst (λ x. Mem (leaf_tag x) (own_tags (Kind.Leaf LeafKind.BitString))) h (inl refl)
leaf_own (Kind.Leaf LeafKind.ObjectDescriptor) (descriptor _) l e = let h : object_descriptor ≡ l = cc in subst (λ x. Mem (leaf_tag x) (own_tags (Kind.Leaf LeafKind.ObjectDescriptor))) h (inl refl)
leaf_own Kind.IllString (general _) l e = let h : general_string ≡ l = cc in subst (λ x. Mem (leaf_tag x) (own_tags Kind.IllString)) h (inl refl)
leaf_own Kind.IllString (visible _) l e = let h : visible_string ≡ l = cc in subst (λ x. Mem (leaf_tag x) (own_tags Kind.IllString)) h (inr (inl refl))
leaf_own k v l e = absurd cc

pub no_leaf : (k : Kind) (v : Simple) (l : Leaf) → leaf_of k v ≡ Some l → (k ≡ Kind.Seq) ⊎ (k ≡ Kind.SeqOf) ⊎ (k ≡ Kind.Choice) → ⊥
no_leaf Kind.Seq v l e h = cc
no_leaf Kind.SeqOf v l e h = cc
no_leaf Kind.Choice v l e h = cc
no_leaf Kind.Any v l e h = cc
no_leaf (Kind.Leaf x) v l e (inl h) = cc
no_leaf (Kind.Leaf x) v l e (inr (inl h)) = cc
no_leaf (Kind.Leaf x) v l e (inr (inr h)) = cc
no_leaf Kind.IllString v l e (inl h) = cc
no_leaf Kind.IllString v l e (inr (inl h)) = cc
no_leaf Kind.IllString v l e (inr (inr h)) = cc

pub no_any_leaf : (k : Kind) (v : Simple) (l : Leaf) → leaf_of k v ≡ Some l → k ≡ Kind.Any → ⊥
no_any_leaf Kind.Any v l e h = cc
no_any_leaf Kind.Seq v l e h = cc
no_any_leaf Kind.SeqOf v l e h = cc
no_any_leaf Kind.Choice v l e h = cc
no_any_leaf Kind.IllString v l e h = cc
no_any_leaf (Kind.Leaf x) v l e h = cc

held_same : (p : Profile) (l m : Leaf) (v w : Simple) (s t : Tag) (T : Tree) → l ≡ m → HoldsLeaf p l v s T → HoldsLeaf p m w t T → v ≡ w
held_same p l m v w s t T e h k = h.2.2 ∙ ap (λ x. value x (leaf_content x T)) e ∙ sym k.2.2

simple_unique : (p : Profile) (v w : Simple) (node : NodeId) (g : Tagging) (T : Tree) → IsTrue (is_proper g (kind_of node))
    → MeansSimple p v node g T → MeansSimple p w node g T → v ≡ w
simple_unique p v w node untagged T ok h k =
    let tags : leaf_tag h.0 ≡ leaf_tag k.0 = sym h.2.0 ∙ k.2.0 in
    held_same p h.0 k.0 v w _ _ T (leaf_is (kind_of node) v h.0 h.1 ∙ ap (λ (t : Tag). leaf_at (kind_of node) t.number) tags ∙ sym (leaf_is (kind_of node) w k.0 k.1)) h.2 k.2
simple_unique p v w node (implicit t) T ok h k =
    held_same p h.0 k.0 v w _ _ T (leaf_is (kind_of node) v h.0 h.1 ∙ kind_says t (kind_of node) _ _ ok v h.0 h.1 ∙ sym (leaf_is (kind_of node) w k.0 k.1)) h.2 k.2
simple_unique p v w node (explicit t) T ok h k =
    let e : constructed t (more h.2.0 none) ≡ constructed t (more k.2.0 none) = sym h.2.1 ∙ k.2.1 in
    let u : h.2.0 ≡ k.2.0 = cc in
    let same : HoldsLeaf p k.0 w (leaf_tag k.0) h.2.0 = subst (λ U. HoldsLeaf p k.0 w (leaf_tag k.0) U) (sym u) k.2.2 in
    let tags : leaf_tag h.0 ≡ leaf_tag k.0 = sym h.2.2.0 ∙ same.0 in
    held_same p h.0 k.0 v w _ _ h.2.0 (leaf_is (kind_of node) v h.0 h.1 ∙ ap (λ (x : Tag). leaf_at (kind_of node) x.number) tags ∙ sym (leaf_is (kind_of node) w k.0 k.1)) h.2.2 same
simple_unique p v w node (explicit_or_bare t) T ok h k = absurd (bare_seq (kind_of node) t v h.0 h.1 ok)
  where
    bare_seq : (k : Kind) (t : Tag) (v : Simple) (l : Leaf) → leaf_of k v ≡ Some l → IsTrue (is_proper (explicit_or_bare t) k) → ⊥
    bare_seq Kind.Seq t v l e h = cc
    bare_seq Kind.SeqOf t v l e h = cc
    bare_seq Kind.Choice t v l e h = cc
    bare_seq Kind.IllString t v l e h = cc
    bare_seq Kind.Any t v l e h = cc
    bare_seq (Kind.Leaf x) t v l e h = cc

int_same : (a b x : ℤ) → int_eq a x ≡ true → int_eq b x ≡ true → a ≡ b
int_same a b x h k = (signed_Decides a x).0 h ∙ sym ((signed_Decides b x).0 k)

pub same_value-is : (v w : Simple) → same_value v w ≡ true → v ≡ w
same_value-is (flag true) (flag true) e = refl
same_value-is (flag false) (flag false) e = refl
same_value-is (flag true) (flag false) e = cc
same_value-is (flag false) (flag true) e = cc
same_value-is (whole m) (whole n) e = ap whole ((signed_Decides m n).0 e)
same_value-is v w e = absurd cc

-- a row has one default, and may not lack it
default_unique : (pr : Presence) (k : Kind) (c d : Content) → IsTrue (is_default_of pr k c) → IsTrue (is_default_of pr k d) → c ≡ d
default_unique (Presence.Default x) k (simple v) (simple w) h g = ap simple (same_value-is v _ h ∙ sym (same_value-is w _ g))
default_unique pr k c d h g = absurd cc

pub default_lacks : (pr : Presence) (k : Kind) (c : Content) → IsTrue (is_default_of pr k c) → MayLack pr → ⊥
default_lacks (Presence.Default x) k c h m = m
default_lacks Presence.Must k c h m = m
default_lacks Presence.May k c h m = cc
default_lacks Presence.LeftOut k c h m = cc

-- an element under a tagging has one of its tags
tagged_begins : (g : Tagging) (own : Tag) (tags : List Tag) (E : Tag → Tree → Type 0) (T : Tree) → ((t : Tag) (U : Tree) → E t U → tag_of U ≡ t)
    → Mem own tags → Tagged g own E T → Mem (tag_of T) (tagging_tags g tags)
tagged_begins untagged own tags E T has m h = subst (λ t. Mem t tags) (sym (has own T h)) m
tagged_begins (implicit t) own tags E T has m h = inl (has t T h)
tagged_begins (explicit t) own tags E T has m h = inl (ap tag_of h.1)
tagged_begins (explicit_or_bare t) own tags E T has m (inl h) = inl (ap tag_of h.1)
tagged_begins (explicit_or_bare t) own tags E T has m (inr h) = inl (has t T h)

pub same_tags : (g : Tagging) (xs ys : List Tag) → IsTrue (is_tagged g) → tagging_tags g xs ≡ tagging_tags g ys
same_tags untagged xs ys h = absurd cc
same_tags (implicit t) xs ys h = refl
same_tags (explicit t) xs ys h = refl
same_tags (explicit_or_bare t) xs ys h = refl

no_choice_tags : (k : Kind) (ts : List Tag) → (k ≡ Kind.Choice → ⊥) → kind_tags k ts ≡ own_tags k
no_choice_tags Kind.Seq ts n = refl
no_choice_tags Kind.SeqOf ts n = refl
no_choice_tags Kind.Choice ts n = absurd (n refl)
no_choice_tags Kind.IllString ts n = refl
no_choice_tags Kind.Any ts n = refl
no_choice_tags (Kind.Leaf x) ts n = refl

node_tags-own : (p : Profile) (node : NodeId) (k : Kind) → kind_of node ≡ k → (k ≡ Kind.Choice → ⊥) → node_tags p node ≡ own_tags k
node_tags-own p node k e n = ap (λ x. kind_tags x (flat_map (alternative_tags p) (rows_of node))) e ∙ no_choice_tags k _ n

choice_tags : (p : Profile) (node : NodeId) → kind_of node ≡ Kind.Choice → node_tags p node ≡ flat_map (alternative_tags p) (rows_of node)
choice_tags p node e = ap (λ x. kind_tags x (flat_map (alternative_tags p) (rows_of node))) e

pub good_choice : (p : Profile) (node : NodeId) → kind_of node ≡ Kind.Choice
    → IsTrue (list_all (λ row. is_tagged (tagging p row)) (rows_of node)) × Distinct (flat_map (alternative_tags p) (rows_of node))
good_choice p node e =
    let h : IsTrue (are_good p Kind.Choice (rows_of node)) = subst (λ k. IsTrue (are_good p k (rows_of node))) e (tables_good p node) in
    let parts = and_parts _ _ h in (parts.0, distinct _ parts.1)

simple_begins : (p : Profile) (v : Simple) (node : NodeId) (g : Tagging) (T : Tree) → MeansSimple p v node g T → Mem (tag_of T) (tagging_tags g (node_tags p node))
simple_begins p v node g T h =
    tagged_begins g (leaf_tag h.0) (node_tags p node) (HoldsLeaf p h.0 v) T (λ t U x. x.0)
    (subst (λ ts. Mem (leaf_tag h.0) ts) (sym (node_tags-own p node (kind_of node) refl (λ e. no_leaf (kind_of node) v h.0 h.1 (inr (inr e))))) (leaf_own (kind_of node) v h.0 h.1))
    h.2

-- an element of open type stands in an explicit tag
pub any_proper : (g : Tagging) (k : Kind) → k ≡ Kind.Any → IsTrue (is_proper g k) → (t : Tag) × (g ≡ explicit t)
any_proper untagged k e ok = let x : IsTrue (is_proper untagged Kind.Any) = subst (λ z. IsTrue (is_proper untagged z)) e ok in absurd cc
any_proper (implicit t) k e ok = let x : IsTrue (is_proper (implicit t) Kind.Any) = subst (λ z. IsTrue (is_proper (implicit t) z)) e ok in absurd cc
any_proper (explicit t) k e ok = (t, refl)
any_proper (explicit_or_bare t) k e ok = let x : IsTrue (is_proper (explicit_or_bare t) Kind.Any) = subst (λ z. IsTrue (is_proper (explicit_or_bare t) z)) e ok in absurd cc

-- a tree that means something at a node begins by one of its tags
pub means_begins : (p : Profile) (c : Content) (node : NodeId) (g : Tagging) (T : Tree) → IsTrue (is_proper g (kind_of node)) → Means p c node g T
    → Mem (tag_of T) (tagging_tags g (node_tags p node))
means_begins p (simple v) node g T ok h = simple_begins p v node g T h
means_begins p (sequence es) node g T ok h =
    tagged_begins g sequence_tag (node_tags p node) _ T (λ t U x. ap tag_of x.1)
    (subst (λ ts. Mem sequence_tag ts) (sym (node_tags-own p node Kind.Seq h.0 (λ e. cc))) (inl refl)) h.1
means_begins p (list is) node g T ok h =
    tagged_begins g sequence_tag (node_tags p node) _ T (λ t U x. ap tag_of x.1)
    (subst (λ ts. Mem sequence_tag ts) (sym (node_tags-own p node Kind.SeqOf h.0 (λ e. cc))) (inl refl)) h.1
means_begins p (alternative n c) node untagged T ok h =
    let row = h.0 in
    let good = good_choice p node h.1.0 in
    let tagged : IsTrue (is_tagged (tagging p row)) = at_row (λ r. is_tagged (tagging p r)) (rows_of node) n row good.0 h.1.1 in
    let proper : IsTrue (is_proper_row p row) = at_row (is_proper_row p) (rows_of node) n row (tables_proper p node) h.1.1 in
    let m : Mem (tag_of T) (row_tags p row) = means_begins p c row.node (tagging p row) T proper h.2 in
    subst (λ ts. Mem (tag_of T) ts) (sym (choice_tags p node h.1.0))
    (mem-rows (alternative_tags p) (tag_of T) (rows_of node) n row h.1.1 (subst (λ ts. Mem (tag_of T) ts) (same_tags (tagging p row) _ _ tagged) m))
means_begins p (alternative n c) node (implicit t) T ok h = absurd (improper t (kind_of node) ok h.1.0)
  where
    improper : (t : Tag) (k : Kind) → IsTrue (is_proper (implicit t) k) → k ≡ Kind.Choice → ⊥
    improper t k ok e = let x : IsTrue (is_proper (implicit t) Kind.Choice) = subst (λ z. IsTrue (is_proper (implicit t) z)) e ok in cc
means_begins p (alternative n c) node (explicit t) T ok h = inl (ap tag_of h.2.1)
means_begins p (alternative n c) node (explicit_or_bare t) T ok h = absurd (improper t (kind_of node) ok h.1.0)
  where
    improper : (t : Tag) (k : Kind) → IsTrue (is_proper (explicit_or_bare t) k) → k ≡ Kind.Choice → ⊥
    improper t k ok e = let x : IsTrue (is_proper (explicit_or_bare t) Kind.Choice) = subst (λ z. IsTrue (is_proper (explicit_or_bare t) z)) e ok in cc
means_begins p (foreign V) node g T ok h =
    let a = any_proper g (kind_of node) h.0 ok in
    let x : (U : Tree) × (T ≡ constructed a.0 (more U none)) × ((U ≡ V) × IsTrue (is_foreign foreign_levels U)) = subst (λ z. Tagged z sequence_tag (λ _ U. (U ≡ V) × IsTrue (is_foreign foreign_levels U)) T) a.1 h.1 in
    subst (λ z. Mem (tag_of T) (tagging_tags z (node_tags p node))) (sym a.1) (inl (ap tag_of x.1))

-- the first of the trees that match rows begins by one of their tags
pub matches_begins : (p : Profile) (es : Entries) (rows : List Row) (T : Tree) (ts : Trees) → IsTrue (list_all (is_proper_row p) rows)
    → Matches p es rows (more T ts) → Mem (tag_of T) (flat_map (row_tags p) rows)
matches_begins p no_entries [] T ts ok h = absurd cc
matches_begins p no_entries (row ∷ rows) T ts ok h = absurd h
matches_begins p (absent es) [] T ts ok h = absurd h
matches_begins p (absent es) (row ∷ rows) T ts ok h =
    mem-right (tag_of T) (row_tags p row) (flat_map (row_tags p) rows) (matches_begins p es rows T ts ((and_parts _ _ ok).1) h.1)
matches_begins p (present c es) [] T ts ok h = absurd h
matches_begins p (present c es) (row ∷ rows) T ts ok h = elim h.1 [
  | inl x ↦
      let e : T ≡ x.0 = let q : more T ts ≡ more x.0 x.1 = x.2 in cc in
      mem-left (tag_of T) (row_tags p row) (flat_map (row_tags p) rows)
      (subst (λ U. Mem (tag_of U) (row_tags p row)) (sym e) (means_begins p c row.node (tagging p row) x.0 ((and_parts _ _ ok).0) x.3))
  | inr x ↦
      mem-right (tag_of T) (row_tags p row) (flat_map (row_tags p) rows) (matches_begins p es rows T ts ((and_parts _ _ ok).1) x.1)
]

-- a tree of a later row is no tree of this one
later : (p : Profile) (row : Row) (rows : List Row) (es : Entries) (c : Content) (T : Tree) (us ts : Trees)
    → IsTrue (list_all (is_proper_row p) (row ∷ rows)) → Distinct (flat_map (row_tags p) (row ∷ rows)) → ts ≡ more T us
    → Means p c row.node (tagging p row) T → Matches p es rows ts → ⊥
later p row rows es c T us ts ok d e h m =
    let parts = and_parts _ _ ok in
    disjoint (tag_of T) (row_tags p row) (flat_map (row_tags p) rows) d (means_begins p c row.node (tagging p row) T parts.0 h)
    (matches_begins p es rows T us parts.1 (subst (λ z. Matches p es rows z) e m))

pub sequence_distinct : (p : Profile) (node : NodeId) → kind_of node ≡ Kind.Seq → Distinct (flat_map (row_tags p) (rows_of node))
sequence_distinct p node e =
    let h : IsTrue (are_good p Kind.Seq (rows_of node)) = subst (λ k. IsTrue (are_good p k (rows_of node))) e (tables_good p node) in
    distinct _ ((and_parts _ _ h).1)

-- no row of a sequence begins by SEQUENCE's tag
pub sequence_apart : (p : Profile) (node : NodeId) → kind_of node ≡ Kind.Seq → Mem sequence_tag (flat_map (row_tags p) (rows_of node)) → ⊥
sequence_apart p node e =
    let h : IsTrue (are_good p Kind.Seq (rows_of node)) = subst (λ k. IsTrue (are_good p k (rows_of node))) e (tables_good p node) in
    not_mem sequence_tag _ ((and_parts _ _ h).0)

-- a SEQUENCE in a wrapper is not the components bare
pub not_bare : (p : Profile) (es : Entries) (node : NodeId) (t : Tag) (T U : Tree) → kind_of node ≡ Kind.Seq → tag_of U ≡ sequence_tag
    → T ≡ constructed t (more U none) → ((ts : Trees) × (T ≡ constructed t ts) × Matches p es (rows_of node) ts) → ⊥
not_bare p es node t T U k e f h =
    let same : h.0 ≡ more U none = let q : constructed t h.0 ≡ constructed t (more U none) = sym h.1 ∙ f in cc in
    sequence_apart p node k (subst (λ x. Mem x (flat_map (row_tags p) (rows_of node))) e
    (matches_begins p es (rows_of node) U none (tables_proper p node) (subst (λ z. Matches p es (rows_of node) z) same h.2)))

-- two elements under one tagging are one, if their parts are
pub under : {R : Type 0} (g : Tagging) (own : Tag) (E F : Tag → Tree → Type 0) (T : Tree) → ((t : Tag) (U : Tree) → E t U → F t U → R)
    → ((t : Tag) → g ≡ explicit_or_bare t → (U : Tree) → T ≡ constructed t (more U none) → E own U → F t T → R)
    → ((t : Tag) → g ≡ explicit_or_bare t → (U : Tree) → T ≡ constructed t (more U none) → F own U → E t T → R)
    → Tagged g own E T → Tagged g own F T → R
under untagged own E F T same b c h k = same own T h k
under (implicit t) own E F T same b c h k = same t T h k
under (explicit t) own E F T same b c h k =
    let u : h.0 ≡ k.0 = let q : constructed t (more h.0 none) ≡ constructed t (more k.0 none) = sym h.1 ∙ k.1 in cc in
    same own h.0 h.2 (subst (λ U. F own U) (sym u) k.2)
under (explicit_or_bare t) own E F T same b c (inl h) (inl k) =
    let u : h.0 ≡ k.0 = let q : constructed t (more h.0 none) ≡ constructed t (more k.0 none) = sym h.1 ∙ k.1 in cc in
    same own h.0 h.2 (subst (λ U. F own U) (sym u) k.2)
under (explicit_or_bare t) own E F T same b c (inl h) (inr k) = b t refl h.0 h.1 h.2 k
under (explicit_or_bare t) own E F T same b c (inr h) (inl k) = c t refl k.0 k.1 k.2 h
under (explicit_or_bare t) own E F T same b c (inr h) (inr k) = same t T h k

pub bare_sequence : (t : Tag) (g : Tagging) (k : Kind) → IsTrue (is_proper g k) → g ≡ explicit_or_bare t → k ≡ Kind.Seq
bare_sequence t g Kind.Seq ok e = refl
bare_sequence t g Kind.SeqOf ok e = let h : IsTrue (is_proper (explicit_or_bare t) Kind.SeqOf) = subst (λ x. IsTrue (is_proper x Kind.SeqOf)) e ok in absurd cc
bare_sequence t g Kind.Choice ok e = let h : IsTrue (is_proper (explicit_or_bare t) Kind.Choice) = subst (λ x. IsTrue (is_proper x Kind.Choice)) e ok in absurd cc
bare_sequence t g Kind.Any ok e = let h : IsTrue (is_proper (explicit_or_bare t) Kind.Any) = subst (λ x. IsTrue (is_proper x Kind.Any)) e ok in absurd cc
bare_sequence t g Kind.IllString ok e = let h : IsTrue (is_proper (explicit_or_bare t) Kind.IllString) = subst (λ x. IsTrue (is_proper x Kind.IllString)) e ok in absurd cc
bare_sequence t g (Kind.Leaf l) ok e = let h : IsTrue (is_proper (explicit_or_bare t) (Kind.Leaf l)) = subst (λ x. IsTrue (is_proper x (Kind.Leaf l))) e ok in absurd cc

pub same_constructed : (t : Tag) (U : Tree) (ss ts : Trees) → U ≡ constructed t ss → U ≡ constructed t ts → ts ≡ ss
same_constructed t U ss ts e f = let q : constructed t ss ≡ constructed t ts = sym e ∙ f in cc

-- a tree is an alternative at one place only
place_same : (p : Profile) (m n : ℕ) (c d : Content) (node : NodeId) (U : Tree) (q r : Row) → IsAlternative node m q → IsAlternative node n r
    → Means p c q.node (tagging p q) U → Means p d r.node (tagging p r) U → (m ≡ n) × (q ≡ r)
place_same p m n c d node U q r a b h k =
    let good = good_choice p node a.0 in
    same_place (alternative_tags p) (tag_of U) (rows_of node) m n q r good.1 a.1 b.1
    (begins m q c a.1 h good.0) (begins n r d b.1 k good.0)
  where
    begins : (l : ℕ) (x : Row) (e : Content) → slice_get (rows_of node) l ≡ Some x → Means p e x.node (tagging p x) U
        → IsTrue (list_all (λ row. is_tagged (tagging p row)) (rows_of node)) → Mem (tag_of U) (alternative_tags p x)
    begins l x e f h good =
        subst (λ ts. Mem (tag_of U) ts) (same_tags (tagging p x) _ _ (at_row (λ y. is_tagged (tagging p y)) (rows_of node) l x good f))
        (means_begins p e x.node (tagging p x) U (at_row (is_proper_row p) (rows_of node) l x (tables_proper p node) f) h)

mutual
  pub means_unique : (p : Profile) (c d : Content) (node : NodeId) (g : Tagging) (T : Tree) → IsTrue (is_proper g (kind_of node))
      → Means p c node g T → Means p d node g T → c ≡ d
  means_unique p (simple v) (simple w) node g T ok h k = ap simple (simple_unique p v w node g T ok h k)
  means_unique p (sequence es) (sequence fs) node g T ok h k =
      ap sequence (under g sequence_tag _ _ T
      (λ t U x y. matches_unique p es fs (rows_of node) x.0 (tables_proper p node) (sequence_distinct p node h.0) x.2
      (subst (λ z. Matches p fs (rows_of node) z) (same_constructed t U x.0 y.0 x.1 y.1) y.2))
      (λ t e U f x y. absurd (not_bare p fs node t T U h.0 (ap tag_of x.1) f y))
      (λ t e U f y x. absurd (not_bare p es node t T U h.0 (ap tag_of y.1) f x))
      h.1 k.1)
  means_unique p (list is) (list js) node g T ok h k =
      ap list (under g sequence_tag _ _ T
      (λ t U x y. items_unique p is js node x.0 x.2 (subst (λ z. MatchItems p js (rows_of node) z) (same_constructed t U x.0 y.0 x.1 y.1) y.2))
      (λ t e U f x y. absurd (let s = bare_sequence t g (kind_of node) ok e in let q : Kind.Seq ≡ Kind.SeqOf = sym s ∙ h.0 in cc))
      (λ t e U f y x. absurd (let s = bare_sequence t g (kind_of node) ok e in let q : Kind.Seq ≡ Kind.SeqOf = sym s ∙ h.0 in cc))
      h.1 k.1)
  means_unique p (alternative m c) (alternative n d) node g T ok h k =
      under g sequence_tag _ _ T
      (λ t U x y.
      let u = place_same p m n c d node U h.0 k.0 h.1 k.1 x y in
      ap₂ alternative u.0 (means_unique p c d h.0.node (tagging p h.0) U
      (at_row (is_proper_row p) (rows_of node) m h.0 (tables_proper p node) h.1.1) x
      (subst (λ z. Means p d z.node (tagging p z) U) (sym u.1) y)))
      (λ t e U f x y. absurd (let s = bare_sequence t g (kind_of node) ok e in let q : Kind.Seq ≡ Kind.Choice = sym s ∙ h.1.0 in cc))
      (λ t e U f y x. absurd (let s = bare_sequence t g (kind_of node) ok e in let q : Kind.Seq ≡ Kind.Choice = sym s ∙ h.1.0 in cc))
      h.2 k.2
  means_unique p (foreign V) (foreign W) node g T ok h k =
      ap foreign (under g sequence_tag _ _ T
      (λ t U x y. sym x.0 ∙ y.0)
      (λ t e U f x y. absurd (let s = bare_sequence t g (kind_of node) ok e in let q : Kind.Seq ≡ Kind.Any = sym s ∙ h.0 in cc))
      (λ t e U f y x. absurd (let s = bare_sequence t g (kind_of node) ok e in let q : Kind.Seq ≡ Kind.Any = sym s ∙ h.0 in cc))
      h.1 k.1)
  means_unique p (foreign _) (simple v) node g T ok h k = absurd (no_any_leaf (kind_of node) v k.0 k.1 h.0)
  means_unique p (simple v) (foreign _) node g T ok h k = absurd (no_any_leaf (kind_of node) v h.0 h.1 k.0)
  means_unique p (foreign _) (sequence _) node g T ok h k = absurd (let q : Kind.Any ≡ Kind.Seq = sym h.0 ∙ k.0 in cc)
  means_unique p (sequence _) (foreign _) node g T ok h k = absurd (let q : Kind.Seq ≡ Kind.Any = sym h.0 ∙ k.0 in cc)
  means_unique p (foreign _) (list _) node g T ok h k = absurd (let q : Kind.Any ≡ Kind.SeqOf = sym h.0 ∙ k.0 in cc)
  means_unique p (list _) (foreign _) node g T ok h k = absurd (let q : Kind.SeqOf ≡ Kind.Any = sym h.0 ∙ k.0 in cc)
  means_unique p (foreign _) (alternative _ _) node g T ok h k = absurd (let q : Kind.Any ≡ Kind.Choice = sym h.0 ∙ k.1.0 in cc)
  means_unique p (alternative _ _) (foreign _) node g T ok h k = absurd (let q : Kind.Choice ≡ Kind.Any = sym h.1.0 ∙ k.0 in cc)
  means_unique p (simple v) (sequence _) node g T ok h k = absurd (no_leaf (kind_of node) v h.0 h.1 (inl k.0))
  means_unique p (simple v) (list _) node g T ok h k = absurd (no_leaf (kind_of node) v h.0 h.1 (inr (inl k.0)))
  means_unique p (simple v) (alternative _ _) node g T ok h k = absurd (no_leaf (kind_of node) v h.0 h.1 (inr (inr k.1.0)))
  means_unique p (sequence _) (simple v) node g T ok h k = absurd (no_leaf (kind_of node) v k.0 k.1 (inl h.0))
  means_unique p (list _) (simple v) node g T ok h k = absurd (no_leaf (kind_of node) v k.0 k.1 (inr (inl h.0)))
  means_unique p (alternative _ _) (simple v) node g T ok h k = absurd (no_leaf (kind_of node) v k.0 k.1 (inr (inr h.1.0)))
  means_unique p (sequence _) (list _) node g T ok h k = absurd (let q : Kind.Seq ≡ Kind.SeqOf = sym h.0 ∙ k.0 in cc)
  means_unique p (list _) (sequence _) node g T ok h k = absurd (let q : Kind.SeqOf ≡ Kind.Seq = sym h.0 ∙ k.0 in cc)
  means_unique p (sequence _) (alternative _ _) node g T ok h k = absurd (let q : Kind.Seq ≡ Kind.Choice = sym h.0 ∙ k.1.0 in cc)
  means_unique p (alternative _ _) (sequence _) node g T ok h k = absurd (let q : Kind.Choice ≡ Kind.Seq = sym h.1.0 ∙ k.0 in cc)
  means_unique p (list _) (alternative _ _) node g T ok h k = absurd (let q : Kind.SeqOf ≡ Kind.Choice = sym h.0 ∙ k.1.0 in cc)
  means_unique p (alternative _ _) (list _) node g T ok h k = absurd (let q : Kind.Choice ≡ Kind.SeqOf = sym h.1.0 ∙ k.0 in cc)

  matches_unique : (p : Profile) (es fs : Entries) (rows : List Row) (ts : Trees) → IsTrue (list_all (is_proper_row p) rows) → Distinct (flat_map (row_tags p) rows)
      → Matches p es rows ts → Matches p fs rows ts → es ≡ fs
  matches_unique p no_entries no_entries rows ts ok d h k = refl
  matches_unique p (absent es) (absent fs) (row ∷ rows) ts ok d h k =
      ap absent (matches_unique p es fs rows ts ((and_parts _ _ ok).1) (distinct-right (row_tags p row) _ d) h.1 k.1)
  matches_unique p (absent es) (present c fs) (row ∷ rows) ts ok d h k = absurd (elim k.1 [
    | inl y ↦ later p row rows es c y.0 y.1 ts ok d y.2 y.3 h.1
    | inr y ↦ default_lacks row.presence (kind_of row.node) c y.0 h.0
  ])
  matches_unique p (present c es) (absent fs) (row ∷ rows) ts ok d h k = absurd (elim h.1 [
    | inl x ↦ later p row rows fs c x.0 x.1 ts ok d x.2 x.3 k.1
    | inr x ↦ default_lacks row.presence (kind_of row.node) c x.0 k.0
  ])
  matches_unique p (present b es) (present c fs) (row ∷ rows) ts ok d h k = elim h.1 [
    | inl x ↦ elim k.1 [
      | inl y ↦
          let q : more x.0 x.1 ≡ more y.0 y.1 = sym x.2 ∙ y.2 in
          let t : y.0 ≡ x.0 = cc in
          let u : y.1 ≡ x.1 = cc in
          ap₂ present
          (means_unique p b c row.node (tagging p row) x.0 ((and_parts _ _ ok).0) x.3 (subst (λ z. Means p c row.node (tagging p row) z) t y.3))
          (matches_unique p es fs rows x.1 ((and_parts _ _ ok).1) (distinct-right (row_tags p row) _ d) x.4 (subst (λ z. Matches p fs rows z) u y.4))
      | inr y ↦ absurd (later p row rows fs b x.0 x.1 ts ok d x.2 x.3 y.1)
    ]
    | inr x ↦ elim k.1 [
      | inl y ↦ absurd (later p row rows es c y.0 y.1 ts ok d y.2 y.3 x.1)
      | inr y ↦ ap₂ present (default_unique row.presence (kind_of row.node) b c x.0 y.0)
          (matches_unique p es fs rows ts ((and_parts _ _ ok).1) (distinct-right (row_tags p row) _ d) x.1 y.1)
    ]
  ]
  matches_unique p no_entries (absent fs) [] ts ok d h k = absurd k
  matches_unique p no_entries (present c fs) [] ts ok d h k = absurd k
  matches_unique p no_entries (absent fs) (row ∷ rows) ts ok d h k = absurd h
  matches_unique p no_entries (present c fs) (row ∷ rows) ts ok d h k = absurd h
  matches_unique p (absent es) fs [] ts ok d h k = absurd h
  matches_unique p (present c es) fs [] ts ok d h k = absurd h
  matches_unique p (absent es) no_entries (row ∷ rows) ts ok d h k = absurd k
  matches_unique p (present c es) no_entries (row ∷ rows) ts ok d h k = absurd k

  items_unique : (p : Profile) (is js : Items) (node : NodeId) (ts : Trees) → MatchItems p is (rows_of node) ts → MatchItems p js (rows_of node) ts → is ≡ js
  items_unique p no_items no_items node ts h k = refl
  items_unique p no_items (item d js) node ts h k = absurd (let q : none ≡ more k.1 k.2 = sym h ∙ k.4 in cc)
  items_unique p (item c is) no_items node ts h k = absurd (let q : none ≡ more h.1 h.2 = sym k ∙ h.4 in cc)
  items_unique p (item c is) (item d js) node ts h k =
      let q : Some h.0 ≡ Some k.0 = sym h.3 ∙ k.3 in
      let r : k.0 ≡ h.0 = cc in
      let e : more h.1 h.2 ≡ more k.1 k.2 = sym h.4 ∙ k.4 in
      let t : k.1 ≡ h.1 = cc in
      let u : k.2 ≡ h.2 = cc in
      ap₂ item
      (means_unique p c d h.0.node (tagging p h.0) h.1 (at_row (is_proper_row p) (rows_of node) 0 h.0 (tables_proper p node) h.3) h.5
      (subst (λ z. Means p d h.0.node (tagging p h.0) z) t (subst (λ z. Means p d z.node (tagging p z) k.1) r k.5)))
      (items_unique p is js node h.2 h.6 (subst (λ z. MatchItems p js (rows_of node) z) u k.6))

-- an untagged row suits each kind but the open type
pub proper_untagged : (k : Kind) → (k ≡ Kind.Any → ⊥) → IsTrue (is_proper untagged k)
proper_untagged Kind.Any n = absurd (n refl)
proper_untagged Kind.Seq n = refl
proper_untagged Kind.SeqOf n = refl
proper_untagged Kind.Choice n = refl
proper_untagged Kind.IllString n = refl
proper_untagged (Kind.Leaf x) n = refl

-- two values that a tree means without a tag round it are equal
pub value_unique : (p : Profile) (c d : Content) (node : NodeId) (T : Tree) → Means p c node untagged T → Means p d node untagged T → c ≡ d
value_unique p c d node T h k = go (kind_of node) refl
  where
    is_any : (c : Content) → kind_of node ≡ Kind.Any → Means p c node untagged T → (U : Tree) × (c ≡ foreign U)
    is_any (foreign U) e m = (U, refl)
    is_any (simple v) e m = absurd (no_any_leaf (kind_of node) v m.0 m.1 e)
    is_any (sequence _) e m = absurd (let q : Kind.Any ≡ Kind.Seq = sym e ∙ m.0 in cc)
    is_any (list _) e m = absurd (let q : Kind.Any ≡ Kind.SeqOf = sym e ∙ m.0 in cc)
    is_any (alternative _ _) e m = absurd (let q : Kind.Any ≡ Kind.Choice = sym e ∙ m.1.0 in cc)

    both : (U V : Tree) → c ≡ foreign U → d ≡ foreign V → c ≡ d
    both U V e f =
        let a : Means p (foreign U) node untagged T = subst (λ x. Means p x node untagged T) e h in
        let b : Means p (foreign V) node untagged T = subst (λ x. Means p x node untagged T) f k in
        e ∙ ap foreign (sym a.1.0 ∙ b.1.0) ∙ sym f

    go : (x : Kind) → kind_of node ≡ x → c ≡ d
    go Kind.Any e = let a = is_any c e h in let b = is_any d e k in both a.0 b.0 a.1 b.1
    go Kind.Seq e = means_unique p c d node untagged T (proper_untagged (kind_of node) (λ q. let z : Kind.Seq ≡ Kind.Any = sym e ∙ q in cc)) h k
    go Kind.SeqOf e = means_unique p c d node untagged T (proper_untagged (kind_of node) (λ q. let z : Kind.SeqOf ≡ Kind.Any = sym e ∙ q in cc)) h k
    go Kind.Choice e = means_unique p c d node untagged T (proper_untagged (kind_of node) (λ q. let z : Kind.Choice ≡ Kind.Any = sym e ∙ q in cc)) h k
    go Kind.IllString e = means_unique p c d node untagged T (proper_untagged (kind_of node) (λ q. let z : Kind.IllString ≡ Kind.Any = sym e ∙ q in cc)) h k
    go (Kind.Leaf x) e = means_unique p c d node untagged T (proper_untagged (kind_of node) (λ q. let z : Kind.Leaf x ≡ Kind.Any = sym e ∙ q in cc)) h k
