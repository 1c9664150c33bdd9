-- What a whole element means where it is due.
use Rattle.ill_schema.specs.Profiles.{profile_of}
use Rattle.ill_tables.specs.declared.profile.Profile.{Profile as Named}
use Rattle.std.proofs.Common.{◌≡◌, ◌⊎◌, ℕ, List, Option, Some, None, option_map, IsTrue, refl, sym, ap, subst, ◌∙◌, inl, inr}
use Rattle.ber_tree.specs.Identifier.{Tag}
use Rattle.ber_tree.specs.Tree.{Tree, constructed, none, more, tag_of}
use Rattle.ber_leaf.specs.Segments.{leaf_content}
use Rattle.ber_leaf.specs.Leaf.{value}
use Rattle.ber_leaf.specs.Profile.{profile_two}
use Rattle.ill_tables.specs.declared.node.Kind.{Kind}
use Rattle.ill_tables.specs.declared.node.LeafKind.{LeafKind}
use Rattle.ill_tables.specs.declared.node.NodeId.{NodeId}
use Rattle.ill_schema.specs.Content.{Content, simple, alternative}
use Rattle.ill_schema.specs.Content as content
use Rattle.ill_schema.specs.Meaning.{Means}
use Rattle.ill_schema.specs.Presence.{IsCarried}
use Rattle.ill_tables.specs.Table.{kind_of, rows_of}
use Rattle.ill_schema.specs.Tagging.{Tagging, Tagged, untagged, implicit, explicit, explicit_or_bare, tagging, leaf_of}
use Rattle.ill_schema.proofs.Tags.{untagged_any, implicit_any, is_proper, is_proper_row, at_row, tables_proper}
use Rattle.ill_schema.proofs.Unique.{leaf_at, no_leaf}
use Rattle.ill_grammar.specs.Elements.{component_of, component_at, element_with, found_is}
use Rattle.ill_grammar.specs.Cells.{Begins}
use Rattle.ill_grammar.specs.Due.{IsBegun, IsRowDue}
use Rattle.ill_refusals.specs.Element.{Component, Element, Start, own_starts, tagged_starts, component_starts}
use Rattle.ill_grammar.specs.Contents.{IsValueOf, with_alternative}
use Rattle.ill_grammar.specs.Begun.{Begun}
use Rattle.ill_grammar.specs.declared.element.Wrapped.{Wrapped}
use Rattle.ill_refusals.proofs.WholeElements.{element_at, own_start, implicit_start, one_start, improper_choice, own_of, own_is, leaf_value, explicit_means, bare_kind, choice_starts, carried_starts, left_found, carried_or_left, left_starts, IsProperComponent, untagged_carried}
use Rattle.ill_refusals.proofs.OpenElements.{inner_proper, row_proper}
use Rattle.ill_refusals.proofs.Rows.{starting}
use Rattle.ill_grammar.proofs.RowStarts.{row-start}

-- what a tag begins in a wrapper is no open type
pub closed : (t : Tag) (w : Wrapped) (alt : Option ℕ) (f : Begun) → IsBegun t (component_of w) alt f → kind_of w.node ≡ Kind.Any → ⊥
closed t w alt f h = go alt h.begins
  where
    go : (alt : Option ℕ) → Begins t (component_of w) alt (found_is f) → kind_of w.node ≡ Kind.Any → ⊥
    go None b k = let q : element_with t (own_starts Kind.Any w.node) ≡ Some (found_is f) = subst (λ x. element_with t (own_starts x w.node) ≡ Some (found_is f)) k b in cc
    go (Some n) b k = let q : Kind.Choice ≡ Kind.Any = sym b.1 ∙ k in cc

-- what an explicit tag is round is of no open type, since something begins it
pub begun_proper : (t : Tag) (w : Wrapped) (alt : Option ℕ) (f : Begun) → IsBegun t (component_of w) alt f → IsProperComponent profile_two (component_of w)
begun_proper t w alt f h = inner_proper profile_two (component_of w) refl refl (closed t w alt f h)

-- a whole element of a kind means its value, under a tagging that it suits
kind_means : (p : Named) (node : NodeId) (g : Tagging) (T : Tree) (k : Kind) (c : Content) → kind_of node ≡ k → (k ≡ Kind.Choice → ⊥) → (k ≡ Kind.Any → ⊥)
    → ((E : Tag → Tree → Type 0) → E (tag_of T) T → Tagged g (own_of k (tag_of T).number) E T)
    → IsValueOf p (element_at k node (tag_of T).number) c T → Means (profile_of p) c node g T
unfolding own_of
kind_means p node g T Kind.Seq c e n o lift h =
    subst (λ x. Means (profile_of p) x node g T) (sym h.4) (e, lift _ (h.1, h.3 ∙ ap (λ t. constructed t h.1) (sym (ap tag_of h.3)), h.5))
kind_means p node g T Kind.SeqOf c e n o lift h =
    subst (λ x. Means (profile_of p) x node g T) (sym h.4) (e, lift _ (h.1, h.3 ∙ ap (λ t. constructed t h.1) (sym (ap tag_of h.3)), h.5))
kind_means p node g T Kind.Choice c e n o lift h = absurd (n refl)
kind_means p node g T Kind.Any c e n o lift h = absurd (o refl)
kind_means p node g T Kind.IllString c e n o lift h =
    let l = leaf_at Kind.IllString (tag_of T).number in
    subst (λ x. Means (profile_of p) x node g T) (sym h.3)
    (l, ap (λ k. leaf_of k (value l (leaf_content l T))) e ∙ leaf_value Kind.IllString (tag_of T).number (leaf_content l T) (λ x. no_shape x), lift _ (refl, h.0, (h.1, h.2, refl)))
  where
    no_shape : (Kind.IllString ≡ Kind.Seq) ⊎ (Kind.IllString ≡ Kind.SeqOf) ⊎ (Kind.IllString ≡ Kind.Choice) ⊎ (Kind.IllString ≡ Kind.Any) → ⊥
    no_shape (inl x) = cc
    no_shape (inr (inl x)) = cc
    no_shape (inr (inr (inl x))) = cc
    no_shape (inr (inr (inr x))) = cc
kind_means p node g T (Kind.Leaf x) c e n o lift h =
    let l = leaf_at (Kind.Leaf x) (tag_of T).number in
    subst (λ y. Means (profile_of p) y node g T) (sym h.3)
    (l, ap (λ k. leaf_of k (value l (leaf_content l T))) e ∙ leaf_value (Kind.Leaf x) (tag_of T).number (leaf_content l T) (λ y. no_shape x y), lift _ (refl, h.0, (h.1, h.2, refl)))
  where
    no_shape : (x : LeafKind) → (Kind.Leaf x ≡ Kind.Seq) ⊎ (Kind.Leaf x ≡ Kind.SeqOf) ⊎ (Kind.Leaf x ≡ Kind.Choice) ⊎ (Kind.Leaf x ≡ Kind.Any) → ⊥
    no_shape x (inl y) = cc
    no_shape x (inr (inl y)) = cc
    no_shape x (inr (inr (inl y))) = cc
    no_shape x (inr (inr (inr y))) = cc

sequence_means : (p : Named) (u : Tag) (node : NodeId) (U T : Tree) (c : Content) → kind_of node ≡ Kind.Seq → Means (profile_of p) c node untagged U → T ≡ constructed u (more U none)
    → Means (profile_of p) c node (explicit_or_bare u) T
sequence_means p u node U T (content.sequence es) k x e = (k, inl (U, e, x.1))
sequence_means p u node U T (simple w) k x e = absurd (no_leaf (kind_of node) w x.0 x.1 (inl k))
sequence_means p u node U T (content.list is) k x e = absurd (let q : Kind.Seq ≡ Kind.SeqOf = sym k ∙ x.0 in cc)
sequence_means p u node U T (alternative n w) k x e = absurd (let q : Kind.Seq ≡ Kind.Choice = sym k ∙ x.1.0 in cc)
sequence_means p u node U T (content.foreign V) k x e = absurd (let q : Kind.Seq ≡ Kind.Any = sym k ∙ x.0 in cc)

tagged_means : (p : Named) (g : Tagging) (w : Component) (s : Start) (c : Content) (T : Tree) → IsTrue (is_proper g (kind_of w.node)) → starting (tag_of T) (tagged_starts g w) ≡ Some s
    → IsValueOf p s.element c T → Means (profile_of p) c w.node g T
tagged_means p untagged w s c T ok h m =
    let q = own_start (kind_of w.node) w.node (tag_of T) s h in
    kind_means p w.node untagged T (kind_of w.node) c refl (λ e. choice_starts (kind_of w.node) w.node (tag_of T) s h e) (untagged_any (kind_of w.node) ok)
    (λ E x. subst (λ t. E t T) (own_is (kind_of w.node) (tag_of T) q.0) x) (subst (λ x. IsValueOf p x c T) q.1 m)
tagged_means p (implicit u) w s c T ok h m =
    let q = implicit_start (kind_of w.node) w.node (tag_of T) u s ok h in
    kind_means p w.node (implicit u) T (kind_of w.node) c refl (λ k. improper_choice u (kind_of w.node) ok k) (implicit_any u (kind_of w.node) ok) (λ E x. subst (λ t. E t T) (sym q.0) x) (subst (λ x. IsValueOf p x c T) q.2 m)
tagged_means p (explicit u) w s c T ok h m =
    let q = one_start (tag_of T) u _ s h in
    let x = subst (λ x. IsValueOf p x c T) q.1 m in
    (explicit_means (profile_of p) c w.node u T).1 (x.1, x.2 ∙ ap (λ t. constructed t (more x.1 none)) (sym (ap tag_of x.2) ∙ sym q.0), x.3)
tagged_means p (explicit_or_bare u) w s c T ok h m =
    let q = one_start (tag_of T) u _ s h in
    let k = bare_kind u (kind_of w.node) ok in
    elim (subst (λ x. IsValueOf p x c T) q.1 m) [
      | inl x ↦ sequence_means p u w.node x.1 T c k x.3 (x.2 ∙ ap (λ t. constructed t (more x.1 none)) (sym (ap tag_of x.2) ∙ sym q.0))
      | inr x ↦ subst (λ y. Means (profile_of p) y w.node (explicit_or_bare u) T) (sym x.4) (k, inr (x.1, x.3 ∙ ap (λ t. constructed t x.1) (sym (ap tag_of x.3) ∙ sym q.0), x.5))
    ]

component_means : (p : Named) (w : Component) (s : Start) (c : Content) (T : Tree) → IsTrue (is_proper w.tagging (kind_of w.node)) → starting (tag_of T) (component_starts w) ≡ Some s
    → IsValueOf p s.element c T → IsCarried w.presence × Means (profile_of p) c w.node w.tagging T
component_means p w s c T ok h m = elim (carried_or_left w.presence) [
  | inl i ↦ (i, tagged_means p w.tagging w s c T ok (subst (λ x. starting (tag_of T) x ≡ Some s) (carried_starts w w.presence refl i) h) m)
  | inr e ↦
      let q = left_found (tag_of T) w.part (tagged_starts w.tagging w) s (subst (λ x. starting (tag_of T) x ≡ Some s) (left_starts w e) h) in
      absurd (subst (λ x. IsValueOf p x c T) q m)
]

-- the start of the element that begins
start_with : (t : Tag) (ss : List Start) (e : Element) → element_with t ss ≡ Some e → (s : Start) × (starting t ss ≡ Some s) × (s.element ≡ e)
start_with t ss e h = go (starting t ss) refl h
  where
    go : (x : Option Start) → starting t ss ≡ x → option_map (λ (s : Start). s.element) x ≡ Some e → (s : Start) × (starting t ss ≡ Some s) × (s.element ≡ e)
    go None q k = absurd cc
    go (Some s) q k = (s, q, let r : s.element ≡ e = cc in r)

begins_means : (p : Named) (w : Component) (alt : Option ℕ) (e : Element) (c : Content) (T : Tree) → IsProperComponent profile_two w → Begins (tag_of T) w alt e → IsValueOf p e c T
    → IsCarried w.presence × Means (profile_of p) (with_alternative alt c) w.node w.tagging T
begins_means p w None e c T ok h m =
    let s = start_with (tag_of T) (component_starts w) e h in
    component_means p w s.0 c T ok.proper s.1 (subst (λ x. IsValueOf p x c T) (sym s.2) m)
begins_means p w (Some n) e c T ok h m =
    let begun = row-start (tag_of T) w.node n e h.2 in
    let row = begun.0 in
    let at = component_at (record { node = w.node; row = n }) row in
    let s = start_with (tag_of T) (component_starts at) e begun.2 in
    let proper : IsTrue (is_proper_row profile_two row) = at_row (is_proper_row profile_two) (rows_of w.node) n row (tables_proper profile_two w.node) begun.1 in
    let q = component_means p at s.0 c T proper s.1 (subst (λ x. IsValueOf p x c T) (sym s.2) m) in (
      untagged_carried w.presence w.tagging h.0 ok.carried,
      subst (λ g. Means (profile_of p) (alternative n c) w.node g T) (sym h.0) (row, (h.1, begun.1, q.0), q.1),
    )

-- of an element that begins a component
pub begun_means : (p : Named) (w : Component) (alt : Option ℕ) (f : Begun) (c : Content) (T : Tree) → IsProperComponent profile_two w → IsBegun (tag_of T) w alt f → IsValueOf p (found_is f) c T
    → IsCarried w.presence × Means (profile_of p) (with_alternative alt c) w.node w.tagging T
begun_means p w alt f c T ok h m = begins_means p w alt (found_is f) c T ok h.begins m

-- of an element of a row
pub row_means : (p : Named) (T : Tree) (node : NodeId) (position r : ℕ) (alt : Option ℕ) (f : Begun) (c : Content) → (h : IsRowDue (tag_of T) node position r alt f) → IsValueOf p (found_is f) c T
    → IsCarried h.row.presence × Means (profile_of p) (with_alternative alt c) h.row.node (tagging profile_two h.row) T
row_means p T node position r alt f c h m =
    begins_means p (component_at (record { node = node; row = r }) h.row) alt (found_is f) c T (row_proper node r h.row h.is_row) h.begins m
