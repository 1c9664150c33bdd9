-- The normal tree of what an element holds, where the element is due.
use Rattle.ill_tables.specs.declared.profile.Profile.{Profile as Named}
use Rattle.std.proofs.Common.{◌≡◌, ◌⊎◌, ℕ, List, Option, Some, None, option_map, IsTrue, refl, sym, ap, subst, ◌∙◌, inl, inr}
use Rattle.ber_tree.specs.Identifier.{Tag}
use Rattle.ber_tree.specs.Tree.{Tree, primitive, constructed, none, more}
use Rattle.ber_leaf.specs.Segments.{leaf_content}
use Rattle.ber_leaf.specs.Leaf.{normal_content, value}
use Rattle.ber_leaf.specs.Profile.{profile_two}
use Rattle.ill_tables.specs.declared.node.Kind.{Kind}
use Rattle.ill_tables.specs.declared.node.NodeId.{NodeId}
use Rattle.ill_schema.specs.Content.{Content, simple, alternative}
use Rattle.ill_schema.specs.Normal.{normal_tree}
use Rattle.ill_tables.specs.Table.{kind_of, rows_of}
use Rattle.ill_schema.specs.Tagging.{Tagging, untagged, implicit, explicit, explicit_or_bare, tagging, tag_tree, sequence_tag, leaf_tag, leaf_of}
use Rattle.ill_schema.proofs.Tags.{untagged_any, implicit_any, is_proper, is_proper_row, at_row, tables_proper}
use Rattle.ill_schema.proofs.Unique.{leaf_at}
use Rattle.ill_refusals.specs.Element.{Component, Element, Start, tagged_starts, component_starts}
use Rattle.ill_refusals.proofs.OpenElements.{row_proper}
use Rattle.ill_refusals.proofs.Rows.{starting}
use Rattle.ill_refusals.proofs.WholeElements.{element_at, own_start, implicit_start, one_start, improper_choice, own_of, own_is, leaf_value, choice_starts, carried_starts, left_found, carried_or_left, left_starts, IsProperComponent}
use Rattle.ill_grammar.specs.Elements.{component_of, component_at, found_is}
use Rattle.ill_grammar.specs.Cells.{Begins}
use Rattle.ill_grammar.specs.Due.{IsRowDue, IsItemDue, IsInnerDue}
use Rattle.ill_grammar.specs.Contents.{IsValueOf, with_alternative}
use Rattle.ill_grammar.specs.Written.{normal_element}
use Rattle.ill_grammar.specs.Due.{DueEntry}
use Rattle.ill_grammar.specs.Begun.{Begun}
use Rattle.ill_grammar.proofs.Meanings.{begun_proper}
use Rattle.ill_grammar.specs.declared.element.Wrapped.{Wrapped}
use Rattle.ill_grammar.proofs.RowStarts.{row-start}

-- what a value under a function comes from
mapped_some : {A B : Type 0} (f : A → B) (o : Option A) (y : B) → option_map f o ≡ Some y → (x : A) × (o ≡ Some x) × (f x ≡ y)
mapped_some f None y e = absurd cc
mapped_some f (Some x) y e = (x, refl, cc)

-- a leaf of a kind, under a tagging that it suits
leaf_tree : (node : NodeId) (g : Tagging) (t : Tag) (k : Kind) (n : ℕ) (octets : List ℕ) → kind_of node ≡ k → ((k ≡ Kind.Seq) ⊎ (k ≡ Kind.SeqOf) ⊎ (k ≡ Kind.Choice) ⊎ (k ≡ Kind.Any) → ⊥)
    → ((f : Tag → Tree) → tag_tree g (leaf_tag (leaf_at k n)) f ≡ f t)
    → normal_tree (simple (value (leaf_at k n) octets)) node g ≡ primitive t (normal_content (value (leaf_at k n) octets))
leaf_tree node g t k n octets e h at =
    let v = value (leaf_at k n) octets in
    ap (λ o. tag_tree g (elim o as (λ _. Tag) [ Some l ↦ leaf_tag l | None ↦ sequence_tag ]) (λ tag. primitive tag (normal_content v)))
    (ap (λ x. leaf_of x v) e ∙ leaf_value k n octets h)
    ∙ at (λ tag. primitive tag (normal_content v))

-- an element of a kind, under a tagging that it suits
kind_tree : (p : Named) (node : NodeId) (g : Tagging) (t : Tag) (k : Kind) (n : ℕ) (c : Content) (T : Tree) → kind_of node ≡ k → (k ≡ Kind.Choice → ⊥) → (k ≡ Kind.Any → ⊥)
    → ((f : Tag → Tree) → tag_tree g (own_of k n) f ≡ f t) → IsValueOf p (element_at k node n) c T → normal_tree c node g ≡ normal_element (element_at k node n) t c
unfolding own_of
kind_tree p node g t Kind.Choice n c T e other typed at h = absurd (other refl)
kind_tree p node g t Kind.Any n c T e other typed at h = absurd (typed refl)
kind_tree p node g t Kind.IllString n c T e other typed at h =
    rw h.3 (leaf_tree node g t Kind.IllString n (leaf_content (leaf_at Kind.IllString n) T) e (λ x. elim x [ inl q ↦ cc | inr (inl q) ↦ cc | inr (inr (inl q)) ↦ cc | inr (inr (inr q)) ↦ cc ]) at)
kind_tree p node g t (Kind.Leaf l) n c T e other typed at h =
    rw h.3 (leaf_tree node g t (Kind.Leaf l) n (leaf_content (leaf_at (Kind.Leaf l) n) T) e (λ x. elim x [ inl q ↦ cc | inr (inl q) ↦ cc | inr (inr (inl q)) ↦ cc | inr (inr (inr q)) ↦ cc ]) at)
kind_tree p node g t _ n c T e other typed at h = rw h.4 (at _)

-- an explicit tag holds the one tree, also where it may be bare
wrapped_tree : (g : Tagging) (t : Tag) (c : Content) (node : NodeId) → ((own : Tag) (f : Tag → Tree) → tag_tree g own f ≡ constructed t (more (f own) none))
    → normal_tree c node g ≡ constructed t (more (normal_tree c node untagged) none)
wrapped_tree g t (simple v) node at = at _ _
wrapped_tree g t _ node at = at _ _

-- an element of a component by its tag, under a tagging that it suits
tagged_normal : (p : Named) (g : Tagging) (w : Component) (t : Tag) (s : Start) (c : Content) (T : Tree) → IsTrue (is_proper g (kind_of w.node)) → starting t (tagged_starts g w) ≡ Some s
    → IsValueOf p s.element c T → normal_tree c w.node g ≡ normal_element s.element t c
tagged_normal p untagged w t s c T ok h m =
    let q = own_start (kind_of w.node) w.node t s h in
    kind_tree p w.node untagged t (kind_of w.node) t.number c T refl (choice_starts (kind_of w.node) w.node t s h) (untagged_any (kind_of w.node) ok)
    (λ f. ap f (sym (own_is (kind_of w.node) t q.0))) (subst (λ x. IsValueOf p x c T) q.1 m)
    ∙ ap (λ x. normal_element x t c) (sym q.1)
tagged_normal p (implicit u) w t s c T ok h m =
    let q = implicit_start (kind_of w.node) w.node t u s ok h in
    kind_tree p w.node (implicit u) t (kind_of w.node) t.number c T refl (improper_choice u (kind_of w.node) ok) (implicit_any u (kind_of w.node) ok) (λ f. ap f q.0) (subst (λ x. IsValueOf p x c T) q.2 m)
    ∙ ap (λ x. normal_element x t c) (sym q.2)
tagged_normal p (explicit u) w t s c T ok h m =
    let q = one_start t u _ s h in
    wrapped_tree (explicit u) t c w.node (λ own f. ap (λ x. constructed x (more (f own) none)) q.0) ∙ ap (λ x. normal_element x t c) (sym q.1)
tagged_normal p (explicit_or_bare u) w t s c T ok h m =
    let q = one_start t u _ s h in
    wrapped_tree (explicit_or_bare u) t c w.node (λ own f. ap (λ x. constructed x (more (f own) none)) q.0) ∙ ap (λ x. normal_element x t c) (sym q.1)

-- an element that begins a component, which is then not left out
component_normal : (p : Named) (w : Component) (t : Tag) (e : Element) (c : Content) (T : Tree) → IsTrue (is_proper w.tagging (kind_of w.node)) → Begins t w None e
    → IsValueOf p e c T → normal_tree c w.node w.tagging ≡ normal_element e t c
component_normal p w t e c T ok b m =
    let q = mapped_some (λ (x : Start). x.element) (starting t (component_starts w)) e b in
    let s = q.0 in
    let of_start = subst (λ x. IsValueOf p x c T) (sym q.2) m in
    elim (carried_or_left w.presence) [
      | inl i ↦
          (tagged_normal p) w.tagging w t s c T ok (subst (λ x. starting t x ≡ Some s) (carried_starts w w.presence refl i) q.1) of_start
          ∙ ap (λ x. normal_element x t c) q.2
      | inr l ↦
          let left = left_found t w.part (tagged_starts w.tagging w) s (subst (λ x. starting t x ≡ Some s) (left_starts w l) q.1) in
          absurd (subst (λ x. IsValueOf p x c T) left of_start)
    ]

-- the normal tree of a component's value is that of the element by which it begins
pub begins_normal : (p : Named) (t : Tag) (w : Component) (alt : Option ℕ) (e : Element) (c : Content) (T : Tree) → IsProperComponent profile_two w → Begins t w alt e → IsValueOf p e c T
    → normal_tree (with_alternative alt c) w.node w.tagging ≡ normal_element e t c
begins_normal p t w None e c T ok b m = component_normal p w t e c T ok.proper b m
begins_normal p t w (Some n) e c T ok b m =
    let s = row-start t w.node n e b.2 in
    let row = s.0 in
    let proper : IsTrue (is_proper_row profile_two row) = at_row (is_proper_row profile_two) (rows_of w.node) n row (tables_proper profile_two w.node) s.1 in
    ap (normal_tree (alternative n c) w.node) b.0
    ∙ ap (λ o. elim o as (λ _. Tree) [ Some x ↦ normal_tree c x.node (tagging profile_two x) | None ↦ constructed sequence_tag none ]) s.1
    ∙ component_normal p (component_at (record { node = w.node; row = n }) row) t e c T proper s.2 m

-- of an element of a row
pub row_normal : (p : Named) (t : Tag) (node : NodeId) (position r : ℕ) (alt : Option ℕ) (f : Begun) (c : Content) (T : Tree) → (h : IsRowDue t node position r alt f) → IsValueOf p (found_is f) c T
    → normal_tree (with_alternative alt c) h.row.node (tagging profile_two h.row) ≡ normal_element (found_is f) t c
row_normal p t node position r alt f c T h m =
    begins_normal p t (component_at (record { node = node; row = r }) h.row) alt (found_is f) c T (row_proper node r h.row h.is_row) h.begins m

-- of an item of a list
pub item_normal : (p : Named) (t : Tag) (node : NodeId) (d : DueEntry) (c : Content) (T : Tree) → (h : IsItemDue t node d) → IsValueOf p (found_is d.found) c T
    → normal_tree (with_alternative d.alternative c) h.row.node (tagging profile_two h.row) ≡ normal_element (found_is d.found) t c
item_normal p t node d c T h m =
    begins_normal p t (component_at (record { node = node; row = 0 }) h.row) d.alternative (found_is d.found) c T (row_proper node 0 h.row h.is_row) h.begun.begins m

-- of the part of a wrapper
pub inner_normal : (p : Named) (t : Tag) (w : Wrapped) (d : DueEntry) (c : Content) (T : Tree) → IsInnerDue t w d → IsValueOf p (found_is d.found) c T
    → normal_tree (with_alternative d.alternative c) w.node untagged ≡ normal_element (found_is d.found) t c
inner_normal p t w d c T h m = begins_normal p t (component_of w) d.alternative (found_is d.found) c T (begun_proper t w d.alternative d.found h.begun) h.begun.begins m
