-- The row that a component is, and what begins it.
use Rattle.std.proofs.Common.{◌≡◌, ℕ, zero, suc, ◌+◌, List, [], ◌∷◌, drop, Some, refl, sym, ap, subst, ◌∙◌, arith, slice_get}
use Rattle.ber_tree.specs.Identifier.{Tag}
use Rattle.ber_leaf.specs.Profile.{profile_two}
use Rattle.ill_tables.specs.declared.node.NodeId.{NodeId}
use Rattle.ill_tables.specs.declared.part.Row.{Row}
use Rattle.ill_tables.specs.Table.{rows_of}
use Rattle.ill_refusals.specs.Element.{Component, Element, component_starts, components, components_from}
use Rattle.ill_grammar.specs.Cells.{BeginsAlternative}
use Rattle.ill_grammar.specs.Elements.{component_at, element_with}

there : (node : NodeId) (k i : ℕ) (rs : List Row) (c : Component) (cs : List Component) → drop i (components_from profile_two node k rs) ≡ c ∷ cs
    → (row : Row) × (slice_get rs i ≡ Some row) × (c ≡ component_at (record { node = node; row = k + i }) row)
there node k zero [] c cs e = absurd cc
there node k zero (r ∷ rs) c cs e =
    let z : k ≡ k + zero = omega arith in
    let q : component_at (record { node = node; row = k }) r ≡ c = cc in
    (r, refl, sym q ∙ ap (λ (m : ℕ). component_at (record { node = node; row = m }) r) z)
there node k (suc i) [] c cs e = absurd cc
there node k (suc i) (r ∷ rs) c cs e =
    let z : k + 1 + i ≡ k + suc i = omega arith in
    let x = there node (k + 1) i rs c cs e in
    (x.0, x.1, x.2 ∙ ap (λ (m : ℕ). component_at (record { node = node; row = m }) x.0) z)

-- the row of a component
pub component-row : (node : NodeId) (i : ℕ) (c : Component) (cs : List Component) → drop i (components profile_two node) ≡ c ∷ cs
    → (row : Row) × (slice_get (rows_of node) i ≡ Some row) × (c ≡ component_at (record { node = node; row = i }) row)
component-row node i c cs e =
    let z : 0 + i ≡ i = omega arith in
    let x = there node 0 i (rows_of node) c cs e in
    (x.0, x.1, x.2 ∙ ap (λ (m : ℕ). component_at (record { node = node; row = m }) x.0) z)

got : {A : Type 0} (xs : List A) (i : ℕ) (x : A) → slice_get xs i ≡ Some x → (ys : List A) × (drop i xs ≡ x ∷ ys)
got [] i x e = absurd cc
got (y ∷ ys) zero x e = (ys, (let q : y ≡ x = cc in ap (λ z. z ∷ ys) q))
got (y ∷ ys) (suc i) x e = got ys i x e

-- the tag begins an element of the row of a choice
abbrev pub IsRowStart : Tag → NodeId → ℕ → Element → Type 0
IsRowStart t node n e = (row : Row) × (slice_get (rows_of node) n ≡ Some row) × (element_with t (component_starts (component_at (record { node = node; row = n }) row)) ≡ Some e)

pub row-start : (t : Tag) (node : NodeId) (n : ℕ) (e : Element) → BeginsAlternative t node n e → IsRowStart t node n e
row-start t node n e b =
    let g = got (components profile_two node) n b.0 b.1 in
    let w = component-row node n b.0 g.0 g.1 in
    (w.0, w.1, subst (λ x. element_with t (component_starts x) ≡ Some e) w.2 b.2)
