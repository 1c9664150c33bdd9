-- The row at which an element is due.
use Rattle.std.proofs.Common.{◌≡◌, ℕ, zero, suc, ◌-◌, true, IsTrue, List, [], ◌∷◌, drop, refl, sym, ap, subst, arith}
use Rattle.ber_leaf.specs.Profile.{profile_two}
use Rattle.ill_tables.specs.declared.node.NodeId.{NodeId}
use Rattle.ill_tables.specs.declared.part.PartId.{PartId}
use Rattle.ill_tables.specs.Table.{kind_of}
use Rattle.ill_refusals.specs.Element.{Component, components, Element}
use Rattle.ill_refusals.specs.Next.{rows, part}
use Rattle.ill_grammar.specs.Cells.{due_at, due_row, is_placed, row_before, wrapped}
use Rattle.ill_grammar.specs.Places.{IsAtRow}
use Rattle.ill_grammar.specs.code.Meant.{has_components, row_there}
use Rattle.ill_grammar.specs.declared.cell.EntryRole.{EntryRole}
use Rattle.ill_grammar.specs.declared.cell.EntryRole.TheVariants as slot

at-row : (p : PartId) (node : NodeId) (row : ℕ) (e : Element) (cs : List Component) → drop row (components profile_two node) ≡ cs → has_components cs ≡ true
    → IsAtRow node row (due_at p node (suc row) slot.Row e)
at-row p node row e [] f h = absurd cc
at-row p node row e (c ∷ cs) f h =
    let d : due_at p node (suc row) slot.Row e ≡ part c e (rows cs) = ap (due_row (wrapped p node) e) f in
    subst (IsAtRow node row) (sym d) (record { component = c; behind = cs; is_row = f; is_due = refl })

pub row-at : (p : PartId) (node : NodeId) (position : ℕ) (e : Element) → IsTrue (is_placed (kind_of node) position slot.Row)
    → IsTrue (row_there slot.Row position (components profile_two node)) → IsAtRow node (position - 1) (due_at p node position slot.Row e)
row-at p node zero e h t = absurd cc
row-at p node (suc row) e h t =
    let z : row ≡ suc row - 1 = omega arith in subst (λ (r : ℕ). IsAtRow node r (due_at p node (suc row) slot.Row e)) z (at-row p node row e _ refl t)

pub row-number : (position : ℕ) → position - 1 ≡ row_before position
row-number zero = refl
row-number (suc row) = omega arith

-- what is in a row is due at it
pub row-of : (p : PartId) (node : NodeId) (position : ℕ) (s : EntryRole) (e : Element) → IsTrue (is_placed (kind_of node) position s)
    → IsTrue (row_there s position (components profile_two node)) → s ≡ slot.Row → IsAtRow node (row_before position) (due_at p node position s e)
row-of p node position s e h t is =
    subst (λ x. IsAtRow node (row_before position) (due_at p node position x e)) (sym is)
    (subst (λ (r : ℕ). IsAtRow node r (due_at p node position slot.Row e)) (row-number position)
    (row-at p node position e (subst (λ x. IsTrue (is_placed (kind_of node) position x)) is h)
    (subst (λ x. IsTrue (row_there x position (components profile_two node))) is t)))
