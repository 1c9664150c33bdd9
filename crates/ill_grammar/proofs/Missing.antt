-- The first mandatory part from a position on.
use Rattle.std.proofs.Common.{◌≡◌, ℕ, zero, suc, ◌+◌, ◌≤◌, Bool, true, false, List, [], ◌∷◌, drop, length, Option, Some, None, refl, sym, ap, ◌∙◌, arith, slice_get}
use Rattle.std.specs.Prelude.{if◌then◌else◌}
use Rattle.ber_leaf.specs.Profile.{profile_two}
use Rattle.ill_tables.specs.declared.node.Kind.{Kind}
use Rattle.ill_tables.specs.declared.node.NodeId.{NodeId}
use Rattle.ill_tables.specs.declared.part.PartId.{PartId}
use Rattle.ill_tables.specs.declared.part.Presence.{Presence}
use Rattle.ill_tables.specs.declared.part.Row.{Row}
use Rattle.ill_tables.specs.Table.{kind_of, rows_of}
use Rattle.ill_refusals.specs.Element.{Component, components, components_from}
use Rattle.ill_refusals.specs.Next.{Next, rows, items, first_mandatory, missing}
use Rattle.ill_grammar.specs.Cells.{around, is_strict, next_from, next_of_kind, part_at, wrapped}
use Rattle.ill_grammar.specs.code.Meant.{Meant, cells_meant, is_must, item_meant, kind_meant, node_meant, rows_meant}
use Rattle.ill_grammar.specs.declared.cell.Cell.{Cell}
use Rattle.ill_grammar.specs.declared.cell.EntryRole.TheVariants as slot
use Rattle.ill_grammar.proofs.Scanning.{drop-item, drop-next, drop-none, drop-rows}
use Rattle.ill_grammar.proofs.CellMeanings.{cells-at, cells-end}

-- the part of the first that is mandatory
abbrev pub needed : PartId → NodeId → ℕ → List Meant → Option PartId
needed p node position [] = None
needed p node position (m ∷ ms) = if m.is_mandatory then Some (part_at p node position m.slot) else needed p node (suc position) ms

part-at : (node : NodeId) (k row : ℕ) (rs : List Row) (c : Component) (cs : List Component) → drop row (components_from profile_two node k rs) ≡ c ∷ cs
    → c.part ≡ record { node = node; row = k + row }
part-at node k zero [] c cs e = absurd cc
part-at node k (suc row) [] c cs e = absurd cc
part-at node k zero (r ∷ rs) c cs e =
    let g : record { node = node; row = k } ≡ c.part = cc in
    let z : k ≡ k + zero = omega arith in
    sym g ∙ ap (λ (m : ℕ). let x : PartId = record { node = node; row = m } in x) z
part-at node k (suc row) (r ∷ rs) c cs e =
    let z : k + 1 + row ≡ k + suc row = omega arith in
    part-at node (k + 1) row rs c cs e ∙ ap (λ (m : ℕ). let x : PartId = record { node = node; row = m } in x) z

needed-rows : (p : PartId) (node : NodeId) (row : ℕ) (cs : List Component) → drop row (components profile_two node) ≡ cs
    → needed p node (suc row) (rows_meant cs) ≡ first_mandatory cs
needed-rows p node row [] e = refl
needed-rows p node row (c ∷ cs) e = by c.presence (needed-rows p node (suc row) cs (drop-next _ row c cs e))
  where
    here : (let x : PartId = record { node = node; row = row } in x) ≡ c.part
    here =
        let z : 0 + row ≡ row = omega arith in
        sym (part-at node 0 row (rows_of node) c cs e ∙ ap (λ (m : ℕ). let x : PartId = record { node = node; row = m } in x) z)

    by : (x : Presence) → needed p node (suc (suc row)) (rows_meant cs) ≡ first_mandatory cs
        → (if is_must x then Some (part_at p node (suc row) slot.Row) else needed p node (suc (suc row)) (rows_meant cs))
        ≡ elim x as (λ _. Option PartId) [ Presence.Must ↦ Some c.part | _ ↦ first_mandatory cs ]
    by Presence.Must r = ap Some here
    by Presence.May r = r
    by (Presence.Default d) r = r
    by Presence.LeftOut r = r

needed-item : (p : PartId) (node : NodeId) (cs : List Component)
    → needed p node 1 (item_meant cs) ≡ missing profile_two (elim cs as (λ _. Next) [ [] ↦ rows [] | c ∷ _ ↦ items c ])
needed-item p node [] = refl
needed-item p node (c ∷ cs) = refl

needed-kind : (p : PartId) (node : NodeId) (position : ℕ) (k : Kind)
    → needed p node position (drop position (kind_meant k node)) ≡ missing profile_two (next_of_kind k p node position)
needed-kind p node zero Kind.Seq = at (is_strict node)
  where
    at : (b : Bool) → (if b then Some (part_at p node zero slot.Inner) else needed p node 1 (rows_meant (components profile_two node)))
        ≡ missing profile_two (around b (wrapped p node))
    at true = refl
    at false = needed-rows p node zero (components profile_two node) refl
needed-kind p node (suc row) Kind.Seq =
    ap (needed p node (suc row)) (drop-rows row (components profile_two node)) ∙ needed-rows p node row (drop row (components profile_two node)) refl
needed-kind p node zero Kind.SeqOf = refl
needed-kind p node (suc zero) Kind.SeqOf = needed-item p node (components profile_two node)
needed-kind p node (suc (suc n)) Kind.SeqOf = ap (needed p node (suc (suc n))) (drop-item n (components profile_two node))
needed-kind p node zero Kind.Choice = refl
needed-kind p node (suc zero) Kind.Choice = refl
needed-kind p node (suc (suc n)) Kind.Choice = refl
needed-kind p node zero Kind.Any = refl
needed-kind p node (suc zero) Kind.Any = refl
needed-kind p node (suc (suc n)) Kind.Any = refl
needed-kind p node zero (Kind.Leaf l) = refl
needed-kind p node (suc zero) (Kind.Leaf l) = refl
needed-kind p node (suc (suc n)) (Kind.Leaf l) = ap (needed p node (suc (suc n))) (drop-none n)
needed-kind p node zero Kind.IllString = refl
needed-kind p node (suc zero) Kind.IllString = refl
needed-kind p node (suc (suc n)) Kind.IllString = ap (needed p node (suc (suc n))) (drop-none n)

pub needed-all : (p : PartId) (node : NodeId) (i : ℕ) (cs : List Cell) → cells_meant cs ≡ node_meant node
    → missing profile_two (next_from p node i) ≡ needed p node i (drop i (cells_meant cs))
needed-all p node i cs e = sym (needed-kind p node i (kind_of node)) ∙ ap (λ ms. needed p node i (drop i ms)) (sym e)

pub needed-found : (p : PartId) (node : NodeId) (i : ℕ) (cs : List Cell) (c : Cell) → slice_get cs i ≡ Some c → c.is_mandatory ≡ true
    → needed p node i (drop i (cells_meant cs)) ≡ Some (part_at p node i c.slot)
needed-found p node i cs c h s =
    ap (needed p node i) (cells-at i cs c h)
    ∙ ap (λ b. if b then Some (part_at p node i c.slot) else needed p node (suc i) (drop (suc i) (cells_meant cs))) s

pub needed-skip : (p : PartId) (node : NodeId) (i : ℕ) (cs : List Cell) (c : Cell) → slice_get cs i ≡ Some c → c.is_mandatory ≡ false
    → needed p node i (drop i (cells_meant cs)) ≡ needed p node (i + 1) (drop (i + 1) (cells_meant cs))
needed-skip p node i cs c h s =
    let z : suc i ≡ i + 1 = omega arith in
    ap (needed p node i) (cells-at i cs c h)
    ∙ ap (λ b. if b then Some (part_at p node i c.slot) else needed p node (suc i) (drop (suc i) (cells_meant cs))) s
    ∙ ap (λ (j : ℕ). needed p node j (drop j (cells_meant cs))) z

pub needed-end : (p : PartId) (node : NodeId) (i : ℕ) (cs : List Cell) → length cs ≤ i → needed p node i (drop i (cells_meant cs)) ≡ None
needed-end p node i cs h = ap (needed p node i) (cells-end i cs h)
