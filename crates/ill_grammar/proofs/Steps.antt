-- The steps of a search through the cells of a node.
use Rattle.std.proofs.Common.{◌≡◌, ℕ, zero, suc, ◌+◌, ◌≤◌, true, false, ◌||◌, List, ◌∷◌, drop, length, Option, Some, None, sym, ap, ◌∙◌, arith, slice_get}
use Rattle.std.specs.Prelude.{if◌then◌else◌, is_some}
use Rattle.ber_tree.specs.Identifier.{Tag}
use Rattle.ber_leaf.specs.Profile.{profile_two}
use Rattle.ill_tables.specs.declared.node.Kind.{Kind}
use Rattle.ill_tables.specs.declared.node.NodeId.{NodeId}
use Rattle.ill_tables.specs.declared.part.PartId.{PartId}
use Rattle.ill_tables.specs.Table.{kind_of}
use Rattle.ill_refusals.specs.Element.{components, Element}
use Rattle.ill_refusals.specs.Next.{Due, first_mandatory, missing}
use Rattle.ill_grammar.specs.Elements.{element_with}
use Rattle.ill_grammar.specs.Cells.{due_at, is_strict, next_from, node_choice}
use Rattle.ill_grammar.specs.code.ByTag.{due_by_tag}
use Rattle.ill_grammar.specs.code.Meant.{Meant, cell_meant, cell_starts, cells_meant, kind_meant, meant, node_meant, node_starts}
use Rattle.ill_grammar.specs.declared.cell.Cell.{Cell}
use Rattle.ill_grammar.specs.declared.cell.EntryRole.TheVariants as slot
use Rattle.ill_grammar.proofs.Scanning.{lacking, lacking-node, scan, scan-node}
use Rattle.ill_grammar.proofs.CellMeanings.{IsSaid, cells-at, cells-end, said-node}

-- what the cell at a position says is said there
pub cell-said : (node : NodeId) (i : ℕ) (cs : List Cell) (c : Cell) → cells_meant cs ≡ node_meant node → slice_get cs i ≡ Some c
    → IsSaid (kind_of node) node i (cell_meant c)
cell-said node i cs c e h = said-node node i _ _ (ap (drop i) (sym e) ∙ cells-at i cs c h)

-- all cells from a position on say what is due there
pub scan-all : (t : Tag) (p : PartId) (node : NodeId) (i : ℕ) (cs : List Cell) → cells_meant cs ≡ node_meant node
    → due_by_tag t (next_from p node i) ≡ scan t p node i (drop i (cells_meant cs))
scan-all t p node i cs e = sym (scan-node t p node i) ∙ ap (λ ms. scan t p node i (drop i ms)) (sym e)

abbrev step_of : Tag → PartId → NodeId → ℕ → Cell → Option Due → Option Element → Option Due
step_of t p node i c rest o = elim o as (λ _. Option Due) [ Some e ↦ Some (due_at p node i c.slot e) | None ↦ if c.is_mandatory then None else rest ]

pub scan-found : (t : Tag) (p : PartId) (node : NodeId) (i : ℕ) (cs : List Cell) (c : Cell) (e : Element) → slice_get cs i ≡ Some c
    → element_with t (cell_starts c) ≡ Some e → scan t p node i (drop i (cells_meant cs)) ≡ Some (due_at p node i c.slot e)
scan-found t p node i cs c e h f = ap (scan t p node i) (cells-at i cs c h) ∙ ap (step_of t p node i c _) f

pub scan-stop : (t : Tag) (p : PartId) (node : NodeId) (i : ℕ) (cs : List Cell) (c : Cell) → slice_get cs i ≡ Some c
    → element_with t (cell_starts c) ≡ None → c.is_mandatory ≡ true → scan t p node i (drop i (cells_meant cs)) ≡ None
scan-stop t p node i cs c h f s =
    ap (scan t p node i) (cells-at i cs c h) ∙ ap (step_of t p node i c _) f
    ∙ ap (λ b. if b then None else scan t p node (suc i) (drop (suc i) (cells_meant cs))) s

pub scan-skip : (t : Tag) (p : PartId) (node : NodeId) (i : ℕ) (cs : List Cell) (c : Cell) → slice_get cs i ≡ Some c
    → element_with t (cell_starts c) ≡ None → c.is_mandatory ≡ false
    → scan t p node i (drop i (cells_meant cs)) ≡ scan t p node (i + 1) (drop (i + 1) (cells_meant cs))
scan-skip t p node i cs c h f s =
    let z : suc i ≡ i + 1 = omega arith in
    ap (scan t p node i) (cells-at i cs c h) ∙ ap (step_of t p node i c _) f
    ∙ ap (λ b. if b then None else scan t p node (suc i) (drop (suc i) (cells_meant cs))) s
    ∙ ap (λ (j : ℕ). scan t p node j (drop j (cells_meant cs))) z

pub scan-end : (t : Tag) (p : PartId) (node : NodeId) (i : ℕ) (cs : List Cell) → length cs ≤ i → scan t p node i (drop i (cells_meant cs)) ≡ None
scan-end t p node i cs h = ap (scan t p node i) (cells-end i cs h)

-- the cell has whether something is missing
pub lacking-all : (p : PartId) (node : NodeId) (i : ℕ) (cs : List Cell) → cells_meant cs ≡ node_meant node
    → is_some (missing profile_two (next_from p node i)) ≡ lacking (drop i (cells_meant cs))
lacking-all p node i cs e = sym (lacking-node p node i) ∙ ap (λ ms. lacking (drop i ms)) (sym e)

pub lacking-at : (node : NodeId) (i : ℕ) (cs : List Cell) (c : Cell) → slice_get cs i ≡ Some c → lacking (drop i (cells_meant cs)) ≡ c.mandatory_follows
lacking-at node i cs c h = ap lacking (cells-at i cs c h)

pub lacking-end : (node : NodeId) (i : ℕ) (cs : List Cell) → length cs ≤ i → lacking (drop i (cells_meant cs)) ≡ false
lacking-end node i cs h = ap lacking (cells-end i cs h)

-- the search is as far as this position or further, and the tag is not that of the wrapper round the node, if it began there
pub record HasPassed (t : Tag) (node : NodeId) (from i : ℕ) : Type 0 where
  pub later : from ≤ i
  pub apart : from ≡ 0 → (i ≡ 0 → ⊥) → element_with t (node_starts node) ≡ None

pub passed-none : (t : Tag) (node : NodeId) (from : ℕ) → HasPassed t node from from
passed-none t node from = record { later = omega arith; apart = λ z n. absurd (n z) }

around : (k : Kind) (node : NodeId) (m : Meant) (ms : List Meant) → kind_meant k node ≡ m ∷ ms → m.starts ≡ node_starts node
around Kind.Seq node m ms e = let g : meant (node_starts node) slot.Inner (is_strict node) (is_strict node || is_some (first_mandatory (components profile_two node))) (node_choice node) None ≡ m = cc in ap (λ x. x.starts) (sym g)
around Kind.SeqOf node m ms e = let g : meant (node_starts node) slot.Inner true true (node_choice node) None ≡ m = cc in ap (λ x. x.starts) (sym g)
around Kind.Choice node m ms e = let g : meant (node_starts node) slot.Inner true true (node_choice node) None ≡ m = cc in ap (λ x. x.starts) (sym g)
around Kind.Any node m ms e = let g : meant (node_starts node) slot.Inner true true (node_choice node) None ≡ m = cc in ap (λ x. x.starts) (sym g)
around (Kind.Leaf l) node m ms e = let g : meant (node_starts node) slot.Inner true true (node_choice node) None ≡ m = cc in ap (λ x. x.starts) (sym g)
around Kind.IllString node m ms e = let g : meant (node_starts node) slot.Inner true true (node_choice node) None ≡ m = cc in ap (λ x. x.starts) (sym g)

-- the first cell has the starts of the node
around-cell : (node : NodeId) (cs : List Cell) (c : Cell) → cells_meant cs ≡ node_meant node → slice_get cs 0 ≡ Some c → cell_starts c ≡ node_starts node
around-cell node cs c e h = around (kind_of node) node _ _ (sym e ∙ cells-at 0 cs c h)

pub passed-next : (t : Tag) (node : NodeId) (from i : ℕ) (cs : List Cell) (c : Cell) → cells_meant cs ≡ node_meant node → slice_get cs i ≡ Some c
    → element_with t (cell_starts c) ≡ None → HasPassed t node from i → HasPassed t node from (i + 1)
passed-next t node from i cs c e h f p = record { later = let q = p.later in omega arith; apart = λ z n. go i h f (λ m. p.apart z m) }
  where
    go : (j : ℕ) → slice_get cs j ≡ Some c → element_with t (cell_starts c) ≡ None → ((j ≡ 0 → ⊥) → element_with t (node_starts node) ≡ None)
        → element_with t (node_starts node) ≡ None
    go zero h f rest = ap (element_with t) (sym (around-cell node cs c e h)) ∙ f
    go (suc j) h f rest = rest (λ z. cc)
