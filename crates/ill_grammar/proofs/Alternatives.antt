-- The cells of alternatives, one by one.
use Rattle.std.proofs.Common.{◌≡◌, ℕ, zero, suc, ◌+◌, ◌≤◌, Bool, true, false, IsTrue, List, [], ◌∷◌, ◌++◌, drop, length, map, Option, Some, None, option_map, refl, sym, ap, subst, ◌∙◌, arith, slice_get}
use Rattle.std.specs.Prelude.{flat_map, nat_eq, if◌then◌else◌}
use Rattle.std.proofs.lemmas.Bool.Decides.{nat_tests}
use Rattle.std.proofs.lemmas.Bool.{and_parts}
use Rattle.ber_tree.specs.Identifier.{Tag}
use Rattle.ber_leaf.specs.Profile.{profile_two}
use Rattle.ill_tables.specs.declared.node.Kind.{Kind}
use Rattle.ill_tables.specs.declared.node.NodeId.{NodeId}
use Rattle.ill_tables.specs.Table.{kind_of}
use Rattle.ill_schema.specs.Tagging.{same_tag}
use Rattle.ill_refusals.specs.Element.{Component, component_starts, components, own_starts, Start}
use Rattle.ill_grammar.specs.Elements.{element_with}
use Rattle.ill_grammar.specs.Cells.{node_choice}
use Rattle.ill_grammar.specs.code.Meant.{all_open, alone, cell_start, is_nested, nested_starts, node_starts, opens_in, starts_of_cells}
use Rattle.ill_grammar.specs.code.Starts.{BeginsIn}
use Rattle.ill_grammar.specs.declared.cell.Cell.{Cell}

-- the starts of cells
abbrev pub starts_from : List Cell → List Start
starts_from cs = map cell_start cs

abbrev joined : List (List Start) → List Start
joined [] = []
joined (ss ∷ sss) = ss ++ joined sss

joined-cells : (cs : List Cell) → joined (starts_of_cells cs) ≡ starts_from cs
joined-cells [] = refl
joined-cells (c ∷ cs) = ap (λ ss. cell_start c ∷ ss) (joined-cells cs)

joined-map : (cs : List Component) → joined (map component_starts cs) ≡ flat_map component_starts cs
joined-map [] = refl
joined-map (c ∷ cs) = ap (λ ss. component_starts c ++ ss) (joined-map cs)

joined-alone : (ss : List Start) → joined (alone ss) ≡ ss
joined-alone [] = refl
joined-alone (s ∷ ss) = ap (λ xs. s ∷ xs) (joined-alone ss)

-- what a node of a kind begins by
abbrev begun_by : Kind → NodeId → List Start
begun_by k node = own_starts k node ++ elim k as (λ _. List Start) [ Kind.Choice ↦ flat_map component_starts (components profile_two node) | _ ↦ [] ]

joined-nested : (k : Kind) (node : NodeId) → kind_of node ≡ k → is_nested k ≡ true → joined (nested_starts k node) ≡ begun_by k node
joined-nested Kind.Choice node e h = joined-map (components profile_two node)
joined-nested Kind.IllString node e h = joined-alone (node_starts node) ∙ ap (λ k. begun_by k node) e
joined-nested Kind.Any node e h = refl
joined-nested Kind.Seq node e h = absurd cc
joined-nested Kind.SeqOf node e h = absurd cc
joined-nested (Kind.Leaf l) node e h = absurd cc

-- a node with alternatives begins by their cells
pub starts-nested : (node : NodeId) (cs : List Cell) → is_nested (kind_of node) ≡ true → starts_of_cells cs ≡ nested_starts (kind_of node) node
    → node_starts node ≡ starts_from cs
starts-nested node cs h e = sym (joined-nested (kind_of node) node refl h) ∙ ap joined (sym e) ∙ joined-cells cs

pub drop-at : {A : Type 0} (xs : List A) (i : ℕ) (x : A) → slice_get xs i ≡ Some x → drop i xs ≡ x ∷ drop (suc i) xs
drop-at [] zero x e = absurd cc
drop-at [] (suc i) x e = absurd cc
drop-at (y ∷ ys) zero x e = let g : y ≡ x = cc in ap (λ z. z ∷ ys) g
drop-at (y ∷ ys) (suc i) x e = drop-at ys i x e

pub drop-past : {A : Type 0} (xs : List A) (i : ℕ) → length xs ≤ i → drop i xs ≡ []
drop-past [] zero h = refl
drop-past [] (suc i) h = refl
drop-past (y ∷ ys) zero h = absurd (omega arith)
drop-past (y ∷ ys) (suc i) h = drop-past ys i (omega arith)

either_start : (b : Bool) (s : Start) (o : Option Start) → b ≡ true → option_map (λ (x : Start). x.element) (if b then Some s else o) ≡ Some s.element
either_start true s o h = refl
either_start false s o h = absurd cc

other_start : (b : Bool) (s : Start) (o : Option Start) → b ≡ false → option_map (λ (x : Start). x.element) (if b then Some s else o) ≡ option_map (λ (x : Start). x.element) o
other_start true s o h = absurd cc
other_start false s o h = refl

pub element_with-found : (t : Tag) (s : Start) (ss : List Start) → same_tag s.tag t ≡ true → element_with t (s ∷ ss) ≡ Some s.element
element_with-found t s ss h = either_start (same_tag s.tag t) s _ h

pub element_with-other : (t : Tag) (s : Start) (ss : List Start) → same_tag s.tag t ≡ false → element_with t (s ∷ ss) ≡ element_with t ss
element_with-other t s ss h = other_start (same_tag s.tag t) s _ h

-- the component whose start a cell is
alternative-at : (i : ℕ) (cs : List Cell) (ks : List Component) (c : Cell) → starts_of_cells cs ≡ map component_starts ks → slice_get cs i ≡ Some c
    → (k : Component) × (slice_get ks i ≡ Some k) × (component_starts k ≡ cell_start c ∷ [])
alternative-at zero [] ks c e h = absurd cc
alternative-at (suc i) [] ks c e h = absurd cc
alternative-at i (d ∷ cs) [] c e h = absurd cc
alternative-at zero (d ∷ cs) (k ∷ ks) c e h =
    let g : d ≡ c = cc in
    let f : component_starts k ≡ cell_start d ∷ [] = cc in
    (k, refl, f ∙ ap (λ (x : Cell). cell_start x ∷ []) g)
alternative-at (suc i) (d ∷ cs) (k ∷ ks) c e h =
    let f : starts_of_cells cs ≡ map component_starts ks = cc in
    alternative-at i cs ks c f h

alternative-of : (k : Kind) (t : Tag) (node : NodeId) (i : ℕ) (cs : List Cell) (c : Cell) → kind_of node ≡ k → is_nested k ≡ true → starts_of_cells cs ≡ nested_starts k node → slice_get cs i ≡ Some c
    → same_tag (cell_start c).tag t ≡ true
    → BeginsIn t (elim k as (λ _. Option NodeId) [ Kind.Choice ↦ Some node | _ ↦ None ])
    (option_map (λ _. i) (elim k as (λ _. Option NodeId) [ Kind.Choice ↦ Some node | _ ↦ None ])) (cell_start c).element
alternative-of Kind.Choice t node i cs c k n e h s =
    let r = alternative-at i cs (components profile_two node) c e h in
    (r.0, r.1, ap (element_with t) r.2 ∙ element_with-found t (cell_start c) [] s)
alternative-of Kind.IllString t node i cs c k n e h s = tt
alternative-of Kind.Any t node i cs c k n e h s = tt
alternative-of Kind.Seq t node i cs c k n e h s = absurd cc
alternative-of Kind.SeqOf t node i cs c k n e h s = absurd cc
alternative-of (Kind.Leaf l) t node i cs c k n e h s = absurd cc

-- the alternative that a cell with the tag is
pub begins-nested : (t : Tag) (node : NodeId) (i : ℕ) (cs : List Cell) (c : Cell) → is_nested (kind_of node) ≡ true → starts_of_cells cs ≡ nested_starts (kind_of node) node → slice_get cs i ≡ Some c
    → same_tag (cell_start c).tag t ≡ true → BeginsIn t (node_choice node) (option_map (λ _. i) (node_choice node)) (cell_start c).element
begins-nested t node i cs c n e h s = alternative-of (kind_of node) t node i cs c refl n e h s

-- a cell opens in its node, and is its own row
pub open-at : (row i : ℕ) (cs : List Cell) (c : Cell) → all_open row cs ≡ true → slice_get cs i ≡ Some c → IsTrue (opens_in c.element_type c.node) × (row + i ≡ c.part.row)
open-at row zero [] c o h = absurd cc
open-at row (suc i) [] c o h = absurd cc
open-at row zero (d ∷ cs) c o h =
    let g : d ≡ c = cc in
    let both = and_parts (opens_in d.element_type d.node) _ o in
    let z : row + zero ≡ row = omega arith in
    subst (λ (x : Cell). IsTrue (opens_in x.element_type x.node) × (row + zero ≡ x.part.row)) g (both.0, z ∙ same (and_parts (nat_eq row d.part.row) _ both.1).0)
  where
    same : {m n : ℕ} → nat_eq m n ≡ true → m ≡ n
    same e = grind (arith, nat_tests)
open-at row (suc i) (d ∷ cs) c o h =
    let z : row + suc i ≡ suc row + i = omega arith in
    let rest = open-at (suc row) i cs c (and_parts (nat_eq row d.part.row) _ (and_parts (opens_in d.element_type d.node) _ o).1).1 h in
    (rest.0, z ∙ rest.1)
