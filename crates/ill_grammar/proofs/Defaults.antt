-- Which leaves are their rows' defaults, by the default of what was found.
use Rattle.std.proofs.Common.{◌≡◌, ℕ, zero, suc, ℤ, ◌+◌, Bool, false, List, ◌∷◌, Option, Some, None, is_some, refl, sym, ap, subst, ◌∙◌, inl, inr, slice_get, drop, arith}
use Rattle.ber_tree.specs.Identifier.{Tag}
use Rattle.ber_leaf.specs.Leaf.{Leaf, boolean, integer, enumerated, value}
use Rattle.ber_leaf.specs.Profile.{profile_two}
use Rattle.ill_schema.specs.Content.{simple}
use Rattle.ill_schema.specs.Presence.{default_value, is_default, is_default_of, same_value}
use Rattle.ill_tables.specs.Table.{kind_of, rows_of}
use Rattle.ill_tables.specs.declared.node.Kind.{Kind}
use Rattle.ill_tables.specs.declared.node.LeafKind.{LeafKind}
use Rattle.ill_tables.specs.declared.node.NodeId.{NodeId}
use Rattle.ill_tables.specs.declared.part.PartId.{PartId}
use Rattle.ill_tables.specs.declared.part.Presence.{Presence}
use Rattle.ill_tables.specs.declared.part.Row.{Row}
use Rattle.ill_refusals.specs.Element.{leaf, components, component_starts}
use Rattle.ill_grammar.specs.Cells.{default_due, presence_default}
use Rattle.ill_grammar.specs.Places.{alternative_of, due_of, element_found, node_at, parent_node, part_in, place_after, row_of, slot_of}
use Rattle.ill_grammar.specs.declared.place.Found.{Found as CellFound}
use Rattle.ill_grammar.specs.declared.cell.EntryRole.{EntryRole}
use Rattle.ill_grammar.specs.declared.cell.EntryRole.TheVariants as cell
use Rattle.ill_grammar.proofs.AtRow.{row-of}
use Rattle.ill_grammar.specs.Elements.{component_at, element_with}
use Rattle.ill_grammar.specs.Due.{IsDueIn, IsRowDue, behind, next_place, shape_at, shape_of, slot_as, slot_in}
use Rattle.ill_grammar.specs.LeafTypes.{leaf_is}
use Rattle.ill_grammar.specs.Contents.{with_alternative}
use Rattle.ill_grammar.specs.Due.{due_with}
use Rattle.ill_grammar.specs.Written.{is_number, left_away}
use Rattle.ill_grammar.specs.declared.due.Next.{Next}
use Rattle.ill_grammar.specs.declared.due.Next.TheVariants.{Rows, Inner, Items, Either, Segments, BitSegments, Root, Foreigns, Nothing}
use Rattle.ill_grammar.specs.declared.due.Slot.TheVariants.{Row as AtRow, Item, Inner as Inside, Segment as InString, Foreign as InForeign}
use Rattle.ill_grammar.specs.declared.element.Element.TheVariants.{Leaf as LeafElement}
use Rattle.ill_grammar.specs.declared.leaf_type.LeafType.{LeafType}
use Rattle.ill_grammar.proofs.DueElements.{components-at}
use Rattle.ill_grammar.proofs.DueTags.{PlainLeaf, default_leaf}
use Rattle.ill_grammar.proofs.NormalLeaves.{choice_kept}

-- a leaf of the kind is a default exactly where it has the number's value
leaf_number : (k : Kind) (l : Leaf) (o : List ℕ) (d : ℤ) → PlainLeaf k (leaf l) → same_value (value l o) (default_value k d) ≡ is_number l d o
leaf_number (Kind.Leaf LeafKind.Boolean) l o d h = let q : boolean ≡ l = cc in subst (λ x. same_value (value x o) (default_value (Kind.Leaf LeafKind.Boolean) d) ≡ is_number x d o) q refl
leaf_number (Kind.Leaf LeafKind.Integer) l o d h = let q : integer ≡ l = cc in subst (λ x. same_value (value x o) (default_value (Kind.Leaf LeafKind.Integer) d) ≡ is_number x d o) q refl
leaf_number (Kind.Leaf LeafKind.Enumerated) l o d h = let q : enumerated ≡ l = cc in subst (λ x. same_value (value x o) (default_value (Kind.Leaf LeafKind.Enumerated) d) ≡ is_number x d o) q refl
leaf_number _ l o d h = absurd h

-- the leaf has this default
abbrev pub has_default : Option ℤ → Leaf → List ℕ → Bool
has_default default l o = elim default as (λ _. Bool) [ Some d ↦ is_number l d o | None ↦ false ]

-- what begins a row is its default exactly where it has the value of the row's default
pub row_default : (node : NodeId) (r : ℕ) (row : Row) (t : Tag) (l : Leaf) (o : List ℕ) → slice_get (rows_of node) r ≡ Some row
    → element_with t (component_starts (component_at (record { node = node; row = r }) row)) ≡ Some (leaf l) → is_default row (simple (value l o)) ≡ has_default (presence_default row.presence) l o
row_default node r row t l o is b = go row.presence refl
  where
    go : (pr : Presence) → row.presence ≡ pr → is_default_of pr (kind_of row.node) (simple (value l o)) ≡ has_default (presence_default pr) l o
    go (Presence.Default d) q = leaf_number (kind_of row.node) l o d (default_leaf node r row t d (leaf l) is q b)
    go _ q = refl

-- what is left at the row after is in the node of that row
round_of : (k : Kind) (p : PartId) (round node : NodeId) (position r : ℕ) → shape_of k p round (position + 1) ≡ Rows node (r + 1) → round ≡ node
round_of k p round node position r h = go k position (let z : position + 1 ≡ suc position = omega arith in subst (λ n. shape_of k p round n ≡ Rows node (r + 1)) z h)
  where
    go : (k : Kind) (position : ℕ) → shape_of k p round (suc position) ≡ Rows node (r + 1) → round ≡ node
    go Kind.Seq position h = cc
    go Kind.Choice position h = absurd cc
    go (Kind.Leaf LeafKind.BitString) zero h = absurd cc
    go (Kind.Leaf _) zero h = absurd cc
    go _ zero h = absurd cc
    go _ (suc n) h = absurd cc

-- the default of what was found at a row is the row's
found_default : (f : CellFound) (node : NodeId) (row : Row) → slot_of f ≡ cell.Row → parent_node f ≡ node → slice_get (rows_of node) (row_of f) ≡ Some row
    → default_due (due_of f) ≡ presence_default row.presence
found_default f node row s round is =
    let a = row-of (part_in f.at) (node_at f.at) f.at.position (slot_of f) (element_found f) f.placed f.there s in
    let there : drop (row_of f) (components profile_two node) ≡ a.component ∷ a.behind = subst (λ n. drop (row_of f) (components profile_two n) ≡ a.component ∷ a.behind) round a.is_row in
    let same : a.component ∷ a.behind ≡ component_at (record { node = node; row = row_of f }) row ∷ drop (row_of f + 1) (components profile_two node) = sym there ∙ components-at node (row_of f) row is in
    let component : a.component ≡ component_at (record { node = node; row = row_of f }) row = cc in
    ap default_due a.is_due ∙ ap (λ c. presence_default c.presence) component

-- a leaf that was found at a row is omitted exactly where it has the default of what was found
row_left : (f : CellFound) (t : Tag) (node : NodeId) (position : ℕ) (l : LeafType) (o : List ℕ) → slot_of f ≡ cell.Row → parent_node f ≡ node
    → (d : IsRowDue t node position (row_of f) None (due_with (AtRow (row_of f)) None (LeafElement l)).found)
    → elim (slice_get (rows_of node) (row_of f)) as (λ _. Bool) [ Some row ↦ is_default row (simple (value (leaf_is l) o)) | None ↦ false ] ≡ has_default (default_due (due_of f)) (leaf_is l) o
row_left f t node position l o s round d =
    ap (λ x. elim x as (λ _. Bool) [ Some row ↦ is_default row (simple (value (leaf_is l) o)) | None ↦ false ]) d.is_row
    ∙ row_default node (row_of f) d.row t (leaf_is l) o d.is_row d.begins
    ∙ ap (λ x. has_default x (leaf_is l) o) (sym (found_default f node d.row s round d.is_row))

-- a leaf that isn't of a choice is omitted exactly where it has the default of what was found in a row
default_left : (f : CellFound) (t : Tag) (n : Next) (l : LeafType) (o : List ℕ) → IsDueIn t n (due_with (slot_in f) None (LeafElement l)) → shape_at (next_place f) ≡ behind n (slot_in f)
    → left_away n (slot_in f) (simple (value (leaf_is l) o)) ≡ elim (slot_of f) as (λ _. Bool) [ cell.Row ↦ has_default (default_due (due_of f)) (leaf_is l) o | _ ↦ false ]
default_left f t n l o due after = go (slot_of f) refl n due after
  where
    go : (s : EntryRole) → slot_of f ≡ s → (n : Next) → IsDueIn t n (due_with (slot_as (row_of f) s) None (LeafElement l)) → shape_at (place_after f s) ≡ behind n (slot_as (row_of f) s)
        → left_away n (slot_as (row_of f) s) (simple (value (leaf_is l) o)) ≡ elim s as (λ _. Bool) [ cell.Row ↦ has_default (default_due (due_of f)) (leaf_is l) o | _ ↦ false ]
    go cell.Row e (Rows node k) due after = row_left f t node k l o e (round_of (kind_of (node_at f.at)) (part_in f.at) (node_at f.at) node f.at.position (row_of f) after) due
    go cell.Row e (Either w) (inr due) after = row_left f t w.node 0 l o e (round_of (kind_of (node_at f.at)) (part_in f.at) (node_at f.at) w.node f.at.position (row_of f) after) due.1
    go cell.Row e (Either w) (inl due) after = absurd (let q : AtRow (row_of f) ≡ Inside = due.1.slot in cc)
    go cell.Row e (Inner w) due after = absurd (let q : AtRow (row_of f) ≡ Inside = due.slot in cc)
    go cell.Row e (Items node) due after = absurd (let q : AtRow (row_of f) ≡ Item = due.slot in cc)
    go cell.Row e Segments due after = absurd (let q : AtRow (row_of f) ≡ InString = due.slot in cc)
    go cell.Row e BitSegments due after = absurd (let q : AtRow (row_of f) ≡ InString = due.slot in cc)
    go cell.Row e (Root w) due after = absurd (let q : AtRow (row_of f) ≡ Inside = due.1.slot in cc)
    go cell.Row e (Foreigns zero) due after = absurd due
    go cell.Row e (Foreigns (suc n)) due after = absurd (let q : AtRow (row_of f) ≡ InForeign = due.slot in cc)
    go cell.Row e Nothing due after = absurd due
    go _ e (Rows node k) due after = refl
    go _ e (Either w) due after = refl
    go _ e _ due after = refl

-- what was found has this default, is of no choice, is in a row, and has the default's value
abbrev pub is_left : Option ℤ → Option ℕ → EntryRole → Leaf → List ℕ → Bool
is_left default alternative slot l o = elim default as (λ _. Bool) [
  | None ↦ false
  | Some d ↦ elim alternative as (λ _. Bool) [ Some n ↦ false | None ↦ elim slot as (λ _. Bool) [ cell.Row ↦ is_number l d o | _ ↦ false ] ]
]

none_left : (default : Option ℤ) (n : ℕ) (slot : EntryRole) (l : Leaf) (o : List ℕ) → is_left default (Some n) slot l o ≡ false
none_left None n slot l o = refl
none_left (Some d) n slot l o = refl

row_is_left : (default : Option ℤ) (slot : EntryRole) (l : Leaf) (o : List ℕ) → elim slot as (λ _. Bool) [ cell.Row ↦ has_default default l o | _ ↦ false ] ≡ is_left default None slot l o
row_is_left None cell.Row l o = refl
row_is_left (Some d) cell.Row l o = refl
row_is_left None _ l o = refl
row_is_left (Some d) _ l o = refl

pub left_row : (default : Option ℤ) (alternative : Option ℕ) (slot : EntryRole) (l : Leaf) (o : List ℕ) (d : ℤ) → default ≡ Some d → is_some alternative ≡ false → slot ≡ cell.Row
    → is_left default alternative slot l o ≡ is_number l d o
left_row default alternative slot l o d e n r = ap (λ x. is_left x alternative slot l o) e ∙ go alternative n ∙ ap (λ s. elim s as (λ _. Bool) [ cell.Row ↦ is_number l d o | _ ↦ false ]) r
  where
    go : (alternative : Option ℕ) → is_some alternative ≡ false → is_left (Some d) alternative slot l o ≡ elim slot as (λ _. Bool) [ cell.Row ↦ is_number l d o | _ ↦ false ]
    go None n = refl
    go (Some k) n = absurd cc

-- a leaf is omitted exactly where it has the default of what was found
pub found_left : (f : CellFound) (t : Tag) (n : Next) (l : LeafType) (o : List ℕ) → IsDueIn t n (due_with (slot_in f) (alternative_of f) (LeafElement l)) → shape_at (next_place f) ≡ behind n (slot_in f)
    → left_away n (slot_in f) (with_alternative (alternative_of f) (simple (value (leaf_is l) o))) ≡ is_left (default_due (due_of f)) (alternative_of f) (slot_of f) (leaf_is l) o
found_left f t n l o due after = go (alternative_of f) due
  where
    go : (alternative : Option ℕ) → IsDueIn t n (due_with (slot_in f) alternative (LeafElement l))
        → left_away n (slot_in f) (with_alternative alternative (simple (value (leaf_is l) o))) ≡ is_left (default_due (due_of f)) alternative (slot_of f) (leaf_is l) o
    go None due = default_left f t n l o due after ∙ row_is_left (default_due (due_of f)) (slot_of f) (leaf_is l) o
    go (Some k) due = choice_kept (simple (value (leaf_is l) o)) n (slot_in f) k ∙ sym (none_left (default_due (due_of f)) k (slot_of f) (leaf_is l) o)
