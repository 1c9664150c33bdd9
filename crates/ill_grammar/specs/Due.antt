-- What is due, in the words of the code.
use Rattle.std.specs.Prelude.{◌≡◌, ◌⊎◌, ℕ, zero, suc, ◌+◌, ◌-◌, ◌<◌, ◌≤◌, Bool, true, false, [], ◌∷◌, drop, Option, Some, None, slice_get}
use Rattle.ber_tree.specs.Identifier.{Tag}
use Rattle.ber_core.specs.Foreign.{foreign_levels}
use Rattle.ber_tree.specs.Tree.{octet_string}
use Rattle.ber_leaf.specs.Leaf.{bit_string}
use Rattle.ber_leaf.specs.Segments.{segment_tag}
use Rattle.ber_leaf.specs.Profile.{profile_two}
use Rattle.ill_tables.specs.declared.node.Kind.{Kind}
use Rattle.ill_tables.specs.declared.node.LeafKind.{LeafKind}
use Rattle.ill_tables.specs.declared.node.NodeId.{NodeId}
use Rattle.ill_tables.specs.declared.part.PartId.{PartId}
use Rattle.ill_tables.specs.declared.part.Row.{Row}
use Rattle.ill_tables.specs.Table.{kind_of, rows_of}
use Rattle.ill_schema.specs.Tagging.{same_tag, sequence_tag}
use Rattle.ill_refusals.specs.Element.{Component, foreign, list, segment, components, starts}
use Rattle.ill_refusals.specs.Next as next
use Rattle.ill_grammar.specs.Cells.{is_strict, levels_in}
use Rattle.ill_grammar.specs.Places.{PlaceView, place_view, part_of, node_of, type_of, alternative_of, slot_of, row_of, place_after}
use Rattle.ill_grammar.specs.declared.place.Place.{Place}
use Rattle.ill_grammar.specs.declared.place.Found.{Found as CellFound}
use Rattle.ill_grammar.specs.declared.cell.EntryRole.{EntryRole}
use Rattle.ill_grammar.specs.declared.cell.ElementType.{ElementType}
use Rattle.ill_grammar.specs.declared.cell.ElementType.TheVariants as element_type
use Rattle.ill_grammar.specs.declared.cell.EntryRole.TheVariants as cell
use Rattle.ill_grammar.specs.Cells.{Begins}
use Rattle.ill_grammar.specs.Elements.{component_of, component_at, element_with, found_is}
use Rattle.ill_tables.specs.declared.part.Presence.{Presence}
use Rattle.ill_grammar.specs.declared.due.Slot.TheVariants.{Row as AtRow, Item, Inner as Inside, Segment, Foreign as InForeign}
use Rattle.ill_grammar.specs.declared.due.Next.{Next}
use Rattle.ill_grammar.specs.declared.due.Next.TheVariants.{Rows, Inner, Items, Either, Segments, BitSegments, Root, Foreigns, Nothing}
use Rattle.ill_grammar.specs.declared.due.Slot.{Slot}
use Rattle.ill_grammar.specs.declared.element.Element.{Element as CodeElement}
use Rattle.ill_grammar.specs.declared.element.Element.TheVariants.{Leaf, Sequence, List as ListOf, Wrapper, LooseWrapper, Segment as InString, ModuleLeaf, BitString, BitSegment as InBits, Foreign}
use Rattle.ill_grammar.specs.Begun.{Begun}
use Rattle.ill_grammar.specs.Begun as begun
use Rattle.ill_grammar.specs.declared.element.Wrapped.{Wrapped}

-- what may come next in an explicit tag round a sequence
abbrev pub shape_around : Bool → Wrapped → Next
shape_around true w = Inner w
shape_around false w = Either w

-- what may come next in a leaf that is a string
abbrev pub shape_in : LeafKind → Next
shape_in LeafKind.BitString = BitSegments
shape_in _ = Segments

-- what may come next at a position of a node: at 0 in the wrapper of a part round it, from 1 on in the node itself
abbrev pub shape_of : Kind → PartId → NodeId → ℕ → Next
shape_of Kind.Seq p node zero = shape_around (is_strict node) (record { part = p; node = node })
shape_of Kind.Seq p node (suc row) = Rows node row
shape_of Kind.Any p node zero = Root (record { part = p; node = node })
shape_of _ p node zero = Inner (record { part = p; node = node })
shape_of Kind.SeqOf p node (suc zero) = Items node
shape_of Kind.Any p node (suc zero) = Foreigns (levels_in p)
shape_of (Kind.Leaf l) p node (suc zero) = shape_in l
shape_of Kind.IllString p node (suc zero) = Segments
shape_of _ p node (suc _) = Nothing

abbrev pub shape_at : PlaceView → Next
shape_at w = shape_of (kind_of w.node) w.part w.node w.position

abbrev pub shape : Place → Next
shape at = shape_at (place_view at)

-- what may come in an element when it opens
abbrev pub first_of : CodeElement → Next
first_of (Leaf l) = Segments
first_of (ModuleLeaf l) = Segments
first_of (Sequence node) = Rows node 0
first_of (ListOf node) = Items node
first_of (Wrapper w) = elim (kind_of w.node) as (λ _. Next) [ Kind.Any ↦ Root w | _ ↦ Inner w ]
first_of (LooseWrapper w) = Either w
first_of InString = Segments
first_of BitString = BitSegments
first_of InBits = BitSegments
first_of (Foreign n) = Foreigns n

-- what is found, if it is an element, begins at this place inside
abbrev pub BeginsAt : Begun → PlaceView → Type 0
BeginsAt (begun.Element e) first = shape_at first ≡ first_of e
BeginsAt (begun.LeftOut part) first = Unit {0}

-- as what an element of a part with this node is read; one that is left out never is
abbrev pub element_as : PartId → NodeId → ElementType → CodeElement
element_as p node (element_type.Leaf l) = Leaf l
element_as p node (element_type.ModuleLeaf l) = ModuleLeaf l
element_as p node element_type.BitString = BitString
element_as p node element_type.Sequence = Sequence node
element_as p node element_type.List = ListOf node
element_as p node element_type.Wrapper = Wrapper (record { part = p; node = node })
element_as p node element_type.LooseWrapper = LooseWrapper (record { part = p; node = node })
element_as p node element_type.Segment = InString
element_as p node element_type.BitSegment = InBits
element_as p node element_type.Foreign = Foreign (levels_in p)
element_as p node element_type.LeftOut = ListOf node

-- what a part with this node is
abbrev pub found_as : PartId → NodeId → ElementType → Begun
found_as p node element_type.LeftOut = begun.LeftOut p
found_as p node w = begun.Element (element_as p node w)

-- where what is found is
abbrev pub slot_as : ℕ → EntryRole → Slot
slot_as row cell.Row = AtRow row
slot_as row cell.Inner = Inside
slot_as row cell.Item = Item
slot_as row cell.Segment = Segment
slot_as row cell.Root = Inside
slot_as row cell.Foreign = InForeign

-- the same of what the cells find, with the place after it
abbrev pub read_as : CellFound → CodeElement
read_as f = element_as (part_of f) (node_of f) (type_of f)

abbrev pub found_in : CellFound → Begun
found_in f = found_as (part_of f) (node_of f) (type_of f)

abbrev pub slot_in : CellFound → Slot
slot_in f = slot_as (row_of f) (slot_of f)

abbrev pub next_place : CellFound → PlaceView
next_place f = place_after f (slot_of f)

-- what a tag begins, where that is, and the alternative of a choice without a tag that it is
pub record DueEntry : Type 0 where
  pub slot : Slot
  pub alternative : Option ℕ
  pub found : Begun

abbrev pub due_as : CellFound → DueEntry
due_as f = record { slot = slot_in f; alternative = alternative_of f; found = found_in f }

-- that of an element that is not left out
abbrev pub read_due : CellFound → DueEntry
read_due f = record { slot = slot_in f; alternative = alternative_of f; found = begun.Element (read_as f) }

abbrev pub next_is : Next → next.Next
next_is (Rows node n) = next.rows (drop n (components profile_two node))
next_is (Inner w) = next.rows (component_of w ∷ [])
next_is (Items node) = next.opening profile_two (list node)
next_is (Either w) = next.either (component_of w)
next_is Segments = next.segments octet_string
next_is BitSegments = next.segments (segment_tag bit_string)
next_is (Root w) = next.anything (component_of w)
next_is (Foreigns n) = next.foreigns n
next_is Nothing = next.rows []

pub record IsBegun (t : Tag) (c : Component) (alternative : Option ℕ) (found : Begun) : Type 0 where
  pub is : element_with t (starts profile_two c) ≡ Some (found_is found)
  pub begins : Begins t c alternative (found_is found)

-- none of these rows has to be there
abbrev pub MayAllLack : NodeId → ℕ → ℕ → Type 0
MayAllLack node from until = (k : ℕ) (row : Row) → from ≤ k → k < until → slice_get (rows_of node) k ≡ Some row → row.presence ≡ Presence.Must → ⊥

-- the row r from a position on is due with the tag
pub record IsRowDue (t : Tag) (node : NodeId) (position r : ℕ) (alternative : Option ℕ) (found : Begun) : Type 0 where
  pub row : Row
  pub is_row : slice_get (rows_of node) r ≡ Some row
  pub behind : position ≤ r
  pub lacking : MayAllLack node position r
  pub is : next.due_in profile_two t (drop position (components profile_two node))
      ≡ Some (next.part (component_at (record { node = node; row = r }) row) (found_is found) (next.rows (drop (r + 1) (components profile_two node))))
  pub begins : Begins t (component_at (record { node = node; row = r }) row) alternative (found_is found)

-- what is due in rows
abbrev pub IsDueInRows : Tag → NodeId → ℕ → DueEntry → Type 0
IsDueInRows t node position d = elim d.slot as (λ _. Type 0) [ AtRow r ↦ IsRowDue t node position r d.alternative d.found | _ ↦ ⊥ ]

-- what comes after an element at a slot
abbrev pub behind : Next → Slot → Next
behind (Rows node n) (AtRow r) = Rows node (r + 1)
behind (Either w) (AtRow r) = Rows w.node (r + 1)
behind (Items node) _ = Items node
behind Segments _ = Segments
behind BitSegments _ = BitSegments
behind (Foreigns n) _ = Foreigns n
behind _ _ = Nothing

-- the first item of a list
pub record IsItemDue (t : Tag) (node : NodeId) (d : DueEntry) : Type 0 where
  pub slot : d.slot ≡ Item
  pub row : Row
  pub is_row : slice_get (rows_of node) 0 ≡ Some row
  pub begun : IsBegun t (component_at (record { node = node; row = 0 }) row) d.alternative d.found

-- the part of a wrapper
pub record IsInnerDue (t : Tag) (w : Wrapped) (d : DueEntry) : Type 0 where
  pub slot : d.slot ≡ Inside
  pub begun : IsBegun t (component_of w) d.alternative d.found

-- a segment of a string whose segments have this tag
pub record IsSegmentDue (u t : Tag) (d : DueEntry) : Type 0 where
  pub slot : d.slot ≡ Segment
  pub tag : same_tag t u ≡ true
  pub found : found_is d.found ≡ segment u

-- an element of a foreign tree, in which so many levels may stand
pub record IsForeignDue (n : ℕ) (there : Slot) (d : DueEntry) : Type 0 where
  pub slot : d.slot ≡ there
  pub alternative : d.alternative ≡ None
  pub found : found_is d.found ≡ foreign n

-- what is due there with the tag
abbrev pub IsDueIn : Tag → Next → DueEntry → Type 0
IsDueIn t (Rows node n) d = IsDueInRows t node n d
IsDueIn t (Inner w) d = IsInnerDue t w d
IsDueIn t (Items node) d = IsItemDue t node d
IsDueIn t (Either w) d = ((same_tag t sequence_tag ≡ true) × IsInnerDue t w d) ⊎ ((same_tag t sequence_tag ≡ false) × IsDueInRows t w.node 0 d)
IsDueIn t Segments d = IsSegmentDue octet_string t d
IsDueIn t BitSegments d = IsSegmentDue (segment_tag bit_string) t d
IsDueIn t (Root w) d = (kind_of w.node ≡ Kind.Any) × IsForeignDue (foreign_levels - 1) Inside d
IsDueIn t (Foreigns zero) d = ⊥
IsDueIn t (Foreigns (suc n)) d = IsForeignDue n InForeign d
IsDueIn t Nothing d = ⊥

-- what the cells find is due there, and is left at the place after it
pub record IsComing (t : Tag) (at : Place) (f : CellFound) : Type 0 where
  pub is_due : IsDueIn t (shape at) (due_as f)
  pub after : shape_at (next_place f) ≡ behind (shape at) (slot_in f)

-- what is due, where it is an element
abbrev pub due_with : Slot → Option ℕ → CodeElement → DueEntry
due_with slot alternative element = record { slot = slot; alternative = alternative; found = begun.Element element }
