-- What an index and an element that is found stand for.
use Rattle.std.specs.Prelude.{◌≡◌, ◌≤◌, ℕ, ◌+◌, Bool, ◌&&◌, List, ◌∷◌, drop, IsTrue, Option, Some, None}
use Rattle.ber_tree.specs.Identifier.{Tag}
use Rattle.ber_leaf.specs.Profile.{Profile, profile_two}
use Rattle.ill_tables.specs.declared.node.Kind.{Kind}
use Rattle.ill_tables.specs.declared.node.NodeId.{NodeId}
use Rattle.ill_tables.specs.declared.node.NodeId.TheVariants.{Boolean, IllApdu}
use Rattle.ill_tables.specs.declared.part.PartId.{PartId}
use Rattle.ill_schema.specs.Apdu.{root}
use Rattle.ill_tables.specs.Table.{kind_of}
use Rattle.ill_schema.specs.TableFacts.{is_of_two}
use Rattle.ill_refusals.specs.Element.{Component, components, Element, starts}
use Rattle.ill_refusals.specs.Next.{Next, rows, Due, part, due, element_of}
use Rattle.ill_grammar.specs.Elements.{element_with}
use Rattle.ill_grammar.specs.Cells.{cell_alternative, is_two_cell, next_from, element_in, due_at, first_position, is_placed, row_before, wrapped, BeginsDue}
use Rattle.ill_grammar.specs.declared.cell.EntryRole.{EntryRole}
use Rattle.ill_grammar.specs.declared.cell.ElementType.{ElementType}
use Rattle.ill_grammar.specs.declared.cell.EntryRole.TheVariants as slot
use Rattle.ill_grammar.specs.declared.place.Place.{Place}
use Rattle.ill_grammar.specs.declared.place.Found.{Found}

-- the part of a wrapper, the node that is open or in the wrapper, and a position there
pub record PlaceView : Type 0 where
  pub part : PartId
  pub node : NodeId
  pub position : ℕ

abbrev pub part_in : Place → PartId
part_in at = at.parent.now.part

abbrev pub node_at : Place → NodeId
node_at at = at.parent.now.node

abbrev pub position_in : Place → ℕ
position_in at = at.position

abbrev pub place_view : Place → PlaceView
place_view at = record { part = part_in at; node = node_at at; position = at.position }

-- what may come next there
abbrev pub next_at : Place → Next
next_at at = next_from (part_in at) (node_at at) at.position

-- the part, the node and the alternative of an element that is found, and where it is
abbrev pub part_of : Found → PartId
part_of f = f.tagged.now.part

abbrev pub node_of : Found → NodeId
node_of f = f.tagged.now.node

abbrev pub type_of : Found → ElementType
type_of f = f.tagged.now.element_type

abbrev pub alternative_of : Found → Option ℕ
alternative_of f = cell_alternative f.cell.now f.tagged.now

abbrev pub slot_of : Found → EntryRole
slot_of f = f.cell.now.slot

-- the node round it
abbrev pub parent_node : Found → NodeId
parent_node f = node_at f.at

abbrev pub element_found : Found → Element
element_found f = element_in (part_of f) (node_of f) (type_of f)

abbrev pub due_of : Found → Due
due_of f = due_at (part_in f.at) (node_at f.at) f.at.position (slot_of f) (element_found f)

-- the first place where the element that is found may begin inside
abbrev pub first_place : Found → PlaceView
first_place f = record { part = part_of f; node = node_of f; position = first_position (type_of f) }

-- where a message begins
abbrev pub top : PlaceView
top = record { part = record { node = IllApdu; row = 0 }; node = IllApdu; position = 0 }

-- where a message of a profile begins
abbrev pub top_in : Profile → PlaceView
top_in p = record { part = record { node = root p; row = 0 }; node = root p; position = 0 }

-- where nothing may come
abbrev pub nowhere : PlaceView
nowhere = record { part = record { node = Boolean; row = 0 }; node = Boolean; position = 2 }

-- the place after the element
abbrev pub place_after : Found → EntryRole → PlaceView
place_after f slot.Row = record { part = part_in f.at; node = node_at f.at; position = f.at.position + 1 }
place_after f slot.Inner = nowhere
place_after f slot.Item = place_view f.at
place_after f slot.Segment = place_view f.at
place_after f slot.Root = nowhere
place_after f slot.Foreign = place_view f.at

-- the row at which it is due
abbrev pub row_of : Found → ℕ
row_of f = row_before f.at.position

-- the component of this row of the node is due
pub record IsAtRow (node : NodeId) (row : ℕ) (d : Due) : Type 0 where
  pub component : Component
  pub behind : List Component
  pub is_row : drop row (components profile_two node) ≡ component ∷ behind
  pub is_due : d ≡ part component (element_of d) (rows behind)

-- what is found is of profile 2, and so is the node round it
abbrev pub is_two : Found → Bool
is_two f = is_of_two (node_at f.at) && is_two_cell f.tagged.now

-- what is due there with the tag
pub record IsDueWithTag (t : Tag) (at : Place) (f : Found) : Type 0 where
  pub is : due profile_two t (next_at at) ≡ Some (due_of f)
  pub begins : BeginsDue t (due_of f) (alternative_of f)
  pub parent : parent_node f ≡ node_at at
  -- at this position or a later one
  pub later : at.position ≤ f.at.position
  -- in a wrapper, the part itself comes first
  pub passed : at.position ≡ 0 → (f.at.position ≡ 0 → ⊥) → element_with t (starts profile_two (wrapped (part_in at) (node_at at))) ≡ None
  pub placed : IsTrue (is_placed (kind_of (parent_node f)) f.at.position (slot_of f))
  pub row : slot_of f ≡ slot.Row → IsAtRow (parent_node f) (row_of f) (due_of f)
  -- in an open type no position is passed
  pub stays : kind_of (node_at at) ≡ Kind.Any → place_view f.at ≡ place_view at
