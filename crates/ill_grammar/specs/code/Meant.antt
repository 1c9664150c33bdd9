-- What the cells of a node are to say.
use Rattle.std.specs.Prelude.{ℕ, ℤ, zero, pos, drop, option_map, suc, Bool, true, false, ◌&&◌, ◌||◌, not, List, [], ◌∷◌, Option, None, is_some, map, nat_eq, if◌then◌else◌}
use Rattle.ber_tree.specs.Identifier.{Tag}
use Rattle.ber_tree.specs.declared.class.Class.{Class}
use Rattle.ber_tree.specs.Tree.{octet_string}
use Rattle.ber_leaf.specs.Profile.{profile_two}
use Rattle.ill_tables.specs.declared.node.Kind.{Kind}
use Rattle.ill_tables.specs.declared.node.NodeId.{NodeId}
use Rattle.ill_tables.specs.declared.node.NodeId.TheVariants.{Any}
use Rattle.ill_tables.specs.declared.part.Presence.{Presence}
use Rattle.ill_tables.specs.Table.{kind_of}
use Rattle.ill_schema.specs.Tagging.{untagged}
use Rattle.ill_refusals.specs.Element.{Component, components, component_starts, segment, Start, start, starts}
use Rattle.ill_refusals.specs.Next.{first_mandatory}
use Rattle.ill_grammar.specs.Cells.{wrapped, element_in, is_any, has_bit_segments, is_leaf, is_list, is_sequence, is_strict, node_choice, presence_default, row_before, segments_in}
use Rattle.ill_grammar.specs.declared.cell.Cell.{Cell}
use Rattle.ill_grammar.specs.declared.cell.ElementType.{ElementType}
use Rattle.ill_grammar.specs.declared.cell.ElementType.TheVariants as element_type
use Rattle.ill_grammar.specs.declared.cell.EntryRole.{EntryRole}
use Rattle.ill_grammar.specs.declared.cell.EntryRole.TheVariants as slot

-- the starts of a node in a wrapper: by its own tags, or by its alternatives'
abbrev pub node_starts : NodeId → List Start
node_starts node = starts profile_two (wrapped (record { node = node; row = 0 }) node)

-- what an element that a cell names is
abbrev pub cell_start : Cell → Start
cell_start c = start (record { class = c.class; number = c.number }) (element_in c.part c.node c.element_type)

abbrev pub cell_starts : Cell → List Start
cell_starts c = if c.nested then node_starts c.node else cell_start c ∷ []

abbrev pub is_empty_sequence : Kind → List Component → Bool
is_empty_sequence Kind.Seq [] = true
is_empty_sequence _ _ = false

-- an explicit tag that may not be bare is round a node of this kind
abbrev pub is_wrapped : Bool → Kind → Bool
is_wrapped strict Kind.Seq = strict
is_wrapped strict _ = true

-- the element opens where a node of this kind is open
abbrev pub opens : ElementType → Bool → Kind → List Component → Bool
opens element_type.Sequence strict k cs = is_sequence k
opens element_type.List strict k cs = is_list k
opens element_type.Wrapper strict k cs = is_wrapped strict k
opens element_type.LooseWrapper strict k cs = is_sequence k && not strict
opens element_type.LeftOut strict k cs = is_empty_sequence k cs
opens element_type.Foreign strict k cs = is_any k
opens element_type.BitString strict k cs = has_bit_segments k
opens element_type.BitSegment strict k cs = has_bit_segments k
opens _ strict k cs = is_leaf k && not (has_bit_segments k)

-- a node of this kind begins by the tags of alternatives, by two of its own, or by none
abbrev pub is_nested : Kind → Bool
is_nested Kind.Choice = true
is_nested Kind.Any = true
is_nested Kind.IllString = true
is_nested _ = false

abbrev pub has_components : List Component → Bool
has_components [] = false
has_components (c ∷ cs) = true

-- the component at a position is there
abbrev pub row_there : EntryRole → ℕ → List Component → Bool
row_there slot.Row position cs = has_components (drop (row_before position) cs)
row_there slot.Item position cs = has_components cs
row_there _ position cs = true

abbrev pub default_first : List Component → Option ℤ
default_first [] = None
default_first (c ∷ cs) = presence_default c.presence

-- the default of the component at a position
abbrev pub default_at : NodeId → ℕ → EntryRole → Option ℤ
default_at node position slot.Row = default_first (drop (row_before position) (components profile_two node))
default_at node position slot.Item = default_first (components profile_two node)
default_at node position _ = None

-- the element opens where the node is open
abbrev pub opens_in : ElementType → NodeId → Bool
opens_in w node = opens w (is_strict node) (kind_of node) (components profile_two node)

abbrev pub cell_opens : Cell → Bool
cell_opens c = if c.nested then is_nested (kind_of c.node) else opens_in c.element_type c.node

abbrev pub cell_choice : Cell → Option NodeId
cell_choice c = if c.nested then node_choice c.node else None

-- the choice without a tag that a component is
abbrev pub component_choice : Component → Option NodeId
component_choice c = elim c.tagging as (λ _. Option NodeId) [ untagged ↦ node_choice c.node | _ ↦ None ]

-- what a cell says
pub record Meant : Type 0 where
  pub starts : List Start
  pub slot : EntryRole
  pub is_mandatory : Bool
  pub mandatory_follows : Bool
  pub opens : Bool
  -- the choice without a tag whose alternatives these are
  pub choice : Option NodeId
  pub default : Option ℤ

abbrev pub cell_meant : Cell → Meant
cell_meant c = record { starts = cell_starts c; slot = c.slot; is_mandatory = c.is_mandatory; mandatory_follows = c.mandatory_follows; opens = cell_opens c; choice = cell_choice c; default = option_map pos c.default }

abbrev pub cells_meant : List Cell → List Meant
cells_meant cs = map cell_meant cs

abbrev pub meant : List Start → EntryRole → Bool → Bool → Option NodeId → Option ℤ → Meant
meant ss slot is_mandatory mandatory_follows choice default = record { starts = ss; slot = slot; is_mandatory = is_mandatory; mandatory_follows = mandatory_follows; opens = true; choice = choice; default = default }

abbrev pub is_must : Presence → Bool
is_must Presence.Must = true
is_must _ = false

-- what the rows of a sequence are to say
abbrev pub rows_meant : List Component → List Meant
rows_meant [] = []
rows_meant (c ∷ cs) = meant (starts profile_two c) slot.Row (is_must c.presence) (is_some (first_mandatory (c ∷ cs))) (component_choice c) (presence_default c.presence) ∷ rows_meant cs

abbrev pub item_meant : List Component → List Meant
item_meant [] = []
item_meant (c ∷ cs) = meant (starts profile_two c) slot.Item false false (component_choice c) (presence_default c.presence) ∷ []

abbrev pub segment_meant : Tag → List Meant
segment_meant tag = meant (start tag (segment tag) ∷ []) slot.Segment false false None None ∷ []

-- what the cells of a node of a kind are to say
abbrev pub kind_meant : Kind → NodeId → List Meant
kind_meant Kind.Seq node =
    meant (node_starts node) slot.Inner (is_strict node) (is_strict node || is_some (first_mandatory (components profile_two node))) (node_choice node) None ∷ rows_meant (components profile_two node)
kind_meant Kind.SeqOf node = meant (node_starts node) slot.Inner true true (node_choice node) None ∷ item_meant (components profile_two node)
kind_meant Kind.Choice node = meant (node_starts node) slot.Inner true true (node_choice node) None ∷ []
kind_meant Kind.Any node = meant (node_starts node) slot.Inner true true (node_choice node) None ∷ []
kind_meant (Kind.Leaf l) node = meant (node_starts node) slot.Inner true true (node_choice node) None ∷ segment_meant (segments_in (Kind.Leaf l))
kind_meant Kind.IllString node = meant (node_starts node) slot.Inner true true (node_choice node) None ∷ segment_meant octet_string

abbrev pub node_meant : NodeId → List Meant
node_meant node = kind_meant (kind_of node) node

-- the starts of cells, each alone
abbrev pub starts_of_cells : List Cell → List (List Start)
starts_of_cells cs = map (λ c. cell_start c ∷ []) cs

abbrev pub alone : List Start → List (List Start)
alone [] = []
alone (s ∷ ss) = (s ∷ []) ∷ alone ss

-- the starts of each alternative, or of each type
abbrev pub nested_starts : Kind → NodeId → List (List Start)
nested_starts Kind.Choice node = map component_starts (components profile_two node)
nested_starts Kind.IllString node = alone (node_starts node)
nested_starts _ node = []

-- each opens in its node, and is a row from this one on
abbrev pub all_open : ℕ → List Cell → Bool
all_open row [] = true
all_open row (c ∷ cs) = opens_in c.element_type c.node && (nat_eq row c.part.row && all_open (suc row) cs)

abbrev pub foreign_slot : ℕ → EntryRole
foreign_slot zero = slot.Root
foreign_slot (suc depth) = slot.Foreign

-- the cell of an element of a foreign tree, with this number of elements round it
abbrev pub foreign_cell : ℕ → Cell
foreign_cell depth = record {
  number = 0;
  class = Class.Universal;
  element_type = element_type.Foreign;
  part = record { node = Any; row = depth };
  node = Any;
  slot = foreign_slot depth;
  nested = false;
  is_mandatory = false;
  mandatory_follows = false;
  default = None;
}

-- so many of these cells, from a depth on
abbrev pub foreign_cells : ℕ → ℕ → List Cell
foreign_cells depth zero = []
foreign_cells depth (suc n) = foreign_cell depth ∷ foreign_cells (suc depth) n
