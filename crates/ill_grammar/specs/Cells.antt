-- What an index and a cell that is found stand for.
use Rattle.std.specs.Prelude.{◌-◌, ◌≡◌, ℕ, ℤ, zero, suc, Bool, true, false, ◌&&◌, List, [], ◌∷◌, drop, Option, Some, None, option_map, slice_get, if◌then◌else◌}
use Rattle.ber_tree.specs.Identifier.{Tag}
use Rattle.ber_tree.specs.Tree.{octet_string}
use Rattle.ber_core.specs.Foreign.{foreign_levels}
use Rattle.ber_leaf.specs.Leaf.{bit_string}
use Rattle.ber_leaf.specs.Profile.{profile_two}
use Rattle.ber_leaf.specs.Segments.{segment_tag}
use Rattle.ill_tables.specs.declared.node.Kind.{Kind}
use Rattle.ill_tables.specs.declared.node.LeafKind.{LeafKind}
use Rattle.ill_tables.specs.declared.node.NodeId.{NodeId}
use Rattle.ill_tables.specs.declared.node.NodeId.TheVariants.{ElectronicDelivery, PostalAddress}
use Rattle.ill_tables.specs.declared.part.PartId.{PartId}
use Rattle.ill_tables.specs.declared.part.Presence.{Presence}
use Rattle.ill_tables.specs.Table.{kind_of}
use Rattle.ill_schema.specs.TableFacts.{is_of_two}
use Rattle.ill_schema.specs.Tagging.{untagged, same_tag}
use Rattle.ill_refusals.specs.Element.{Component, component_starts, components, Element, leaf, sequence, list, wrapper, loose_wrapper, segment, foreign, left_out}
use Rattle.ill_refusals.specs.Next.{Next, rows, items, either, segments, anything, foreigns, Due, part, octets, any, opening}
use Rattle.ill_grammar.specs.Elements.{element_with}
use Rattle.ill_grammar.specs.LeafTypes.{leaf_is, module_leaf_is}
use Rattle.ill_grammar.specs.declared.cell.Cell.{Cell}
use Rattle.ill_grammar.specs.declared.cell.ElementType.{ElementType}
use Rattle.ill_grammar.specs.declared.cell.ElementType.TheVariants as element_type
use Rattle.ill_grammar.specs.declared.cell.EntryRole.{EntryRole}
use Rattle.ill_grammar.specs.declared.cell.EntryRole.TheVariants as slot

-- what an explicit tag of a part is round
abbrev pub wrapped : PartId → NodeId → Component
wrapped p node = record { part = p; presence = Presence.Must; tagging = untagged; node = node }

-- the tag of the segments of a string
abbrev pub segments_in : Kind → Tag
segments_in (Kind.Leaf LeafKind.BitString) = segment_tag bit_string
segments_in _ = octet_string

-- how many levels may stand in an element of a foreign tree: the row of its part is the number of elements of the tree round it
abbrev pub levels_in : PartId → ℕ
levels_in p = foreign_levels - suc p.row

-- what may come in a node that is open, of this part
abbrev pub inside : Kind → PartId → NodeId → Next
inside Kind.SeqOf p node = opening profile_two (list node)
inside (Kind.Leaf l) p node = segments (segments_in (Kind.Leaf l))
inside Kind.IllString p node = segments octet_string
inside Kind.Any p node = foreigns (levels_in p)
inside _ p node = rows []

-- sequences in an explicit tag that may not be bare; every other sequence that is in one is an APDU or a result
abbrev pub is_strict : NodeId → Bool
is_strict PostalAddress = true
is_strict ElectronicDelivery = true
is_strict _ = false

-- in an explicit tag round a sequence
abbrev pub around : Bool → Component → Next
around true c = rows (c ∷ [])
around false c = either c

-- what may come at a position of a node: at 0 in the wrapper of a part round it, from 1 on in the node itself
abbrev pub next_of_kind : Kind → PartId → NodeId → ℕ → Next
next_of_kind Kind.Seq p node zero = around (is_strict node) (wrapped p node)
next_of_kind Kind.Seq p node (suc row) = rows (drop row (components profile_two node))
next_of_kind Kind.Any p node zero = anything (wrapped p node)
next_of_kind _ p node zero = rows (wrapped p node ∷ [])
next_of_kind k p node (suc zero) = inside k p node
next_of_kind _ p node (suc (suc _)) = rows []

abbrev pub next_from : PartId → NodeId → ℕ → Next
next_from p node position = next_of_kind (kind_of node) p node position

-- what an element is, of this part and with this node
abbrev pub element_in : PartId → NodeId → ElementType → Element
element_in p node (element_type.Leaf l) = leaf (leaf_is l)
element_in p node (element_type.ModuleLeaf l) = leaf (module_leaf_is l)
element_in p node element_type.BitString = leaf bit_string
element_in p node element_type.Sequence = sequence node
element_in p node element_type.List = list node
element_in p node element_type.Wrapper = wrapper (wrapped p node)
element_in p node element_type.LooseWrapper = loose_wrapper (wrapped p node)
element_in p node element_type.Segment = segment octet_string
element_in p node element_type.BitSegment = segment (segment_tag bit_string)
element_in p node element_type.Foreign = foreign (levels_in p)
element_in p node element_type.LeftOut = left_out p

-- the node, where it is a choice
abbrev pub node_choice : NodeId → Option NodeId
node_choice node = elim (kind_of node) as (λ _. Option NodeId) [ Kind.Choice ↦ Some node | _ ↦ None ]

-- the alternative that the second cell is, where the first is a choice without a tag
abbrev pub cell_alternative : Cell → Cell → Option ℕ
cell_alternative cell tagged = if cell.nested then option_map (λ _. tagged.part.row) (node_choice cell.node) else None

-- where the element begins inside: a tag round a node at 0
abbrev pub first_position : ElementType → ℕ
first_position element_type.Wrapper = 0
first_position element_type.LooseWrapper = 0
first_position _ = 1

-- the row before a position of a sequence
abbrev pub row_before : ℕ → ℕ
row_before zero = zero
row_before (suc row) = row

abbrev pub is_leaf : Kind → Bool
is_leaf (Kind.Leaf _) = true
is_leaf Kind.IllString = true
is_leaf _ = false

-- its segments are BIT STRINGs
abbrev pub has_bit_segments : Kind → Bool
has_bit_segments (Kind.Leaf LeafKind.BitString) = true
has_bit_segments _ = false

abbrev pub is_any : Kind → Bool
is_any Kind.Any = true
is_any _ = false

abbrev pub is_sequence : Kind → Bool
is_sequence Kind.Seq = true
is_sequence _ = false

abbrev pub is_list : Kind → Bool
is_list Kind.SeqOf = true
is_list _ = false

-- where an element may be at a position of a node of this kind: in the wrapper round it at 0, from 1 on in the node itself
abbrev pub is_placed : Kind → ℕ → EntryRole → Bool
is_placed k (suc row) slot.Row = is_sequence k
is_placed k zero slot.Inner = true
is_placed k (suc zero) slot.Item = is_list k
is_placed k (suc zero) slot.Segment = is_leaf k
is_placed k zero slot.Root = is_any k
is_placed k (suc zero) slot.Foreign = is_any k
is_placed k position _ = false

abbrev pub due_row : Component → Element → List Component → Due
due_row other e [] = part other e (rows [])
due_row other e (c ∷ cs) = part c e (rows cs)

abbrev pub due_item : Component → Element → List Component → Due
due_item other e [] = part other e (rows [])
due_item other e (c ∷ cs) = part c e (items c)

-- segments with this tag may come
abbrev pub due_segment : Tag → Component → Element → Due
due_segment tag other (segment t) = if same_tag t tag then octets t else part other (segment t) (segments tag)
due_segment tag other e = part other e (segments tag)

-- an element of a foreign tree, before what may come after it
abbrev pub due_foreign : Next → Component → Element → Due
due_foreign after other (foreign n) = any n after
due_foreign after other e = part other e after

-- the element is due at a position of a node, where the wrapper round it is of a part
abbrev pub due_at : PartId → NodeId → ℕ → EntryRole → Element → Due
due_at p node position slot.Row e = due_row (wrapped p node) e (drop (row_before position) (components profile_two node))
due_at p node position slot.Inner e = part (wrapped p node) e (rows [])
due_at p node position slot.Item e = due_item (wrapped p node) e (components profile_two node)
due_at p node position slot.Segment e = due_segment (segments_in (kind_of node)) (wrapped p node) e
due_at p node position slot.Root e = due_foreign (rows []) (wrapped p node) e
due_at p node position slot.Foreign e = due_foreign (foreigns (levels_in p)) (wrapped p node) e

-- the tag begins the alternative of this number of a choice (8.13)
abbrev pub BeginsAlternative : Tag → NodeId → ℕ → Element → Type 0
BeginsAlternative t node n e = (c : Component) × (slice_get (components profile_two node) n ≡ Some c) × (element_with t (component_starts c) ≡ Some e)

-- the tag begins the component itself, or an alternative of it where it is a choice without a tag
abbrev pub Begins : Tag → Component → Option ℕ → Element → Type 0
Begins t c None e = element_with t (component_starts c) ≡ Some e
Begins t c (Some n) e = (c.tagging ≡ untagged) × (kind_of c.node ≡ Kind.Choice) × BeginsAlternative t c.node n e

-- the same of what is due
abbrev pub BeginsDue : Tag → Due → Option ℕ → Type 0
BeginsDue t (part c e n) alternative = Begins t c alternative e
BeginsDue t (octets u) alternative = alternative ≡ None
BeginsDue t (any n next) alternative = alternative ≡ None

-- the part that is missing at a position of a node, where the wrapper round it is of a part
abbrev pub part_at : PartId → NodeId → ℕ → EntryRole → PartId
part_at p node position slot.Row = record { node = node; row = row_before position }
part_at p node position _ = p

abbrev pub presence_default : Presence → Option ℤ
presence_default (Presence.Default d) = Some d
presence_default _ = None

-- the default of the component that is due (8.9.3)
abbrev pub default_due : Due → Option ℤ
default_due (part c e n) = presence_default c.presence
default_due (octets tag) = None
default_due (any n next) = None

-- as what elements of profile 2 are read
abbrev pub is_two_type : ElementType → Bool
is_two_type (element_type.ModuleLeaf l) = false
is_two_type element_type.BitString = false
is_two_type element_type.BitSegment = false
is_two_type element_type.Foreign = false
is_two_type _ = true

-- a cell of profile 2
abbrev pub is_two_cell : Cell → Bool
is_two_cell c = is_of_two c.node && is_two_type c.element_type
