-- The elements that may be in an open element, by their tags (X.690, 8.9, 8.10, 8.13 and 8.14).
use Rattle.std.specs.Prelude.{Bool, ℕ, ◌+◌, List, [], ◌∷◌, ◌++◌, flat_map}
use Rattle.ber_tree.specs.Identifier.{Tag}
use Rattle.ill_tables.specs.declared.node.Kind.{Kind}
use Rattle.ill_tables.specs.declared.node.LeafKind.{LeafKind}
use Rattle.ill_tables.specs.declared.node.NodeId.{NodeId}
use Rattle.ill_tables.specs.declared.part.PartId.{PartId}
use Rattle.ill_tables.specs.declared.part.Presence.{Presence}
use Rattle.ill_tables.specs.declared.part.Row.{Row}
use Rattle.ber_leaf.specs.Leaf.{Leaf, boolean, integer, enumerated, general_string, visible_string, printable_string, iso_date, iso_time, null_type, object_identifier, octet_string, bit_string, object_descriptor}
use Rattle.ber_leaf.specs.Profile.{Profile}
use Rattle.ill_schema.specs.Tagging.{Tagging, untagged, implicit, explicit, explicit_or_bare, row_tagging, sequence_tag, leaf_tag}
use Rattle.ill_tables.specs.Table.{kind_of, rows_of}

-- a component of a SEQUENCE (8.9): a row with its place in the tables
pub record Component : Type 0 where
  pub part : PartId
  pub presence : Presence
  pub tagging : Tagging
  pub node : NodeId

-- the components by the rows from a number on; of a profile they depend on whether tags may be bare, and on nothing else
abbrev pub components_by : Bool → NodeId → ℕ → List Row → List Component
components_by bare node n [] = []
components_by bare node n (row ∷ rows) =
    record { part = record { node = node; row = n }; presence = row.presence; tagging = row_tagging bare row; node = row.node }
    ∷ components_by bare node (n + 1) rows

abbrev pub node_components : Bool → NodeId → List Component
node_components bare node = components_by bare node 0 (rows_of node)

abbrev pub components_from : Profile → NodeId → ℕ → List Row → List Component
components_from p node n rows = components_by p.bare node n rows

abbrev pub components : Profile → NodeId → List Component
components p node = components_from p node 0 (rows_of node)

-- what an explicit tag is round (8.14.2): the component without its tag
abbrev pub inner : Component → Component
inner c = record c { presence = Presence.Must; tagging = untagged }

-- what an element is, by what was due where it is
pub data Element : Type 0 where
  leaf : Leaf → Element
  sequence : NodeId → Element
  list : NodeId → Element
  -- an explicit tag round the component
  wrapper : Component → Element
  -- the same, which may also be round the components of its node
  loose_wrapper : Component → Element
  -- an element of this tag in a string (8.6.4, 8.7.3.2, 8.23.6)
  segment : Tag → Element
  -- an element of a foreign tree, in which so many levels may stand (8.15)
  foreign : ℕ → Element
  left_out : PartId → Element

-- a tag, and what an element with this tag is
pub record Start : Type 0 where
  pub tag : Tag
  pub element : Element

abbrev pub start : Tag → Element → Start
start tag element = record { tag = tag; element = element }

abbrev pub leaf_start : Leaf → Start
leaf_start l = start (leaf_tag l) (leaf l)

-- the elements of a node that is not a choice, each with its type's tag
abbrev pub own_starts : Kind → NodeId → List Start
own_starts Kind.Seq node = start sequence_tag (sequence node) ∷ []
own_starts Kind.SeqOf node = start sequence_tag (list node) ∷ []
own_starts Kind.Choice node = []
own_starts Kind.Any node = []
own_starts (Kind.Leaf LeafKind.Boolean) node = leaf_start boolean ∷ []
own_starts (Kind.Leaf LeafKind.Integer) node = leaf_start integer ∷ []
own_starts (Kind.Leaf LeafKind.Enumerated) node = leaf_start enumerated ∷ []
own_starts (Kind.Leaf LeafKind.Date) node = leaf_start iso_date ∷ []
own_starts (Kind.Leaf LeafKind.Time) node = leaf_start iso_time ∷ []
own_starts (Kind.Leaf LeafKind.Printable) node = leaf_start printable_string ∷ []
own_starts (Kind.Leaf LeafKind.Null) node = leaf_start null_type ∷ []
own_starts (Kind.Leaf LeafKind.ObjectIdentifier) node = leaf_start object_identifier ∷ []
own_starts (Kind.Leaf LeafKind.OctetString) node = leaf_start octet_string ∷ []
own_starts (Kind.Leaf LeafKind.BitString) node = leaf_start bit_string ∷ []
own_starts (Kind.Leaf LeafKind.ObjectDescriptor) node = leaf_start object_descriptor ∷ []
own_starts Kind.IllString node = leaf_start general_string ∷ leaf_start visible_string ∷ []

-- with an implicit tag in place of their own (8.14.3)
abbrev pub retag : Tag → List Start → List Start
retag tag [] = []
retag tag (s ∷ ss) = start tag s.element ∷ retag tag ss

-- the elements of a component under a tagging
abbrev pub tagged_starts : Tagging → Component → List Start
tagged_starts untagged c = own_starts (kind_of c.node) c.node
tagged_starts (implicit tag) c = retag tag (own_starts (kind_of c.node) c.node)
tagged_starts (explicit tag) c = start tag (wrapper (inner c)) ∷ []
tagged_starts (explicit_or_bare tag) c = start tag (loose_wrapper (inner c)) ∷ []

-- the same tags, of a row that is not read
abbrev pub leave_out : PartId → List Start → List Start
leave_out part [] = []
leave_out part (s ∷ ss) = start s.tag (left_out part) ∷ leave_out part ss

-- a component by its tag, or by its type's where it has none
abbrev pub component_starts : Component → List Start
component_starts c = elim c.presence as (λ _. List Start) [
  | Presence.LeftOut ↦ leave_out c.part (tagged_starts c.tagging c)
  | _ ↦ tagged_starts c.tagging c
]

-- the elements by which the component may begin: an untagged choice goes by its alternatives (8.13)
abbrev pub starts_by : Bool → Component → List Start
starts_by bare c = elim c.tagging as (λ _. List Start) [
  | untagged ↦ component_starts c ++ elim (kind_of c.node) as (λ _. List Start) [ Kind.Choice ↦ flat_map component_starts (node_components bare c.node) | _ ↦ [] ]
  | _ ↦ component_starts c
]

abbrev pub starts : Profile → Component → List Start
starts p c = starts_by p.bare c
