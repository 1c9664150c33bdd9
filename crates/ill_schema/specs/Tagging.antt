-- Tags, and the tag of a row beside that of its type (X.690, 8.14; X.680, 31.2).
use Rattle.std.specs.Prelude.{◌≡◌, ◌⊎◌, ℕ, Bool, ◌&&◌, nat_eq, Option, Some, None, if◌then◌else◌}
use Rattle.ber_tree.specs.declared.class.Class.{Class}
use Rattle.ber_tree.specs.Identifier.{Tag, class_bits}
use Rattle.ber_tree.specs.Tree.{Tree, constructed, more, none}
use Rattle.ber_leaf.specs.Leaf.{Leaf, boolean, integer, enumerated, general_string, visible_string, printable_string, iso_date, iso_time, null_type, object_identifier, octet_string, bit_string, object_descriptor}
use Rattle.ber_leaf.specs.Profile.{Profile}
use Rattle.ber_leaf.specs.Simple.{Simple, flag, whole, date, time, printable, general, visible, null, oid, binary, bits, descriptor}
use Rattle.ill_tables.specs.declared.{node.Kind.Kind, node.LeafKind.LeafKind, part.Mode.Mode, part.Row.Row}

-- a tag of class universal (X.680, 8.4)
abbrev pub universal : ℕ → Tag
universal number = record { class = Class.Universal; number = number }

abbrev pub same_tag : Tag → Tag → Bool
same_tag s t = nat_eq (class_bits s.class) (class_bits t.class) && nat_eq s.number t.number

-- SEQUENCE, and SEQUENCE OF (X.680, 25 and 26)
abbrev pub sequence_tag : Tag
sequence_tag = universal 16

-- the tag of a leaf where no other is in its place (X.680, 18 to 20, 22 to 24, 32, 41 and 48); ISO-Date and ISO-Time of ISO 10161-1 are VisibleStrings
abbrev pub leaf_tag : Leaf → Tag
leaf_tag boolean = universal 1
leaf_tag integer = universal 2
leaf_tag enumerated = universal 10
leaf_tag general_string = universal 27
leaf_tag printable_string = universal 19
leaf_tag visible_string = universal 26
leaf_tag iso_date = universal 26
leaf_tag iso_time = universal 26
leaf_tag null_type = universal 5
leaf_tag object_identifier = universal 6
leaf_tag octet_string = universal 4
leaf_tag bit_string = universal 3
leaf_tag object_descriptor = universal 7

-- the leaf as which a node of this kind holds the value
abbrev pub leaf_of : Kind → Simple → Option Leaf
leaf_of (Kind.Leaf LeafKind.Boolean) (flag _) = Some boolean
leaf_of (Kind.Leaf LeafKind.Integer) (whole _) = Some integer
leaf_of (Kind.Leaf LeafKind.Enumerated) (whole _) = Some enumerated
leaf_of (Kind.Leaf LeafKind.Date) (date _) = Some iso_date
leaf_of (Kind.Leaf LeafKind.Time) (time _) = Some iso_time
leaf_of (Kind.Leaf LeafKind.Printable) (printable _) = Some printable_string
leaf_of (Kind.Leaf LeafKind.Null) null = Some null_type
leaf_of (Kind.Leaf LeafKind.ObjectIdentifier) (oid _) = Some object_identifier
leaf_of (Kind.Leaf LeafKind.OctetString) (binary _) = Some octet_string
leaf_of (Kind.Leaf LeafKind.BitString) (bits _ _) = Some bit_string
leaf_of (Kind.Leaf LeafKind.ObjectDescriptor) (descriptor _) = Some object_descriptor
leaf_of Kind.IllString (general _) = Some general_string
leaf_of Kind.IllString (visible _) = Some visible_string
leaf_of _ _ = None

pub data Tagging : Type 0 where
  -- the type's own tag
  untagged : Tagging
  -- IMPLICIT: in place of the type's tag (X.690, 8.14.3)
  implicit : Tag → Tagging
  -- EXPLICIT: round the whole element (X.690, 8.14.2)
  explicit : Tag → Tagging
  -- of the rows that the profile lets be bare: round the SEQUENCE, or directly round its components
  explicit_or_bare : Tag → Tagging

-- the tagging that a row's mode and tag say, where the tags of APDUs and results may be bare or not
abbrev tagged_by : Bool → Mode → Tag → Tagging
tagged_by bare Mode.Implicit tag = implicit tag
tagged_by bare Mode.Explicit tag = explicit tag
tagged_by bare Mode.ExplicitOrBare tag = if bare then explicit_or_bare tag else explicit tag
tagged_by bare Mode.Untagged tag = untagged

abbrev pub row_tagging : Bool → Row → Tagging
row_tagging bare row = elim row.tag as (λ _. Tagging) [ None ↦ untagged | Some t ↦ tagged_by bare row.mode (record { class = t.0; number = t.1 }) ]

-- how the elements of a row are tagged
abbrev pub tagging : Profile → Row → Tagging
tagging p row = row_tagging p.bare row

-- the tree T is an element under a tagging: E says of a tag and a tree that the tree has the tag and is the element
abbrev pub Tagged : Tagging → Tag → (Tag → Tree → Type 0) → Tree → Type 0
Tagged untagged own E T = E own T
Tagged (implicit tag) own E T = E tag T
Tagged (explicit tag) own E T = (U : Tree) × (T ≡ constructed tag (more U none)) × E own U
Tagged (explicit_or_bare tag) own E T = ((U : Tree) × (T ≡ constructed tag (more U none)) × E own U) ⊎ E tag T

-- DER's tree of an element under a tagging: an explicit tag holds the one element
abbrev pub tag_tree : Tagging → Tag → (Tag → Tree) → Tree
tag_tree untagged own tree = tree own
tag_tree (implicit tag) own tree = tree tag
tag_tree (explicit tag) own tree = constructed tag (more (tree own) none)
tag_tree (explicit_or_bare tag) own tree = constructed tag (more (tree own) none)
