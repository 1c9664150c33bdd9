-- The leaves that the code names.
use Rattle.std.specs.Prelude.{◌≡◌, ℕ, List, None, codes, IsTrue}
use Rattle.ber_tree.specs.Octets.{are_octets}
use Rattle.ill_schema.specs.Profiles.{profile_of}
use Rattle.ill_tables.specs.declared.profile.Profile.{Profile as Named}
use Rattle.ber_leaf.specs.Leaf.{Leaf, content_fault, boolean, integer, enumerated, general_string, visible_string, printable_string, iso_date, iso_time, null_type, object_identifier, octet_string, bit_string, object_descriptor}
use Rattle.ber_leaf.specs.Simple.{Simple, null, oid, binary, descriptor}
use Rattle.ill_grammar.specs.declared.leaf_type.LeafType.{LeafType}
use Rattle.ill_grammar.specs.declared.leaf_type.LeafType.TheVariants as code
use Rattle.ill_grammar.specs.declared.leaf_type.ModuleLeaf.{ModuleLeaf}
use Rattle.ill_grammar.specs.declared.leaf_type.ModuleLeaf.TheVariants as named
use Rattle.ill_grammar.specs.declared.leaf_type.ValueKind.{ValueKind}
use Rattle.ill_grammar.specs.declared.leaf_type.ValueKind.TheVariants as kind

abbrev pub leaf_is : LeafType → Leaf
leaf_is code.Boolean = boolean
leaf_is code.Integer = integer
leaf_is code.Enumerated = enumerated
leaf_is code.General = general_string
leaf_is code.Visible = visible_string
leaf_is code.Printable = printable_string
leaf_is code.Date = iso_date
leaf_is code.Time = iso_time

abbrev pub module_leaf_is : ModuleLeaf → Leaf
module_leaf_is named.Null = null_type
module_leaf_is named.ObjectIdentifier = object_identifier
module_leaf_is named.OctetString = octet_string
module_leaf_is named.ObjectDescriptor = object_descriptor

-- the value that octets hold in a leaf of this kind
abbrev pub held_as : ValueKind → List ℕ → Simple
held_as kind.Null octets = null
held_as kind.Identifier octets = oid octets
held_as kind.Octets octets = binary octets
held_as kind.Text octets = descriptor octets

-- the name of a type in ASN.1
abbrev pub type_name : Leaf → List ℕ
type_name boolean = codes "BOOLEAN"
type_name integer = codes "INTEGER"
type_name enumerated = codes "ENUMERATED"
type_name general_string = codes "GeneralString"
type_name visible_string = codes "VisibleString"
type_name printable_string = codes "PrintableString"
type_name iso_date = codes "VisibleString"
type_name iso_time = codes "VisibleString"
type_name null_type = codes "NULL"
type_name object_identifier = codes "OBJECT IDENTIFIER"
type_name octet_string = codes "OCTET STRING"
type_name bit_string = codes "BIT STRING"
type_name object_descriptor = codes "ObjectDescriptor"

-- the octets are a content of the leaf in the profile
abbrev pub IsContentIn : Named → Leaf → List ℕ → Type 0
IsContentIn p leaf octets = IsTrue (are_octets octets) × (content_fault (profile_of p) leaf octets ≡ None)
