-- The leaves of profile 2: their segments are OCTET STRINGs, and their content is their text.
use Rattle.std.proofs.Common.{◌≡◌, refl}
use Rattle.ber_tree.specs.Tree.{Tree, Trees, primitive, constructed, octet_string, text, text_all}
use Rattle.ber_leaf.specs.Profile.{profile_two}
use Rattle.ber_leaf.specs.Segments.{leaf_content, segment_tag}
use Rattle.ill_refusals.specs.Element.{leaf}
use Rattle.ill_refusals.specs.Fault.{element_fault, string_fault}
use Rattle.ill_grammar.specs.LeafTypes.{leaf_is, module_leaf_is}
use Rattle.ill_grammar.specs.declared.leaf_type.ModuleLeaf.{ModuleLeaf}
use Rattle.ill_grammar.specs.declared.leaf_type.ModuleLeaf.TheVariants as named
use Rattle.ill_grammar.specs.declared.leaf_type.LeafType.{LeafType}
use Rattle.ill_grammar.specs.declared.leaf_type.LeafType.TheVariants.{Boolean, Integer, Enumerated, General, Visible, Printable, Date, Time}

pub read_segments : (l : LeafType) → segment_tag (leaf_is l) ≡ octet_string
read_segments Boolean = refl
read_segments Integer = refl
read_segments Enumerated = refl
read_segments General = refl
read_segments Visible = refl
read_segments Printable = refl
read_segments Date = refl
read_segments Time = refl

pub read_content : (l : LeafType) (T : Tree) → leaf_content (leaf_is l) T ≡ text T
read_content l (primitive tag octets) = refl
read_content Boolean (constructed tag ts) = refl
read_content Integer (constructed tag ts) = refl
read_content Enumerated (constructed tag ts) = refl
read_content General (constructed tag ts) = refl
read_content Visible (constructed tag ts) = refl
read_content Printable (constructed tag ts) = refl
read_content Date (constructed tag ts) = refl
read_content Time (constructed tag ts) = refl

-- the fault of a leaf in segments is that of its text
pub read_fault : (l : LeafType) (ts : Trees) → string_fault profile_two (leaf (leaf_is l)) ts ≡ element_fault profile_two (leaf (leaf_is l)) (text_all ts)
read_fault Boolean ts = refl
read_fault Integer ts = refl
read_fault Enumerated ts = refl
read_fault General ts = refl
read_fault Visible ts = refl
read_fault Printable ts = refl
read_fault Date ts = refl
read_fault Time ts = refl

-- the same of the leaves of the module profile, of which only BIT STRINGs have bits
pub module_segments : (l : ModuleLeaf) → segment_tag (module_leaf_is l) ≡ octet_string
module_segments named.Null = refl
module_segments named.ObjectIdentifier = refl
module_segments named.OctetString = refl
module_segments named.ObjectDescriptor = refl

pub module_content : (l : ModuleLeaf) (T : Tree) → leaf_content (module_leaf_is l) T ≡ text T
module_content l (primitive tag octets) = refl
module_content named.Null (constructed tag ts) = refl
module_content named.ObjectIdentifier (constructed tag ts) = refl
module_content named.OctetString (constructed tag ts) = refl
module_content named.ObjectDescriptor (constructed tag ts) = refl
