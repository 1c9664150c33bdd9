-- The leaves of profile 2: it has no NULL, OBJECT IDENTIFIER, OCTET STRING, BIT STRING and ObjectDescriptor.
use Rattle.std.proofs.Common.{◌≡◌, Bool, true, false, Some, IsTrue, refl, subst}
use Rattle.ber_tree.specs.Tree.{Tree, primitive, constructed, text}
use Rattle.ber_leaf.specs.Leaf.{Leaf, bit_string, Holds}
use Rattle.ber_leaf.specs.Profile.{Profile}
use Rattle.ber_leaf.specs.Segments.{leaf_content}
use Rattle.ber_leaf.specs.Simple.{Simple, null, oid, binary, bits, descriptor}
use Rattle.ill_tables.specs.declared.node.Kind.{Kind}
use Rattle.ill_tables.specs.declared.node.LeafKind.{LeafKind}
use Rattle.ill_tables.specs.declared.node.NodeId.{NodeId}
use Rattle.ill_tables.specs.declared.node.NodeId.TheVariants.{Null, ObjectIdentifier, OctetString, BitString, ObjectDescriptor}
use Rattle.ill_tables.specs.Table.{kind_of}
use Rattle.ill_schema.specs.TableFacts.{is_of_two}
use Rattle.ill_schema.specs.Tagging.{leaf_of}

-- a value of a leaf that profile 2 has
abbrev pub is_known : Simple → Bool
is_known null = false
is_known (oid _) = false
is_known (binary _) = false
is_known (bits _ _) = false
is_known (descriptor _) = false
is_known _ = true

abbrev is_known_kind : Kind → Bool
is_known_kind (Kind.Leaf LeafKind.Null) = false
is_known_kind (Kind.Leaf LeafKind.ObjectIdentifier) = false
is_known_kind (Kind.Leaf LeafKind.OctetString) = false
is_known_kind (Kind.Leaf LeafKind.BitString) = false
is_known_kind (Kind.Leaf LeafKind.ObjectDescriptor) = false
is_known_kind _ = true

all_known : (node : NodeId) → IsTrue (is_of_two node) → IsTrue (is_known_kind (kind_of node))
all_known Null h = absurd cc
all_known ObjectIdentifier h = absurd cc
all_known OctetString h = absurd cc
all_known BitString h = absurd cc
all_known ObjectDescriptor h = absurd cc
all_known _ h = refl

known_by : (k : Kind) (v : Simple) (l : Leaf) → IsTrue (is_known_kind k) → leaf_of k v ≡ Some l → IsTrue (is_known v)
known_by (Kind.Leaf LeafKind.Null) v l h e = absurd cc
known_by (Kind.Leaf LeafKind.ObjectIdentifier) v l h e = absurd cc
known_by (Kind.Leaf LeafKind.OctetString) v l h e = absurd cc
known_by (Kind.Leaf LeafKind.BitString) v l h e = absurd cc
known_by (Kind.Leaf LeafKind.ObjectDescriptor) v l h e = absurd cc
known_by k null l h e = absurd cc
known_by k (oid _) l h e = absurd cc
known_by k (binary _) l h e = absurd cc
known_by k (bits _ _) l h e = absurd cc
known_by k (descriptor _) l h e = absurd cc
known_by _ _ l h e = refl

pub known_leaf : (node : NodeId) (v : Simple) (l : Leaf) → IsTrue (is_of_two node) → leaf_of (kind_of node) v ≡ Some l → IsTrue (is_known v)
known_leaf node v l h e = known_by (kind_of node) v l (all_known node h) e

-- the content of such a leaf is its text
pub known_content : (p : Profile) (l : Leaf) (v : Simple) (T : Tree) → IsTrue (is_known v) → Holds p l v (leaf_content l T) → leaf_content l T ≡ text T
known_content p l v (primitive tag octets) h e = refl
known_content p bit_string v (constructed tag trees) h e = absurd (let q : false ≡ true = subst (λ w. IsTrue (is_known w)) e.2 h in cc)
known_content p _ v (constructed tag trees) h e = refl
