-- Strings in segments (X.690, 8.6.4, 8.7.3, 8.23 and 8.25): the tag of a segment, and the content that segments have, joined.
use Rattle.std.specs.Prelude.{ℕ, ◌&&◌, nat_eq, List, [], ◌∷◌, ◌++◌, if◌then◌else◌}
use Rattle.ber_tree.specs.declared.class.Class.TheVariants.{Universal}
use Rattle.ber_tree.specs.Identifier.{Tag}
use Rattle.ber_tree.specs.Tree.{Tree, Trees, primitive, constructed, none, more, text_all, octet_string}
use Rattle.ber_leaf.specs.Leaf.{Leaf, bit_string, is_bits}

-- segments of a BIT STRING are BIT STRINGs (8.6.4.1), those of another string are OCTET STRINGs (8.7.3.2, 8.23.6)
abbrev pub segment_tag : Leaf → Tag
segment_tag bit_string = record { class = Universal; number = 3 }
segment_tag _ = octet_string

-- no content of a BIT STRING: eight unused bits
abbrev pub no_bits : List ℕ
no_bits = 8 ∷ []

-- the content that has the bits of the first and then those of the second: only the last segment may have unused bits (8.6.4)
abbrev pub join_bits : List ℕ → List ℕ → List ℕ
join_bits (u ∷ octets) (v ∷ rest) = if nat_eq u 0 && is_bits (v ∷ rest) then v ∷ octets ++ rest else no_bits
join_bits _ _ = no_bits

abbrev mutual
  -- the content of a BIT STRING: its octets, or what its segments have, joined in order
  pub tree_bits : Tree → List ℕ
  tree_bits (primitive tag octets) = octets
  tree_bits (constructed tag trees) = bits_after (0 ∷ []) trees

  -- the bits of a content, and then those of the trees
  pub bits_after : List ℕ → Trees → List ℕ
  bits_after content none = content
  bits_after content (more tree trees) = bits_after (join_bits content (tree_bits tree)) trees

-- the content that a string's segments have, joined in order
abbrev pub segments_content : Leaf → Trees → List ℕ
segments_content bit_string trees = bits_after (0 ∷ []) trees
segments_content _ trees = text_all trees

-- the content of a leaf, whole or in segments
abbrev pub leaf_content : Leaf → Tree → List ℕ
leaf_content leaf (primitive tag octets) = octets
leaf_content leaf (constructed tag trees) = segments_content leaf trees
