-- What octets say after a mark that only the module profile has.
use Rattle.std.specs.Prelude.{◌≡◌, ℕ, Bool, true, false, List, IsTrue}
use Rattle.ber_core.specs.Der.{encoding}
use Rattle.ber_core.specs.Foreign.{foreign_levels, is_foreign}
use Rattle.ber_tree.specs.Tree.{Tree}
use Rattle.ber_leaf.specs.Leaf.{Leaf, bit_string, value}
use Rattle.ill_schema.specs.Content.{Content, simple, foreign}
use Rattle.ill_tables.specs.declared.profile.Profile.{Profile as Named}
use Rattle.ill_grammar.specs.LeafTypes.{IsContentIn, module_leaf_is}
use Rattle.ill_grammar.specs.declared.outline.Mark.{Mark}
use Rattle.ill_grammar.specs.declared.outline.Mark.TheVariants as mark

-- a leaf of the module profile, or a foreign tree
abbrev pub is_of_module : Mark → Bool
is_of_module (mark.ModuleLeaf l) = true
is_of_module mark.BitString = true
is_of_module mark.Foreign = true
is_of_module _ = false

-- the octets are a content of the leaf, which holds this
abbrev pub IsLeafOf : Leaf → Content → List ℕ → Type 0
IsLeafOf l c octets = (p : Named) × IsContentIn p l octets × (c ≡ simple (value l octets))

-- the octets after the mark say this
abbrev pub SaysOctets : Mark → Content → List ℕ → Type 0
SaysOctets (mark.ModuleLeaf l) c octets = IsLeafOf (module_leaf_is l) c octets
SaysOctets mark.BitString c octets = IsLeafOf bit_string c octets
SaysOctets mark.Foreign c octets = (T : Tree) × IsTrue (is_foreign foreign_levels T) × (c ≡ foreign T) × (octets ≡ encoding T)
SaysOctets _ c octets = ⊥
