-- A string that is alone in its explicit tag, in the octets before the bound.
use Rattle.std.specs.Prelude.{◌≡◌, ℕ, ◌+◌, ◌<◌, ◌≤◌, false, List, ◌∷◌, length, drop, Option, Some, None, IsTrue}
use Rattle.ber_core.specs.Reading.{read_identifier, read_length, identified, definite}
use Rattle.ber_tree.specs.Identifier.{Tag}
use Rattle.ber_tree.specs.Tree.{Tree, constructed, primitive, more, none}
use Rattle.ill_schema.specs.Tagging.{leaf_tag}
use Rattle.ill_grammar.specs.LeafTypes.{leaf_is}
use Rattle.ill_grammar.specs.code.Judging.{content_in}
use Rattle.ill_grammar.specs.declared.leaf_type.LeafType.{LeafType}
use Rattle.ill_read.specs.code.Drafts.{is_ill_string}

-- the string in the tag
abbrev pub string_tree : Tag → LeafType → List ℕ → Tree
string_tree tag leaf octets = constructed tag (more (primitive (leaf_tag (leaf_is leaf)) octets) none)

-- the octets begin with a string of an ILL-String, whose header and content have so many octets
pub record BeginsWithString (leaf : LeafType) (header size : ℕ) (octets : List ℕ) : Type 0 where
  pub kind : IsTrue (is_ill_string leaf)
  pub named : read_identifier octets ≡ identified (leaf_tag (leaf_is leaf)) false (drop 1 octets)
  pub sized : read_length false (drop 1 octets) ≡ definite size (drop header octets)
  pub some : 0 < header
  pub within : header + size ≤ length octets

-- the tag, which begins at an offset with a header of so many octets, holds these octets and no more, up to its end or an end mark; all have `size` octets
abbrev pub HoldsOnly : ℕ → ℕ → Option ℕ → List ℕ → ℕ → List ℕ → ℕ → Type 0
HoldsOnly at header (Some end) window held contents size = (contents ≡ content_in header held window) × (end ≡ at + header + held) × (size ≡ header + held)
HoldsOnly at header None window held contents size =
    (contents ≡ drop header window) × ((w : List ℕ) × (drop held contents ≡ 0 ∷ 0 ∷ w)) × (size ≡ header + held + 2)

-- the tag has a string with this content in it, and nothing else
pub record HasStringInTag (at header : ℕ) (end : Option ℕ) (window : List ℕ) (leaf : LeafType) (octets : List ℕ) (size : ℕ) : Type 0 where
  pub contents : List ℕ
  pub own : ℕ
  pub string : BeginsWithString leaf own (length octets) contents
  pub content : octets ≡ content_in own (length octets) contents
  pub only : HoldsOnly at header end window (own + length octets) contents size
  pub fits : size ≤ length window
