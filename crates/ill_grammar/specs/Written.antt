-- The normal form of one element, as the decoder writes it.
use Rattle.std.specs.Ordering.{int_eq}
use Rattle.std.specs.Prelude.{ℕ, ℤ, pos, Bool, true, false, List, [], Option, Some, None, slice_get}
use Rattle.ber_core.specs.Der.{encoding}
use Rattle.ber_tree.specs.Identifier.{Tag}
use Rattle.ber_tree.specs.Tree.{Tree, primitive, constructed, none, more}
use Rattle.ber_leaf.specs.Leaf.{Leaf, boolean, normal_content, value}
use Rattle.ber_leaf.specs.Profile.{profile_two}
use Rattle.ber_leaf.specs.Simple.{flag, whole}
use Rattle.ill_tables.specs.declared.part.Row.{Row}
use Rattle.ill_schema.specs.Content.{Content, simple}
use Rattle.ill_schema.specs.Content as content
use Rattle.ill_schema.specs.Normal.{normal_tree, normal_trees, normal_items}
use Rattle.ill_schema.specs.Presence.{is_default, same_value}
use Rattle.ill_tables.specs.Table.{rows_of}
use Rattle.ill_schema.specs.Tagging.{untagged, tagging}
use Rattle.ill_grammar.specs.declared.due.Next.{Next}
use Rattle.ill_grammar.specs.declared.due.Next.TheVariants.{Rows, Either}
use Rattle.ill_grammar.specs.declared.due.Slot.{Slot}
use Rattle.ill_grammar.specs.declared.due.Slot.TheVariants.{Row as AtRow}
use Rattle.ill_refusals.specs.Element.{Element, leaf, sequence, list, wrapper, loose_wrapper, foreign}

-- the normal tree of an element with this tag that holds this content
abbrev pub normal_element : Element → Tag → Content → Tree
normal_element (leaf l) t (simple v) = primitive t (normal_content v)
normal_element (sequence node) t (content.sequence es) = constructed t (normal_trees es (rows_of node))
normal_element (list node) t (content.list is) = constructed t (normal_items is (rows_of node))
normal_element (wrapper w) t c = constructed t (more (normal_tree c w.node untagged) none)
normal_element (loose_wrapper w) t c = constructed t (more (normal_tree c w.node untagged) none)
normal_element (foreign n) t (content.foreign T) = T
normal_element _ t c = constructed t none

-- the octets of a row's entry: none for a default
abbrev pub entry_octets : Row → Content → List ℕ
entry_octets row c = elim (is_default row c) as (λ _. List ℕ) [ true ↦ [] | false ↦ encoding (normal_tree c row.node (tagging profile_two row)) ]

-- the row of an element at a slot
abbrev pub row_slot : Next → Slot → Option Row
row_slot (Rows node k) (AtRow r) = slice_get (rows_of node) r
row_slot (Either w) (AtRow r) = slice_get (rows_of w.node) r
row_slot _ _ = None

-- an entry that has no octets, since it is its row's default
abbrev pub left_away : Next → Slot → Content → Bool
left_away n slot c = elim (row_slot n slot) as (λ _. Bool) [ Some row ↦ is_default row c | None ↦ false ]

-- the octets hold the value that a default's number stands for
abbrev pub is_number : Leaf → ℤ → List ℕ → Bool
is_number boolean d octets = same_value (value boolean octets) (flag (int_eq d (pos 1)))
is_number l d octets = same_value (value l octets) (whole d)
