-- The elements of normal forms, part by part.
use Rattle.std.specs.Prelude.{ℕ, Bool, true, false, Option, Some, None}
use Rattle.ber_tree.specs.declared.class.Class.{Class}
use Rattle.ber_tree.specs.Identifier.{Tag}
use Rattle.ber_tree.specs.Tree.{Tree, Trees, none, more}
use Rattle.ber_leaf.specs.Profile.{profile_two}
use Rattle.ill_tables.specs.declared.{node.Kind.Kind, node.NodeId.NodeId, part.Mode.Mode, part.Row.Row}
use Rattle.ill_schema.specs.declared.{value.Value.Value}
use Rattle.ill_schema.specs.Content.{Content, simple}
use Rattle.ill_schema.specs.{Normal.normal_tree, Presence.is_default, Value.content_of}
use Rattle.ill_schema.specs.Tagging.{Tagging, untagged, implicit, tagging, leaf_of, leaf_tag, universal}

abbrev pub tag_at : Class × ℕ → Tag
tag_at t = record { class = t.0; number = t.1 }

abbrev pub wrapper_at : Mode → Option (Class × ℕ) → Option (Class × ℕ)
wrapper_at Mode.Explicit tag = tag
wrapper_at Mode.ExplicitOrBare tag = tag
wrapper_at _ tag = None

abbrev pub replacement_at : Mode → Option (Class × ℕ) → Option (Class × ℕ)
replacement_at Mode.Implicit tag = tag
replacement_at _ tag = None

-- the tag of a row's explicit wrapper
abbrev pub wrapper : Row → Option (Class × ℕ)
wrapper row = wrapper_at row.mode row.tag

-- the tag in place of an element's own
abbrev pub replacement : Row → Option (Class × ℕ)
replacement row = replacement_at row.mode row.tag

abbrev pub replacing : Option (Class × ℕ) → Tagging
replacing None = untagged
replacing (Some t) = implicit (tag_at t)

-- the normal tree of a row's element
abbrev pub row_tree : Row → Content → Tree
row_tree row c = normal_tree c row.node (tagging profile_two row)

abbrev pub trees_unless : Bool → Tree → Trees
trees_unless true T = none
trees_unless false T = more T none

-- the normal trees of an entry: none for a default
abbrev pub entry_trees : Row → Option Value → Trees
entry_trees row None = none
entry_trees row (Some v) = trees_unless (is_default row (content_of v)) (row_tree row (content_of v))

abbrev pub joined : Trees → Trees → Trees
joined none us = us
joined (more T ts) us = more T (joined ts us)

-- the number of an element's own universal tag: SEQUENCE's where it is no leaf
abbrev pub own_number : Kind → Content → ℕ
own_number kind (simple v) = elim (leaf_of kind v) as (λ _. ℕ) [ Some leaf ↦ (leaf_tag leaf).number | None ↦ 16 ]
own_number kind _ = 16

-- an element's tag, where this one is in place of its own
abbrev pub element_tag : Option (Class × ℕ) → Kind → Content → Tag
element_tag None kind c = universal (own_number kind c)
element_tag (Some t) kind c = tag_at t

-- the normal tree of a value where this tag is in place of its own
abbrev pub element_tree : Option (Class × ℕ) → NodeId → Content → Tree
element_tree replaced node c = normal_tree c node (replacing replaced)

-- the trees of an entry in a row, if there is the row
abbrev pub place_trees : Option Row → Option Value → Trees
place_trees None e = none
place_trees (Some row) e = entry_trees row e

-- the tree of an item of a list, if there is the row
abbrev pub item_trees : Option Row → Value → Trees
item_trees None v = none
item_trees (Some row) v = more (row_tree row (content_of v)) none
