-- Normal trees, part by part.
use Rattle.std.proofs.Common.{◌≡◌, ℕ, zero, suc, ◌+◌, ◌<◌, Bool, true, false, List, [], ◌∷◌, length, Option, Some, None, refl, sym, ap, ◌∙◌, arith, drop, get_or, slice_get, add-one}
use Rattle.ber_tree.specs.declared.class.Class.{Class}
use Rattle.ber_tree.specs.Identifier.{Tag}
use Rattle.ber_core.specs.Der.{sizes}
use Rattle.ber_tree.specs.Tree.{Tree, Trees, primitive, constructed, none, more}
use Rattle.ber_leaf.specs.Leaf.{Leaf, boolean, integer, enumerated, general_string, visible_string, printable_string, iso_date, iso_time, null_type, object_identifier, octet_string, bit_string, object_descriptor, normal_content}
use Rattle.ber_leaf.specs.Profile.{profile_two}
use Rattle.ber_leaf.specs.Simple.{Simple}
use Rattle.ill_tables.specs.declared.node.NodeId.{NodeId}
use Rattle.ill_tables.specs.declared.part.Mode.{Mode}
use Rattle.ill_tables.specs.declared.part.Presence.{Presence}
use Rattle.ill_tables.specs.declared.part.Row.{Row}
use Rattle.ill_schema.specs.declared.value.Value.{Value}
use Rattle.ill_schema.specs.Content.{Content, simple, sequence, list, alternative, foreign, Entries, Items}
use Rattle.ill_schema.specs.Elements.{tag_at, wrapper, wrapper_at, row_tree, trees_unless, entry_trees, joined, element_tag, element_tree, place_trees, item_trees}
use Rattle.ill_schema.specs.Normal.{normal_tree, normal_trees, normal_items}
use Rattle.ill_schema.specs.Presence.{is_default}
use Rattle.ill_tables.specs.Table.{kind_of, rows_of}
use Rattle.ill_schema.specs.Tagging.{untagged, explicit, explicit_or_bare, tagging, leaf_of, leaf_tag, universal, sequence_tag}
use Rattle.ill_schema.specs.Value.{content_of, entries_content, items_content}

pub sizes-joined : (ts us : Trees) → sizes (joined ts us) ≡ sizes ts + sizes us
sizes-joined none us = omega arith
sizes-joined (more T ts) us = let e = sizes-joined ts us in omega arith

-- DER's tree under a tag that may be bare is that under an explicit one
in_wrapper : (c : Content) (node : NodeId) (t : Class × ℕ) → normal_tree c node (explicit (tag_at t)) ≡ constructed (tag_at t) (more (normal_tree c node untagged) none)
in_wrapper (simple v) node t = refl
in_wrapper (sequence es) node t = refl
in_wrapper (list is) node t = refl
in_wrapper (alternative n c) node t = refl
in_wrapper (foreign V) node t = refl

not_bare : (c : Content) (node : NodeId) (t : Tag) → normal_tree c node (explicit_or_bare t) ≡ normal_tree c node (explicit t)
not_bare (simple v) node t = refl
not_bare (sequence es) node t = refl
not_bare (list is) node t = refl
not_bare (alternative n c) node t = refl
not_bare (foreign V) node t = refl

wrapped_at : (tag : Option (Class × ℕ)) (mode : Mode) (presence : Presence) (node : NodeId) (c : Content) (t : Class × ℕ) → wrapper_at mode tag ≡ Some t
    → normal_tree c node (tagging profile_two (record { tag = tag; mode = mode; presence = presence; node = node })) ≡ constructed (tag_at t) (more (normal_tree c node untagged) none)
wrapped_at None Mode.Explicit presence node c t e = absurd cc
wrapped_at None Mode.ExplicitOrBare presence node c t e = absurd cc
wrapped_at None Mode.Implicit presence node c t e = absurd cc
wrapped_at None Mode.Untagged presence node c t e = absurd cc
wrapped_at (Some s) Mode.Implicit presence node c t e = absurd cc
wrapped_at (Some s) Mode.Untagged presence node c t e = absurd cc
wrapped_at (Some s) Mode.Explicit presence node c t e = let same : s ≡ t = cc in ap (λ x. normal_tree c node (explicit (tag_at x))) same ∙ in_wrapper c node t
wrapped_at (Some s) Mode.ExplicitOrBare presence node c t e =
    let same : s ≡ t = cc in ap (λ x. normal_tree c node (explicit_or_bare (tag_at x))) same ∙ not_bare c node (tag_at t) ∙ in_wrapper c node t

-- a row's element in its wrapper
pub wrapped : (row : Row) (c : Content) (t : Class × ℕ) → wrapper row ≡ Some t → row_tree row c ≡ constructed (tag_at t) (more (element_tree None row.node c) none)
wrapped row c t e = wrapped_at row.tag row.mode row.presence row.node c t e

-- the tree of each kind of content
leaf_own : (o : Option Leaf) → elim o as (λ _. Tag) [ Some l ↦ leaf_tag l | None ↦ sequence_tag ] ≡ universal (elim o as (λ _. ℕ) [ Some l ↦ (leaf_tag l).number | None ↦ 16 ])
leaf_own None = refl
leaf_own (Some boolean) = refl
leaf_own (Some integer) = refl
leaf_own (Some enumerated) = refl
leaf_own (Some general_string) = refl
leaf_own (Some visible_string) = refl
leaf_own (Some printable_string) = refl
leaf_own (Some iso_date) = refl
leaf_own (Some iso_time) = refl
leaf_own (Some null_type) = refl
leaf_own (Some object_identifier) = refl
leaf_own (Some octet_string) = refl
leaf_own (Some bit_string) = refl
leaf_own (Some object_descriptor) = refl

pub simple_tree : (r : Option (Class × ℕ)) (node : NodeId) (v : Simple) → element_tree r node (simple v) ≡ primitive (element_tag r (kind_of node) (simple v)) (normal_content v)
simple_tree None node v = ap (λ t. primitive t (normal_content v)) (leaf_own (leaf_of (kind_of node) v))
simple_tree (Some t) node v = refl

pub sequence_tree : (r : Option (Class × ℕ)) (node : NodeId) (es : Entries) → element_tree r node (sequence es) ≡ constructed (element_tag r (kind_of node) (sequence es)) (normal_trees es (rows_of node))
sequence_tree None node es = refl
sequence_tree (Some t) node es = refl

pub list_tree : (r : Option (Class × ℕ)) (node : NodeId) (is : Items) → element_tree r node (list is) ≡ constructed (element_tag r (kind_of node) (list is)) (normal_items is (rows_of node))
list_tree None node is = refl
list_tree (Some t) node is = refl

pub chosen_tree : (r : Option (Class × ℕ)) (node : NodeId) (n : ℕ) (c : Content) (row : Row) → slice_get (rows_of node) n ≡ Some row → element_tree r node (alternative n c) ≡ row_tree row c
chosen_tree None node n c row e = ap (λ o. elim o as (λ _. Tree) [ Some x ↦ normal_tree c x.node (tagging profile_two x) | None ↦ constructed sequence_tag none ]) e
chosen_tree (Some t) node n c row e = ap (λ o. elim o as (λ _. Tree) [ Some x ↦ normal_tree c x.node (tagging profile_two x) | None ↦ constructed (tag_at t) none ]) e

pub no_row_tree : (r : Option (Class × ℕ)) (node : NodeId) (n : ℕ) (c : Content) → slice_get (rows_of node) n ≡ None → element_tree r node (alternative n c) ≡ constructed (element_tag r (kind_of node) (alternative n c)) none
no_row_tree None node n c e = ap (λ o. elim o as (λ _. Tree) [ Some x ↦ normal_tree c x.node (tagging profile_two x) | None ↦ constructed sequence_tag none ]) e
no_row_tree (Some t) node n c e = ap (λ o. elim o as (λ _. Tree) [ Some x ↦ normal_tree c x.node (tagging profile_two x) | None ↦ constructed (tag_at t) none ]) e

-- one step along the entries and their rows
entry_first : (b : Bool) (T : Tree) (us : Trees) → elim b as (λ _. Trees) [ true ↦ us | false ↦ more T us ] ≡ joined (trees_unless b T) us
entry_first true T us = refl
entry_first false T us = refl

normal_first : (e : Option Value) (es : List (Option Value)) (row : Row) (rows : List Row)
    → normal_trees (entries_content (e ∷ es)) (row ∷ rows) ≡ joined (entry_trees row e) (normal_trees (entries_content es) rows)
normal_first None es row rows = refl
normal_first (Some v) es row rows = entry_first (is_default row (content_of v)) (row_tree row (content_of v)) (normal_trees (entries_content es) rows)

no_rows : (es : List (Option Value)) → normal_trees (entries_content es) [] ≡ none
no_rows [] = refl
no_rows (None ∷ es) = refl
no_rows (Some v ∷ es) = refl

entry_at : (es : List (Option Value)) (rows : List Row) (i : ℕ) (e : Option Value) → i < length es
    → normal_trees (entries_content (drop i es)) (drop i rows) ≡ joined (place_trees (slice_get rows i) (get_or es i e)) (normal_trees (entries_content (drop (suc i) es)) (drop (suc i) rows))
entry_at [] rows i e h = absurd (omega arith)
entry_at (x ∷ es) [] zero e h = no_rows (x ∷ es) ∙ sym (no_rows es)
entry_at (x ∷ es) [] (suc i) e h = no_rows (drop i es) ∙ sym (no_rows (drop (suc i) es))
entry_at (x ∷ es) (row ∷ rows) zero e h = normal_first x es row rows
entry_at (x ∷ es) (row ∷ rows) (suc i) e h = entry_at es rows i e (omega arith)

pub entry_step : (es : List (Option Value)) (rows : List Row) (i : ℕ) (e : Option Value) → i < length es → e ≡ get_or es i e
    → normal_trees (entries_content (drop i es)) (drop i rows) ≡ joined (place_trees (slice_get rows i) e) (normal_trees (entries_content (drop (i + 1) es)) (drop (i + 1) rows))
entry_step es rows i e h is = rw (add-one) (entry_at es rows i e h ∙ ap (λ x. joined (place_trees (slice_get rows i) x) (normal_trees (entries_content (drop (suc i) es)) (drop (suc i) rows))) (sym is))

absent_trees : (o : Option Row) → place_trees o None ≡ none
absent_trees None = refl
absent_trees (Some row) = refl

pub absent_step : (es : List (Option Value)) (rows : List Row) (i : ℕ) → i < length es → None ≡ get_or es i None
    → normal_trees (entries_content (drop i es)) (drop i rows) ≡ normal_trees (entries_content (drop (i + 1) es)) (drop (i + 1) rows)
absent_step es rows i h is = entry_step es rows i None h is ∙ ap (λ z. joined z (normal_trees (entries_content (drop (i + 1) es)) (drop (i + 1) rows))) (absent_trees (slice_get rows i))

item_first : (v : Value) (vs : List Value) (rows : List Row) → normal_items (items_content (v ∷ vs)) rows ≡ joined (item_trees (slice_get rows 0) v) (normal_items (items_content vs) rows)
item_first v [] [] = refl
item_first v (w ∷ vs) [] = refl
item_first v vs (row ∷ rows) = refl

item_at : (vs : List Value) (rows : List Row) (i : ℕ) (v : Value) → i < length vs
    → normal_items (items_content (drop i vs)) rows ≡ joined (item_trees (slice_get rows 0) (get_or vs i v)) (normal_items (items_content (drop (suc i) vs)) rows)
item_at [] rows i v h = absurd (omega arith)
item_at (x ∷ vs) rows zero v h = item_first x vs rows
item_at (x ∷ vs) rows (suc i) v h = item_at vs rows i v (omega arith)

pub item_step : (vs : List Value) (rows : List Row) (i : ℕ) (v : Value) → i < length vs → v ≡ get_or vs i v
    → normal_items (items_content (drop i vs)) rows ≡ joined (item_trees (slice_get rows 0) v) (normal_items (items_content (drop (i + 1) vs)) rows)
item_step vs rows i v h is = rw (add-one) (item_at vs rows i v h ∙ ap (λ x. joined (item_trees (slice_get rows 0) x) (normal_items (items_content (drop (suc i) vs)) rows)) (sym is))
