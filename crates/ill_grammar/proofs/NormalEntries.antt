-- The normal trees of a sequence grow row by row, those of a list item by item.
use Rattle.std.proofs.Common.{◌≡◌, ℕ, zero, suc, ℤ, ◌≤◌, Bool, true, false, List, [], ◌∷◌, ◌++◌, length, take, drop, map, Option, Some, None, refl, sym, ap, ◌∙◌, arith, slice_get, append_assoc, append-nil}
use Rattle.ber_core.specs.Der.{encoding, encodings}
use Rattle.ber_tree.specs.Tree.{Tree, Trees, none, more}
use Rattle.ber_leaf.specs.Profile.{profile_two}
use Rattle.ill_tables.specs.declared.part.Presence.{Presence}
use Rattle.ill_tables.specs.declared.part.Row.{Row}
use Rattle.ill_schema.specs.Content.{Content, simple, Entries, no_entries}
use Rattle.ill_schema.specs.Normal.{normal_tree, normal_trees, normal_items}
use Rattle.ill_schema.specs.Presence.{is_default, default_value}
use Rattle.ill_tables.specs.Table.{kind_of}
use Rattle.ill_schema.specs.Tagging.{tagging}
use Rattle.ill_schema.specs.Value.{entries_of, items_of}
use Rattle.ill_refusals.proofs.OpenElements.{same_simple}
use Rattle.ill_grammar.specs.Contents.{absent_content}
use Rattle.ill_grammar.specs.Written.{entry_octets}

-- the default of a row is its default
pub default_is : (row : Row) (d : ℤ) → row.presence ≡ Presence.Default d → is_default row (simple (default_value (kind_of row.node) d)) ≡ true
default_is row d e = rw e (same_simple (kind_of row.node) d)

-- the tree before others, unless it is a default's
abbrev unless_default : Bool → Tree → Trees → Trees
unless_default b T ts = elim b as (λ _. Trees) [ true ↦ ts | false ↦ more T ts ]

-- a row that has no element adds no tree
absent_first : (row : Row) (es : List (Option Content)) (rows : List Row) → normal_trees (entries_of (absent_content row ∷ es)) (row ∷ rows) ≡ normal_trees (entries_of es) rows
absent_first row es rows = one row.presence refl
  where
    one : (pr : Presence) → row.presence ≡ pr → normal_trees (entries_of (absent_content row ∷ es)) (row ∷ rows) ≡ normal_trees (entries_of es) rows
    one (Presence.Default d) e =
        let c = simple (default_value (kind_of row.node) d) in
        let is : absent_content row ≡ Some c = rw e refl in
        ap (λ x. normal_trees (entries_of (x ∷ es)) (row ∷ rows)) is
        ∙ ap (λ b. unless_default b (normal_tree c row.node (tagging profile_two row)) (normal_trees (entries_of es) rows)) (default_is row d e)
    one _ e = rw e refl

-- rows that are passed add none
passed : (n r : ℕ) (rows : List Row) (es : List (Option Content)) → n ≤ r
    → normal_trees (entries_of (map absent_content (drop n (take r rows)) ++ es)) (drop n rows) ≡ normal_trees (entries_of es) (drop r rows)
passed zero zero rows es h = refl
passed (suc n) zero rows es h = absurd (omega arith)
passed zero (suc r) [] es h = refl
passed (suc n) (suc r) [] es h = refl
passed zero (suc r) (row ∷ rows) es h = absent_first row (map absent_content (take r rows) ++ es) rows ∙ passed zero r rows es (omega arith)
passed (suc n) (suc r) (row ∷ rows) es h = passed n r rows es (omega arith)

-- rows that have no elements have no trees
all_absent : (rows : List Row) → normal_trees (entries_of (map absent_content rows)) rows ≡ none
all_absent [] = refl
all_absent (row ∷ rows) = absent_first row (map absent_content rows) rows ∙ all_absent rows

-- nor do they add any after other entries
all_behind : (es : List (Option Content)) (rows : List Row) → normal_trees (entries_of (es ++ map absent_content (drop (length es) rows))) rows ≡ normal_trees (entries_of es) rows
all_behind [] rows = all_absent rows
all_behind (None ∷ es) [] = refl
all_behind (Some c ∷ es) [] = refl
all_behind (None ∷ es) (row ∷ rows) = all_behind es rows
all_behind (Some c ∷ es) (row ∷ rows) =
    ap (unless_default (is_default row c) (normal_tree c row.node (tagging profile_two row))) (all_behind es rows)

-- rows without an element at the end add no tree
pub normal_ended : (rows : List Row) (n : ℕ) (es : List (Option Content)) → length es ≡ n
    → normal_trees (entries_of (es ++ map absent_content (drop n rows))) rows ≡ normal_trees (entries_of es) rows
normal_ended rows n es len = ap (λ k. normal_trees (entries_of (es ++ map absent_content (drop k rows))) rows) (sym len) ∙ all_behind es rows

-- the octets of an entry before others
entry_first : (row : Row) (c : Content) (ts : Trees) → encodings (unless_default (is_default row c) (normal_tree c row.node (tagging profile_two row)) ts) ≡ entry_octets row c ++ encodings ts
entry_first row c ts = one (is_default row c) (normal_tree c row.node (tagging profile_two row))
  where
    one : (b : Bool) (T : Tree) → encodings (unless_default b T ts) ≡ elim b as (λ _. List ℕ) [ true ↦ [] | false ↦ encoding T ] ++ encodings ts
    one true T = refl
    one false T = refl

-- without rows there are no trees
no_rows : (es : Entries) → normal_trees es [] ≡ none
no_rows no_entries = refl
no_rows _ = refl

-- the octets of entries after others
entries_behind : (xs ys : List (Option Content)) (rows : List Row)
    → encodings (normal_trees (entries_of (xs ++ ys)) rows) ≡ encodings (normal_trees (entries_of xs) rows) ++ encodings (normal_trees (entries_of ys) (drop (length xs) rows))
entries_behind [] ys rows = refl
entries_behind (None ∷ xs) ys [] = ap encodings (sym (no_rows (entries_of ys)))
entries_behind (Some c ∷ xs) ys [] = ap encodings (sym (no_rows (entries_of ys)))
entries_behind (None ∷ xs) ys (row ∷ rows) = entries_behind xs ys rows
entries_behind (Some c ∷ xs) ys (row ∷ rows) =
    let rest = encodings (normal_trees (entries_of ys) (drop (length xs) rows)) in
    entry_first row c (normal_trees (entries_of (xs ++ ys)) rows)
    ∙ ap (λ z. entry_octets row c ++ z) (entries_behind xs ys rows)
    ∙ sym (append_assoc (entry_octets row c) (encodings (normal_trees (entries_of xs) rows)) rest)
    ∙ ap (λ z. z ++ rest) (sym (entry_first row c (normal_trees (entries_of xs) rows)))

-- the octets of an entry of a row
one_entry : (rows : List Row) (r : ℕ) (row : Row) (c : Content) → slice_get rows r ≡ Some row → encodings (normal_trees (entries_of (Some c ∷ [])) (drop r rows)) ≡ entry_octets row c
one_entry [] r row c e = absurd cc
one_entry (x ∷ rows) (suc r) row c e = one_entry rows r row c e
one_entry (x ∷ rows) zero row c e =
    let q : x ≡ row = cc in
    entry_first x c none ∙ append-nil (entry_octets x c) ∙ ap (λ y. entry_octets y c) q

-- an entry of a row adds its octets, after rows that are passed; a default has none
pub normal_added : (rows : List Row) (n r : ℕ) (row : Row) (es : List (Option Content)) (c : Content) → length es ≡ n → n ≤ r → slice_get rows r ≡ Some row
    → encodings (normal_trees (entries_of (es ++ (map absent_content (drop n (take r rows)) ++ Some c ∷ []))) rows)
    ≡ encodings (normal_trees (entries_of es) rows) ++ entry_octets row c
normal_added rows n r row es c len h is =
    entries_behind es (map absent_content (drop n (take r rows)) ++ Some c ∷ []) rows
    ∙ ap (λ z. encodings (normal_trees (entries_of es) rows) ++ z)
    (ap (λ k. encodings (normal_trees (entries_of (map absent_content (drop n (take r rows)) ++ Some c ∷ [])) (drop k rows))) len
    ∙ ap encodings (passed n r rows (Some c ∷ []) h) ∙ one_entry rows r row c is)

-- an item adds its octets
pub normal_item_added : (cs : List Content) (c : Content) (row : Row) (rows : List Row)
    → encodings (normal_items (items_of (cs ++ c ∷ [])) (row ∷ rows)) ≡ encodings (normal_items (items_of cs) (row ∷ rows)) ++ encoding (normal_tree c row.node (tagging profile_two row))
normal_item_added [] c row rows = append-nil (encoding (normal_tree c row.node (tagging profile_two row)))
normal_item_added (d ∷ cs) c row rows =
    let T = normal_tree d row.node (tagging profile_two row) in
    ap (λ z. encoding T ++ z) (normal_item_added cs c row rows) ∙ sym (append_assoc (encoding T) _ _)
