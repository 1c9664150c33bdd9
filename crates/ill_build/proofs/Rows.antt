-- What is built of rows and of items, one after another.
use Rattle.std.proofs.Common.{◌≡◌, ℕ, suc, ◌≤◌, Bool, true, false, List, [], ◌∷◌, ◌++◌, length, drop, Option, Some, None, refl, sym, ap, subst, ◌∙◌, arith, append_assoc, append-nil, slice_get, IsTrue, ℤ}
use Rattle.std.specs.Prelude.{nat_le, unwrap_or, pos}
use Rattle.std.proofs.lemmas.Bool.Decides.{nat_tests}
use Rattle.std.specs.Cmp.{signed_Decides}
use Rattle.std.specs.Ordering.{int_eq}
use Rattle.ber_core.specs.Der.{encoding, encodings}
use Rattle.ber_tree.specs.Identifier.{Tag, identifier}
use Rattle.ber_tree.specs.Length.{shortest_length}
use Rattle.ber_tree.specs.Tree.{Trees, constructed, more}
use Rattle.ber_tree.specs.declared.class.Class.{Class}
use Rattle.ber_leaf.specs.Profile.{Profile}
use Rattle.ber_leaf.specs.Simple.{flag, whole}
use Rattle.json.specs.Json.{Json}
use Rattle.json.specs.Find.{get}
use Rattle.json.specs.Value.{value_view, items_view}
use Rattle.json.specs.declared.value.Value.{Value}
use Rattle.ill_schema.specs.Content.{Content, simple, sequence, list, Entries, no_entries, absent, present, Items, no_items, item}
use Rattle.ill_schema.specs.Elements.{element_tree, row_tree, tag_at, trees_unless}
use Rattle.ill_schema.specs.Fits.{Fits, FitRows}
use Rattle.ill_schema.specs.Normal.{normal_items, normal_trees}
use Rattle.ill_schema.specs.Presence.{IsCarried, MayLack, default_value, is_default, is_default_of, same_value}
use Rattle.ill_schema.proofs.MeansFits.{row_default_fits}
use Rattle.ill_schema.proofs.Trees.{sequence_tree, list_tree}
use Rattle.ill_schema.proofs.Unique.{same_value-is}
use Rattle.ill_tables.specs.Names.{node_or_left_out, row_name, row_node}
use Rattle.ill_tables.specs.Table.{kind_of, rows_of}
use Rattle.ill_tables.specs.declared.node.Kind.{Kind}
use Rattle.ill_tables.specs.declared.node.LeafKind.{LeafKind}
use Rattle.ill_tables.specs.declared.node.NodeId.{NodeId}
use Rattle.ill_tables.specs.declared.node.NodeId.TheVariants.{Boolean}
use Rattle.ill_tables.specs.declared.part.Row.{Row}
use Rattle.ill_tables.specs.declared.part.Presence.{Presence}
use Rattle.ill_build.specs.Said.{EntriesSay, Given, IsDefaultAt, IsDefaultOf, Says}
use Rattle.ill_build.specs.code.Built.{BuiltEntries, BuiltItems, BuiltPresent, BuiltRow}
use Rattle.ill_build.proofs.Lists.{drop_at, past}

-- ---- defaults

same_simple : (k : Kind) (x : ℤ) → same_value (default_value k x) (default_value k x) ≡ true
same_simple (Kind.Leaf LeafKind.Boolean) x = same_flag (int_eq x (pos 1))
  where
    same_flag : (b : Bool) → same_value (flag b) (flag b) ≡ true
    same_flag true = refl
    same_flag false = refl
same_simple _ x = (signed_Decides x x).1 refl

pub is_the_default : (row : Row) (c : Content) → IsDefaultOf row c → is_default row c ≡ true
is_the_default row c h = at row.presence h
  where
    at : (pr : Presence) → IsDefaultAt pr row.node c → is_default_of pr (kind_of row.node) c ≡ true
    at (Presence.Default d) e = ap (λ x. is_default_of (Presence.Default d) (kind_of row.node) x) e ∙ same_simple (kind_of row.node) d
    at Presence.Must e = absurd e
    at Presence.May e = absurd e
    at Presence.LeftOut e = absurd e

pub default_is_the : (row : Row) (c : Content) → is_default row c ≡ true → IsDefaultOf row c
default_is_the row c h = at row.presence c h
  where
    at : (pr : Presence) (x : Content) → is_default_of pr (kind_of row.node) x ≡ true → IsDefaultAt pr row.node x
    at (Presence.Default d) (simple v) e = ap simple (same_value-is v _ e)
    at _ _ e = absurd cc

carried_default : (row : Row) (c : Content) → IsDefaultOf row c → IsCarried row.presence
carried_default row c h = at row.presence h
  where
    at : (pr : Presence) → IsDefaultAt pr row.node c → IsCarried pr
    at (Presence.Default d) e = tt
    at Presence.Must e = tt
    at Presence.May e = tt
    at Presence.LeftOut e = absurd e

-- but for a BOOLEAN, a default is a whole number
pub default_whole : (k : Kind) (d : ℤ) → (k ≡ Kind.Leaf LeafKind.Boolean → ⊥) → default_value k d ≡ whole d
default_whole (Kind.Leaf LeafKind.Boolean) d no_flag = absurd (no_flag refl)
default_whole _ d no_flag = refl

-- the default is built of nothing
pub default_built : (p : Profile) (name : List ℕ) (row : Row) (node : NodeId) (i : ℕ) (j : Json) (old : List ℕ) (c : Content) → slice_get (rows_of node) i ≡ Some row → IsDefaultOf row c → Says name row.node j c
    → BuiltPresent p name row j old old
default_built p name row node i j old c at e s =
    let d = is_the_default row c e in
    (c, s, row_default_fits p c node i row at d, subst (λ b. old ≡ old ++ encodings (trees_unless b (row_tree row c))) (sym d) (sym (append-nil old)))

-- any other value by its element
pub other_built : (p : Profile) (name : List ℕ) (row : Row) (j : Json) (old new : List ℕ) → ((c : Content) → IsDefaultOf row c → Says name row.node j c → ⊥) → BuiltRow p name row j old new → BuiltPresent p name row j old new
other_built p name row j old new other m = by (is_default row m.0) refl
  where
    by : (b : Bool) → is_default row m.0 ≡ b → BuiltPresent p name row j old new
    by true e = absurd (other m.0 (default_is_the row m.0 e) m.1)
    by false e = (m.0, m.1, m.2, m.3 ∙ ap (λ x. old ++ x) (sym (append-nil (encoding (row_tree row m.0)))) ∙ ap (λ b. old ++ encodings (trees_unless b (row_tree row m.0))) (sym e))

-- ---- one row

-- the trees of an entry, and those after it
entry_trees : (row : Row) (rows : List Row) (c : Content) (es : Entries) → encodings (normal_trees (present c es) (row ∷ rows)) ≡ encodings (trees_unless (is_default row c) (row_tree row c)) ++ encodings (normal_trees es rows)
entry_trees row rows c es = by (is_default row c)
  where
    by : (b : Bool) → encodings (elim b as (λ _. Trees) [ true ↦ normal_trees es rows | false ↦ more (row_tree row c) (normal_trees es rows) ]) ≡ encodings (trees_unless b (row_tree row c)) ++ encodings (normal_trees es rows)
    by true = refl
    by false = ap (λ x. x ++ encodings (normal_trees es rows)) (sym (append-nil (encoding (row_tree row c))))

-- one entry, by what it appends
entry_built : (p : Profile) (node : NodeId) (i : ℕ) (row : Row) (j : Json) (old new : List ℕ) (c : Content) → IsCarried row.presence → Fits p c row.node
    → Given (get (row_name node i) j) (λ inner. Says (row_name node i) row.node inner c) (IsDefaultOf row c) → new ≡ old ++ encodings (trees_unless (is_default row c) (row_tree row c))
    → BuiltEntries p node i (row ∷ []) j old new
entry_built p node i row j old new c carried fits says e =
    (present c no_entries, (says, tt), (carried, fits, tt), e ∙ ap (λ x. old ++ x) (sym (entry_trees row [] c no_entries ∙ append-nil (encodings (trees_unless (is_default row c) (row_tree row c))))))

pub lacking : (p : Profile) (node : NodeId) (i : ℕ) (row : Row) (j : Json) (old : List ℕ) → MayLack row.presence → get (row_name node i) j ≡ None → BuiltEntries p node i (row ∷ []) j old old
lacking p node i row j old may none = (absent no_entries, (none, tt), (may, tt), sym (append-nil old))

-- a row has its default
pub lacking_default : (p : Profile) (node : NodeId) (i : ℕ) (row : Row) (d : ℤ) (j : Json) (old : List ℕ) → slice_get (rows_of node) i ≡ Some row → row.presence ≡ Presence.Default d → get (row_name node i) j ≡ None
    → BuiltEntries p node i (row ∷ []) j old old
lacking_default p node i row d j old at e none =
    let c = simple (default_value (kind_of row.node) d) in
    let is : IsDefaultOf row c = subst (λ x. IsDefaultAt x row.node c) (sym e) refl in
    let t = is_the_default row c is in
    entry_built p node i row j old old c (carried_default row c is) (row_default_fits p c node i row at t)
    (subst (λ o. Given o (λ x. Says (row_name node i) row.node x c) (IsDefaultOf row c)) (sym none) is)
    (subst (λ b. old ≡ old ++ encodings (trees_unless b (row_tree row c))) (sym t) (sym (append-nil old)))

pub given : (p : Profile) (node : NodeId) (i : ℕ) (row : Row) (j inner : Json) (old new : List ℕ) → IsCarried row.presence → get (row_name node i) j ≡ Some inner
    → BuiltPresent p (row_name node i) row inner old new → BuiltEntries p node i (row ∷ []) j old new
given p node i row j inner old new carried some m =
    entry_built p node i row j old new m.0 carried m.2 (subst (λ o. Given o (λ x. Says (row_name node i) row.node x m.0) (IsDefaultOf row m.0)) (sym some) m.1) m.3

-- ---- rows

joined : (p : Profile) (node : NodeId) (i : ℕ) (row : Row) (rest : List Row) (j : Json) (old mid new : List ℕ) → BuiltEntries p node i (row ∷ []) j old mid → BuiltEntries p node (suc i) rest j mid new
    → BuiltEntries p node i (row ∷ rest) j old new
joined p node i row rest j old mid new a b = by a.0 a.1 a.2 a.3
  where
    by : (es : Entries) → EntriesSay node i (row ∷ []) j es → FitRows p es (row ∷ []) → mid ≡ old ++ encodings (normal_trees es (row ∷ [])) → BuiltEntries p node i (row ∷ rest) j old new
    by no_entries s f e = absurd s
    by (absent no_entries) s f e = (absent b.0, (s.0, b.1), (f.0, b.2), b.3 ∙ ap (λ o. o ++ encodings (normal_trees b.0 rest)) (e ∙ append-nil old))
    by (absent (absent es)) s f e = absurd s.1
    by (absent (present c es)) s f e = absurd s.1
    by (present c no_entries) s f e =
        let own = encodings (trees_unless (is_default row c) (row_tree row c)) in
        let start : mid ≡ old ++ own = e ∙ ap (λ x. old ++ x) (entry_trees row [] c no_entries ∙ append-nil own) in (
          present c b.0,
          (s.0, b.1),
          (f.0, f.1, b.2),
          b.3 ∙ ap (λ o. o ++ encodings (normal_trees b.0 rest)) start ∙ append_assoc old own (encodings (normal_trees b.0 rest)) ∙ ap (λ x. old ++ x) (sym (entry_trees row rest c b.0)),
        )
    by (present c (absent es)) s f e = absurd s.1
    by (present c (present d es)) s f e = absurd s.1

-- a row before others
pub row_built : (p : Profile) (node : NodeId) (i : ℕ) (row : Row) (j : Json) (old mid new : List ℕ) → slice_get (rows_of node) i ≡ Some row → BuiltEntries p node i (row ∷ []) j old mid
    → BuiltEntries p node (suc i) (drop (suc i) (rows_of node)) j mid new → BuiltEntries p node i (drop i (rows_of node)) j old new
row_built p node i row j old mid new at a b =
    subst (λ rs. BuiltEntries p node i rs j old new) (sym (drop_at (rows_of node) i row at)) (joined p node i row (drop (suc i) (rows_of node)) j old mid new a b)

pub no_row_built : (p : Profile) (node : NodeId) (i : ℕ) (j : Json) (out : List ℕ) → length (rows_of node) ≤ i → BuiltEntries p node i (drop i (rows_of node)) j out out
no_row_built p node i j out h = subst (λ rs. BuiltEntries p node i rs j out out) (sym (past (rows_of node) i h)) (no_entries, tt, tt, sym (append-nil out))

-- ---- items

item_trees : (rows : List Row) (row : Row) (c : Content) (is : Items) → slice_get rows 0 ≡ Some row → encodings (normal_items (item c is) rows) ≡ encoding (row_tree row c) ++ encodings (normal_items is rows)
item_trees [] row c is e = absurd cc
item_trees (r ∷ rows) row c is e = let q : r ≡ row = cc in ap (λ x. encoding (row_tree x c) ++ encodings (normal_items is (r ∷ rows))) q

-- an item before others
pub item_built : {A : Type 0} (p : Profile) (name : List ℕ) (node : NodeId) (row : Row) (vs : List (Value A)) (k : ℕ) (v : Value A) (old mid new : List ℕ) → slice_get (rows_of node) 0 ≡ Some row → slice_get vs k ≡ Some v
    → BuiltRow p name row (value_view v) old mid → BuiltItems p name node (items_view (drop (suc k) vs)) mid new → BuiltItems p name node (items_view (drop k vs)) old new
item_built p name node row vs k v old mid new first at m b =
    let c = m.0 in
    let s : Says name (row_node node 0) (value_view v) c = subst (λ n. Says name n (value_view v) c) (sym (ap node_or_left_out first)) m.1 in
    subst (λ xs. BuiltItems p name node (items_view xs) old new) (sym (drop_at vs k v at)) (
      item c b.0,
      (s, b.1),
      (row, first, m.2, b.2),
      b.3 ∙ ap (λ o. o ++ encodings (normal_items b.0 (rows_of node))) m.3 ∙ append_assoc old (encoding (row_tree row c)) (encodings (normal_items b.0 (rows_of node)))
          ∙ ap (λ x. old ++ x) (sym (item_trees (rows_of node) row c b.0 first)),
    )

pub no_item_built : {A : Type 0} (p : Profile) (name : List ℕ) (node : NodeId) (vs : List (Value A)) (k : ℕ) (out : List ℕ) → length vs ≤ k → BuiltItems p name node (items_view (drop k vs)) out out
no_item_built p name node vs k out h = subst (λ xs. BuiltItems p name node (items_view xs) out out) (sym (past vs k h)) (no_items, tt, tt, sym (append-nil out))

-- how many rows a type of this kind has: a list the one of its items
abbrev has_row : Kind → ℕ → Bool
has_row Kind.SeqOf n = nat_le 1 n
has_row _ n = true

rows_enough : (node : NodeId) → IsTrue (has_row (kind_of node) (length (rows_of node)))
rows_enough Boolean = refl
rows_enough _ = refl

-- a list has the row of its items
pub list_row : (node : NodeId) → kind_of node ≡ Kind.SeqOf → 1 ≤ length (rows_of node)
list_row node e = let q : nat_le 1 (length (rows_of node)) ≡ true = subst (λ k. IsTrue (has_row k (length (rows_of node)))) e (rows_enough node) in grind (arith, nat_tests)

-- ---- elements

-- the element that was opened and closed round a body
pub closed : (old opened full new body : List ℕ) (start : ℕ) (tag : Tag) → opened ≡ old ++ (identifier tag true ++ 0 ∷ []) → start ≡ length opened → full ≡ opened ++ body
    → ((before inner : List ℕ) (u : Tag) (form : Bool) (x : ℕ) → full ≡ before ++ (identifier u form ++ x ∷ inner) → start ≡ length (before ++ (identifier u form ++ x ∷ []))
    → new ≡ before ++ (identifier u form ++ (shortest_length (length inner) ++ inner)))
    → new ≡ old ++ (identifier tag true ++ (shortest_length (length body) ++ body))
closed old opened full new body start tag o s e close =
    let split : full ≡ old ++ (identifier tag true ++ 0 ∷ body) =
    e ∙ ap (λ x. x ++ body) o ∙ append_assoc old (identifier tag true ++ 0 ∷ []) body ∙ ap (λ x. old ++ x) (append_assoc (identifier tag true) (0 ∷ []) body) in
    close old body tag true 0 split (s ∙ ap length o)

pub sequence_tag_of : (r : Option (Class × ℕ)) (node : NodeId) (es : Entries) → element_tree r node (sequence es) ≡ constructed (tag_at (unwrap_or r (Class.Universal, 16))) (normal_trees es (rows_of node))
sequence_tag_of None node es = sequence_tree None node es
sequence_tag_of (Some t) node es = sequence_tree (Some t) node es

pub list_tag_of : (r : Option (Class × ℕ)) (node : NodeId) (is : Items) → element_tree r node (list is) ≡ constructed (tag_at (unwrap_or r (Class.Universal, 16))) (normal_items is (rows_of node))
list_tag_of None node is = list_tree None node is
list_tag_of (Some t) node is = list_tree (Some t) node is
