-- An APDU of profile 2 is shown alike as one of the module profile.
use Rattle.std.proofs.Common.{◌≡◌, ℕ, zero, suc, ◌-◌, Bool, true, List, [], ◌∷◌, ◌++◌, drop, Some, None, codes, decimal, refl, sym, ap, ap₂, subst, ◌∙◌, slice_get}
use Rattle.std.specs.Prelude.{if◌then◌else◌}
use Rattle.ber_leaf.specs.Profile.{profile_two, profile_three}
use Rattle.ill_tables.specs.declared.node.Kind.{Kind}
use Rattle.ill_tables.specs.declared.node.NodeId.{NodeId}
use Rattle.ill_tables.specs.declared.node.NodeId.TheVariants.{Conditional, IllApdu}
use Rattle.ill_tables.specs.declared.part.Row.{Row}
use Rattle.ill_schema.specs.Apdu.{Apdu}
use Rattle.ill_schema.specs.Content.{Content, simple, sequence, list, alternative, foreign, Entries, no_entries, absent, present, Items, no_items, item}
use Rattle.ill_schema.specs.Fits.{Fits, FitRows, FitItems, FitsApdu}
use Rattle.ill_schema.specs.Lift.{added_entries, lift, lift_apdu, lift_entries, lift_items}
use Rattle.ill_schema.specs.Presence.{IsCarried}
use Rattle.ill_tables.specs.Table.{kind_of, rows_of, twin}
use Rattle.ill_schema.proofs.Twins.{all_stand, item_carried, stand_at, stands}
use Rattle.ill_tables.specs.Names.{node_or_left_out, row_name, row_node}
use Rattle.ill_text.specs.Shown.{Place, entry_lines, is_empty, item_lines, item_of, line, lines_of, part, shown_text, shown_text_in, within}

abbrev at_node : List ℕ → List ℕ → NodeId → Place
at_node path name node = record { path = path; name = name; node = node }

-- the rows of profile 2 have their names in the module profile
name_stays : (node : NodeId) (i : ℕ) (row : Row) → slice_get (rows_of node) i ≡ Some row → row_name (twin node) i ≡ row_name node i
name_stays Conditional zero row e = refl
name_stays Conditional (suc zero) row e = refl
name_stays Conditional (suc (suc zero)) row e = refl
name_stays Conditional (suc (suc (suc i))) row e = absurd cc
name_stays _ i row e = refl

-- and what is carried in them is of the twin's type
node_stays : (node : NodeId) (i : ℕ) (row : Row) → slice_get (rows_of node) i ≡ Some row → IsCarried row.presence → row_node (twin node) i ≡ twin (row_node node i)
node_stays node i row e carried =
    let at = stand_at (rows_of node) (rows_of (twin node)) i row (all_stand node) e in
    ap node_or_left_out at.1 ∙ (stands row at.0 at.2 carried).node ∙ sym (ap (λ o. twin (node_or_left_out o)) e)

part_stays : (node : NodeId) (path name : List ℕ) (i : ℕ) (row : Row) → slice_get (rows_of node) i ≡ Some row → IsCarried row.presence
    → part (at_node path name (twin node)) i ≡ at_node (within path (row_name node i)) (row_name node i) (twin (row_node node i))
part_stays node path name i row e carried = ap₂ (λ (x : List ℕ) (n : NodeId). at_node (within path x) x n) (name_stays node i row e) (node_stays node i row e carried)

-- the first of the rows from row i on
at_drop : (rows : List Row) (i : ℕ) (row : Row) (behind : List Row) → drop i rows ≡ row ∷ behind → slice_get rows i ≡ Some row
at_drop [] zero row behind e = absurd cc
at_drop [] (suc i) row behind e = absurd cc
at_drop (r ∷ rows) zero row behind e = let q : r ≡ row = cc in ap Some q
at_drop (r ∷ rows) (suc i) row behind e = at_drop rows i row behind e

drop_next : (rows : List Row) (i : ℕ) (row : Row) (behind : List Row) → drop i rows ≡ row ∷ behind → drop (suc i) rows ≡ behind
drop_next [] zero row behind e = absurd cc
drop_next [] (suc i) row behind e = absurd cc
drop_next (r ∷ rows) zero row behind e = cc
drop_next (r ∷ rows) (suc i) row behind e = drop_next rows i row behind e

added_lines : (node : NodeId) (p : Place) (i : ℕ) → entry_lines p i (added_entries node) ≡ []
added_lines Conditional p i = refl
added_lines _ p i = refl

added_empty : (node : NodeId) → is_empty (added_entries node) ≡ true
added_empty Conditional = refl
added_empty _ = refl

empty_stays : (es others : Entries) (rows : List Row) → is_empty others ≡ true → FitRows profile_two es rows → is_empty (lift_entries es rows others) ≡ is_empty es
empty_stays no_entries others rows e f = e
empty_stays (absent es) others [] e f = absurd f
empty_stays (absent es) others (row ∷ rows) e f = empty_stays es others rows e f.1
empty_stays (present c es) others [] e f = absurd f
empty_stays (present c es) others (row ∷ rows) e f = refl

-- a value in a row of profile 2, if it has the lines of the lifted one in the row's node
row_stays : (c : Content) (node : NodeId) (path name : List ℕ) (i : ℕ) (row : Row) → slice_get (rows_of node) i ≡ Some row → IsCarried row.presence
    → lines_of (at_node (within path (row_name node i)) (row_name node i) (twin row.node)) (lift c row.node) ≡ lines_of (at_node (within path (row_name node i)) (row_name node i) row.node) c
    → lines_of (part (at_node path name (twin node)) i) (lift c row.node) ≡ lines_of (part (at_node path name node) i) c
row_stays c node path name i row e carried h =
    let own : row_node node i ≡ row.node = ap node_or_left_out e in
    ap (λ (p : Place). lines_of p (lift c row.node)) (part_stays node path name i row e carried)
    ∙ ap (λ (n : NodeId). lines_of (at_node (within path (row_name node i)) (row_name node i) (twin n)) (lift c row.node)) own
    ∙ h
    ∙ ap (λ (n : NodeId). lines_of (at_node (within path (row_name node i)) (row_name node i) n) c) (sym own)

abbrev item_path : List ℕ → ℕ → List ℕ
item_path path i = path ++ codes "[" ++ decimal i ++ codes "]"

-- the same of an item
item_stays : (c : Content) (node : NodeId) (path name : List ℕ) (i : ℕ) (row : Row) → slice_get (rows_of node) 0 ≡ Some row → IsCarried row.presence
    → lines_of (at_node (item_path path i) name (twin row.node)) (lift c row.node) ≡ lines_of (at_node (item_path path i) name row.node) c
    → lines_of (item_of (at_node path name (twin node)) i) (lift c row.node) ≡ lines_of (item_of (at_node path name node) i) c
item_stays c node path name i row e carried h =
    let own : row_node node 0 ≡ row.node = ap node_or_left_out e in
    ap (λ (n : NodeId). lines_of (at_node (item_path path i) name n) (lift c row.node)) (node_stays node 0 row e carried ∙ ap twin own)
    ∙ h
    ∙ ap (λ (n : NodeId). lines_of (at_node (item_path path i) name n) c) (sym own)

mutual
  lines_stay : (c : Content) (node : NodeId) (path name : List ℕ) → Fits profile_two c node → lines_of (at_node path name (twin node)) (lift c node) ≡ lines_of (at_node path name node) c
  lines_stay (simple v) node path name f = refl
  lines_stay (sequence es) node path name f =
      ap₂ (λ (b : Bool) (text : List ℕ). if b then line path (codes "{}") else text) (empty_stays es (added_entries node) (rows_of node) (added_empty node) f.1)
      (entries_stay es node path name 0 (rows_of node) refl f.1)
  lines_stay (list is) node path name f = lists_stay is node path name (rows_of node) refl f.0 f.1
  lines_stay (alternative n c) node path name f =
      let row = f.0 in
      ap (λ o. lines_of (part (at_node path name (twin node)) n) (elim o as (λ _. Content) [ Some x ↦ lift c x.node | None ↦ c ])) f.1.1
      ∙ row_stays c node path name n row f.1.1 f.1.2 (lines_stay c row.node (within path (row_name node n)) (row_name node n) f.2)
  lines_stay (foreign T) node path name f = refl

  entries_stay : (es : Entries) (node : NodeId) (path name : List ℕ) (i : ℕ) (rows : List Row) → drop i (rows_of node) ≡ rows → FitRows profile_two es rows
      → entry_lines (at_node path name (twin node)) i (lift_entries es rows (added_entries node)) ≡ entry_lines (at_node path name node) i es
  entries_stay no_entries node path name i rows e f = added_lines node (at_node path name (twin node)) i
  entries_stay (absent es) node path name i [] e f = absurd f
  entries_stay (absent es) node path name i (row ∷ rows) e f = entries_stay es node path name (suc i) rows (drop_next (rows_of node) i row rows e) f.1
  entries_stay (present c es) node path name i [] e f = absurd f
  entries_stay (present c es) node path name i (row ∷ rows) e f =
      ap₂ (λ (x y : List ℕ). x ++ y)
      (row_stays c node path name i row (at_drop (rows_of node) i row rows e) f.0 (lines_stay c row.node (within path (row_name node i)) (row_name node i) f.1))
      (entries_stay es node path name (suc i) rows (drop_next (rows_of node) i row rows e) f.2)

  lists_stay : (is : Items) (node : NodeId) (path name : List ℕ) (rows : List Row) → rows_of node ≡ rows → kind_of node ≡ Kind.SeqOf → FitItems profile_two is rows
      → lines_of (at_node path name (twin node)) (list (lift_items is rows)) ≡ lines_of (at_node path name node) (list is)
  lists_stay no_items node path name rows e k f = refl
  lists_stay (item c is) node path name [] e k f = absurd (let q : None ≡ Some f.0 = f.1 in cc)
  lists_stay (item c is) node path name (row ∷ rows) e k f =
      let q : Some row ≡ Some f.0 = f.1 in
      let same : f.0 ≡ row = cc in
      let first = ap (λ (xs : List Row). slice_get xs 0) e in
      ap₂ (λ (x y : List ℕ). x ++ y)
      (item_stays c node path name 0 row first (item_carried node row k first) (lines_stay c row.node (item_path path 0) name (subst (λ (x : Row). Fits profile_two c x.node) same f.2)))
      (items_stay is node path name 1 (row ∷ rows) e k f.3)

  items_stay : (is : Items) (node : NodeId) (path name : List ℕ) (i : ℕ) (rows : List Row) → rows_of node ≡ rows → kind_of node ≡ Kind.SeqOf → FitItems profile_two is rows
      → item_lines (at_node path name (twin node)) i (lift_items is rows) ≡ item_lines (at_node path name node) i is
  items_stay no_items node path name i rows e k f = refl
  items_stay (item c is) node path name i [] e k f = absurd (let q : None ≡ Some f.0 = f.1 in cc)
  items_stay (item c is) node path name i (row ∷ rows) e k f =
      let q : Some row ≡ Some f.0 = f.1 in
      let same : f.0 ≡ row = cc in
      let first = ap (λ (xs : List Row). slice_get xs 0) e in
      ap₂ (λ (x y : List ℕ). x ++ y)
      (item_stays c node path name i row first (item_carried node row k first) (lines_stay c row.node (item_path path i) name (subst (λ (x : Row). Fits profile_two c x.node) same f.2)))
      (items_stay is node path name (suc i) (row ∷ rows) e k f.3)

-- the text of an APDU: its row has the same name, and its body the same lines
pub text_stays : (i : ℕ) (a : Apdu) → FitsApdu profile_two a → shown_text_in profile_three i (lift_apdu a) ≡ shown_text i a
text_stays i a f =
    let n = a.number - 1 in
    let row = f.1.0 in
    let e = f.1.1.1 in
    let own : row_node IllApdu n ≡ row.node = ap node_or_left_out e in
    let into : row_node (twin IllApdu) n ≡ twin row.node = node_stays IllApdu n row e f.1.1.2 ∙ ap twin own in
    let body : lines_of (at_node [] [] (row_node (twin IllApdu) n)) (lift_apdu a).body ≡ lines_of (at_node [] [] (row_node IllApdu n)) a.body =
    ap (λ o. lines_of (at_node [] [] (row_node (twin IllApdu) n)) (elim o as (λ _. Content) [ Some x ↦ lift a.body x.node | None ↦ a.body ])) e
    ∙ ap (λ (m : NodeId). lines_of (at_node [] [] m) (lift a.body row.node)) into
    ∙ lines_stay a.body row.node [] [] f.1.2
    ∙ ap (λ (m : NodeId). lines_of (at_node [] [] m) a.body) (sym own) in
    ap₂ (λ (name lines : List ℕ). codes "message " ++ decimal i ++ codes " " ++ name ++ codes "\n" ++ lines) (name_stays IllApdu n row e) body
