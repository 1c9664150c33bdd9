-- The lines that are put for marks.
use Rattle.std.proofs.Common.{◌≡◌, ◌⊎◌, ℕ, suc, ◌+◌, ◌<◌, Bool, true, false, not, ◌&&◌, List, [], ◌∷◌, ◌++◌, length, take, drop, Option, Some, None, refl, sym, ap, ap₂, ◌∙◌, inl, inr, arith, rules, append_assoc, append-nil, codes, decimal, Bor, get_or}
use Rattle.std.specs.Bool.{◌==◌}
use Rattle.std.specs.Prelude.{flat_map}
use Rattle.std.proofs.lemmas.List.Concat.{flat_map-append}
use Rattle.ill_text.specs.Shown.{escaped}
use Rattle.std.proofs.Common.{◌-◌}
use Rattle.ill_tables.specs.declared.node.NodeId.{NodeId}
use Rattle.ill_schema.specs.Content.{Content, sequence, list, Entries, no_entries, absent, present, Items, no_items, item}
use Rattle.ill_grammar.specs.Outline.{AreEntries, AreItems, IsMarked}
use Rattle.ill_grammar.specs.declared.outline.Mark.{Mark}
use Rattle.ill_grammar.specs.declared.outline.Mark.TheVariants as mark
use Rattle.ill_text.specs.Shown.{Place, entry_lines, is_empty, item_lines, item_of, line, lines_of, part, within}
use Rattle.ill_text.specs.Shown.{entry_text}
use Rattle.ill_grammar.specs.Marks.{IsEntry, is_at_end, is_there, octets_in}
use Rattle.ill_tables.specs.Names.{row_name, row_node}
use Rattle.ill_text.specs.code.FieldPaths.{head_line, place_at, place_of}
use Rattle.ill_text.specs.Shown.{shown_text_in}
use Rattle.ber_leaf.specs.Profile.{Profile}
use Rattle.ill_schema.specs.Apdu.{Apdu, root}
use Rattle.ill_text.specs.code.Sending.{Adds, Sending}
use Rattle.ill_text.specs.code.FieldPaths.{is_nothing, path_of}
use Rattle.ill_text.specs.declared.field_path.FieldPath.{FieldPath, Start, Row, Item, the_lemmas}
use Rattle.ill_text.specs.declared.field_path.FieldPlace.{FieldPlace}
use Rattle.ill_text.proofs.Sent.{adds_then, adds_as}
use Rattle.ill_grammar.proofs.MarkedValues.{no_entry, no_item, mark_step}

-- ---- paths

pub path_of-Start : path_of Start ≡ []
path_of-Start = search (rules, the_lemmas)

pub path_of-Row : (outer : Bor FieldPath) (name : Bor (List ℕ)) → path_of (Row outer name) ≡ within (path_of outer.now) name.now
path_of-Row outer name = search (rules, the_lemmas)

pub path_of-Item : (outer : Bor FieldPath) (i : ℕ) → path_of (Item outer i) ≡ path_of outer.now ++ codes "[" ++ decimal i ++ codes "]"
path_of-Item outer i = search (rules, the_lemmas)

pub within_some : (path name : List ℕ) → is_nothing path ≡ false → is_nothing name ≡ false → within path name ≡ path ++ (codes "." ++ name)
within_some [] name e f = absurd cc
within_some (a ∷ path) [] e f = absurd cc
within_some (a ∷ path) (b ∷ name) e f = refl

pub within_unnamed : (path name : List ℕ) → is_nothing name ≡ true → within path name ≡ path
within_unnamed [] [] e = refl
within_unnamed (a ∷ path) [] e = refl
within_unnamed path (b ∷ name) e = absurd cc

pub within_none : (path name : List ℕ) → is_nothing path ≡ true → within path name ≡ path ++ name
within_none [] name e = refl
within_none (a ∷ path) name e = absurd cc

pub some_name : (name : List ℕ) → false ≡ (length name == 0) → is_nothing name ≡ false
some_name [] e = absurd cc
some_name (a ∷ name) e = refl

-- ---- entries

-- the next entry, and those after it
pub record NextEntry (es : Entries) (ms : List Mark) : Type 0 where
  pub entry : Option Content
  pub later : Entries
  pub first : List Mark
  pub second : List Mark
  pub is : IsEntry entry first
  pub joined : ms ≡ first ++ second
  pub are : AreEntries later second
  pub lines : (p : Place) (i : ℕ) → entry_lines p i es ≡ entry_text (part p i) entry ++ entry_lines p (suc i) later
  pub empty : is_empty es ≡ not (is_there entry) && is_empty later

pub next_entry : (es : Entries) (ms rest : List Mark) → AreEntries es ms → is_at_end (ms ++ (mark.End ∷ rest)) ≡ false → NextEntry es ms
next_entry no_entries ms rest h e = absurd (let q : true ≡ false = ap (λ x. is_at_end (x ++ (mark.End ∷ rest))) (sym h) ∙ e in cc)
next_entry (absent es) ms rest h e = record {
  entry = None;
  later = es;
  first = mark.Absent h.0 ∷ [];
  second = h.1;
  is = (h.0, refl, h.3);
  joined = h.2;
  are = h.4;
  lines = λ p i. refl;
  empty = refl;
}
next_entry (present c es) ms rest h e = record {
  entry = Some c;
  later = es;
  first = h.0;
  second = h.1;
  is = h.3;
  joined = h.2;
  are = h.4;
  lines = λ p i. refl;
  empty = refl;
}

pub empty_lines : (p : Place) (i : ℕ) (es : Entries) → is_empty es ≡ true → entry_lines p i es ≡ []
empty_lines p i no_entries e = refl
empty_lines p i (absent es) e = empty_lines p (suc i) es e
empty_lines p i (present c es) e = absurd cc

-- so far: the entries that are left, and the lines of those before them
pub record EntriesReached (p : Place) (es : Entries) (rest left : List Mark) (i : ℕ) (some : Bool) (old new : Sending) : Type 0 where
  pub later : Entries
  pub marks : List Mark
  pub are : AreEntries later marks
  pub joined : left ≡ marks ++ (mark.End ∷ rest)
  pub text : List ℕ
  pub adds : Adds text old new
  pub whole : entry_lines p 0 es ≡ text ++ entry_lines p i later
  pub empty : is_empty es ≡ not some && is_empty later

more_empty : (a b c d e : Bool) → a ≡ not b && c → c ≡ not d && e → a ≡ not (elim b as (λ _. Bool) [ true ↦ true | false ↦ d ]) && e
more_empty a true c d e h k = h
more_empty a false c d e h k = h ∙ k

pub entries_more : (p : Place) (es : Entries) (rest left left' : List Mark) (i : ℕ) (some there some' : Bool) (a b c : Sending) → (r : EntriesReached p es rest left i some a b) → is_at_end left ≡ false
    → ((e : Option Content) (ms more : List Mark) → IsEntry e ms → left ≡ ms ++ more → (left' ≡ more) × (there ≡ is_there e) × Adds (entry_text (part p i) e) b c)
    → some' ≡ (elim some as (λ _. Bool) [ true ↦ true | false ↦ there ]) → EntriesReached p es rest left' (i + 1) some' a c
entries_more p es rest left left' i some there some' a b c r on put is =
    let n = next_entry r.later r.marks rest r.are (ap is_at_end (sym r.joined) ∙ on) in
    let all : left ≡ n.first ++ (n.second ++ (mark.End ∷ rest)) = r.joined ∙ ap (λ x. x ++ (mark.End ∷ rest)) n.joined ∙ append_assoc n.first n.second (mark.End ∷ rest) in
    let did = put n.entry n.first (n.second ++ (mark.End ∷ rest)) n.is all in
    let s : suc i ≡ i + 1 = omega arith in
    record {
      later = n.later;
      marks = n.second;
      are = n.are;
      joined = did.0;
      text = r.text ++ entry_text (part p i) n.entry;
      adds = adds_then r.text (entry_text (part p i) n.entry) a b c r.adds did.2;
      whole = r.whole ∙ ap (λ x. r.text ++ x) (n.lines p i ∙ ap (λ (k : ℕ). entry_text (part p i) n.entry ++ entry_lines p k n.later) s) ∙ sym (append_assoc r.text (entry_text (part p i) n.entry) (entry_lines p (i + 1) n.later));
      empty = more_empty (is_empty es) some (is_empty r.later) (is_there n.entry) (is_empty n.later) r.empty n.empty
          ∙ ap (λ (x : Bool). not (elim some as (λ _. Bool) [ true ↦ true | false ↦ x ]) && is_empty n.later) (sym did.1) ∙ ap (λ (x : Bool). not x && is_empty n.later) (sym is);
    }

-- all entries were put
pub entries_ended : (p : Place) (es : Entries) (rest left : List Mark) (i : ℕ) (some : Bool) (a b : Sending) → EntriesReached p es rest left i some a b → is_at_end left ≡ true
    → (drop 1 left ≡ rest) × (is_empty es ≡ not some) × Adds (entry_lines p 0 es) a b
entries_ended p es rest left i some a b r end =
    let n = no_entry r.later r.marks rest r.are (ap is_at_end (sym r.joined) ∙ end) in
    let all = r.whole ∙ ap (λ x. r.text ++ entry_lines p i x) n.0 ∙ append-nil r.text in (
      ap (drop 1) (r.joined ∙ ap (λ x. x ++ (mark.End ∷ rest)) n.1),
      r.empty ∙ ap (λ x. not some && is_empty x) n.0 ∙ alone (not some),
      adds_as r.text (entry_lines p 0 es) a b (sym all) r.adds,
    )
  where
    alone : (x : Bool) → (x && true) ≡ x
    alone true = refl
    alone false = refl

pub entries_none : (p : Place) (es : Entries) (rest left ms : List Mark) (a : Sending) → Adds [] a a → AreEntries es ms → left ≡ ms ++ (mark.End ∷ rest) → EntriesReached p es rest left 0 false a a
entries_none p es rest left ms a n h e = record { later = es; marks = ms; are = h; joined = e; text = []; adds = n; whole = refl; empty = refl }

-- the lines of a sequence: those of its entries, or a line that it has none
pub sequence_some : (p : Place) (es : Entries) (a b : Sending) → is_empty es ≡ false → Adds (entry_lines p 0 es) a b → Adds (lines_of p (sequence es)) a b
sequence_some p es a b e h = adds_as (entry_lines p 0 es) (lines_of p (sequence es)) a b (rw e refl) h

pub sequence_none : (p : Place) (es : Entries) (a b c : Sending) → is_empty es ≡ true → Adds (entry_lines p 0 es) a b → Adds (line p.path (codes "{}")) b c → Adds (lines_of p (sequence es)) a c
sequence_none p es a b c e h k =
    adds_as (entry_lines p 0 es ++ line p.path (codes "{}")) (lines_of p (sequence es)) a c (ap (λ x. x ++ line p.path (codes "{}")) (empty_lines p 0 es e) ∙ rw e refl) (adds_then _ _ a b c h k)

-- ---- items

pub record NextItem (is : Items) (ms : List Mark) : Type 0 where
  pub item : Content
  pub later : Items
  pub first : List Mark
  pub second : List Mark
  pub marked : IsMarked item first
  pub joined : ms ≡ first ++ second
  pub are : AreItems later second
  pub some : is ≡ Rattle.ill_schema.specs.Content.item item later
  pub lines : (p : Place) (i : ℕ) → item_lines p i is ≡ lines_of (item_of p i) item ++ item_lines p (suc i) later

pub next_item : (is : Items) (ms rest : List Mark) → AreItems is ms → is_at_end (ms ++ (mark.End ∷ rest)) ≡ false → NextItem is ms
next_item no_items ms rest h e = absurd (let q : true ≡ false = ap (λ x. is_at_end (x ++ (mark.End ∷ rest))) (sym h) ∙ e in cc)
next_item (item c is) ms rest h e = record { item = c; later = is; first = h.0; second = h.1; marked = h.3; joined = h.2; are = h.4; some = refl; lines = λ p i. refl }

pub record ItemsReached (p : Place) (is : Items) (rest left : List Mark) (i : ℕ) (old new : Sending) : Type 0 where
  pub later : Items
  pub marks : List Mark
  pub are : AreItems later marks
  pub joined : left ≡ marks ++ (mark.End ∷ rest)
  pub text : List ℕ
  pub adds : Adds text old new
  pub whole : item_lines p 0 is ≡ text ++ item_lines p i later
  pub begun : ((i ≡ 0) × (later ≡ is) × (text ≡ [])) ⊎ ((0 < i) × ((c : Content) × (js : Items) × (is ≡ item c js)))

pub items_none : (p : Place) (is : Items) (rest left ms : List Mark) (a : Sending) → Adds [] a a → AreItems is ms → left ≡ ms ++ (mark.End ∷ rest) → ItemsReached p is rest left 0 a a
items_none p is rest left ms a n h e = record {
  later = is;
  marks = ms;
  are = h;
  joined = e;
  text = [];
  adds = n;
  whole = refl;
  begun = inl (refl, refl, refl);
}

pub items_more : (p : Place) (is : Items) (rest left left' : List Mark) (i : ℕ) (a b c : Sending) → (r : ItemsReached p is rest left i a b) → is_at_end left ≡ false
    → ((x : Content) (ms more : List Mark) → IsMarked x ms → left ≡ ms ++ more → (left' ≡ more) × Adds (lines_of (item_of p i) x) b c) → ItemsReached p is rest left' (i + 1) a c
items_more p is rest left left' i a b c r on put =
    let n = next_item r.later r.marks rest r.are (ap is_at_end (sym r.joined) ∙ on) in
    let all : left ≡ n.first ++ (n.second ++ (mark.End ∷ rest)) = r.joined ∙ ap (λ x. x ++ (mark.End ∷ rest)) n.joined ∙ append_assoc n.first n.second (mark.End ∷ rest) in
    let did = put n.item n.first (n.second ++ (mark.End ∷ rest)) n.marked all in
    let s : suc i ≡ i + 1 = omega arith in
    record {
      later = n.later;
      marks = n.second;
      are = n.are;
      joined = did.0;
      text = r.text ++ lines_of (item_of p i) n.item;
      adds = adds_then r.text (lines_of (item_of p i) n.item) a b c r.adds did.1;
      whole = r.whole ∙ ap (λ x. r.text ++ x) (n.lines p i ∙ ap (λ (k : ℕ). lines_of (item_of p i) n.item ++ item_lines p k n.later) s) ∙ sym (append_assoc r.text (lines_of (item_of p i) n.item) (item_lines p (i + 1) n.later));
      begun = inr (omega arith, begun_item r.begun n.some);
    }
  where
    begun_item : {later : Items} {text : List ℕ} {x : Content} {js : Items} → ((i ≡ 0) × (later ≡ is) × (text ≡ [])) ⊎ ((0 < i) × ((c : Content) × (ks : Items) × (is ≡ item c ks))) → later ≡ item x js
        → (c : Content) × (ks : Items) × (is ≡ item c ks)
    begun_item (inl h) e = (_, _, sym h.1 ∙ e)
    begun_item (inr h) e = h.1

-- all items were put
pub items_end : (p : Place) (is : Items) (rest left : List Mark) (i : ℕ) (a b : Sending) → ItemsReached p is rest left i a b → is_at_end left ≡ true → drop 1 left ≡ rest
items_end p is rest left i a b r end = let n = no_item r.later r.marks rest r.are (ap is_at_end (sym r.joined) ∙ end) in ap (drop 1) (r.joined ∙ ap (λ x. x ++ (mark.End ∷ rest)) n.1)

pub items_some : (p : Place) (is : Items) (rest left : List Mark) (i : ℕ) (a b : Sending) → ItemsReached p is rest left i a b → is_at_end left ≡ true → (i ≡ 0 → ⊥) → Adds (lines_of p (list is)) a b
items_some p is rest left i a b r end some =
    let n = no_item r.later r.marks rest r.are (ap is_at_end (sym r.joined) ∙ end) in
    let all : item_lines p 0 is ≡ r.text = r.whole ∙ ap (λ x. r.text ++ item_lines p i x) n.0 ∙ append-nil r.text in
    go r.begun all
  where
    whole : (js : Items) → ((c : Content) × (ks : Items) × (js ≡ item c ks)) → lines_of p (list js) ≡ item_lines p 0 js
    whole js h = ap (λ x. lines_of p (list x)) h.2 ∙ sym (ap (λ x. item_lines p 0 x) h.2)

    go : ((i ≡ 0) × (r.later ≡ is) × (r.text ≡ [])) ⊎ ((0 < i) × ((c : Content) × (ks : Items) × (is ≡ item c ks))) → item_lines p 0 is ≡ r.text → Adds (lines_of p (list is)) a b
    go (inl h) all = absurd (some h.0)
    go (inr h) all = adds_as r.text (lines_of p (list is)) a b (sym all ∙ sym (whole is h.1)) r.adds

pub items_line : (p : Place) (is : Items) (rest left : List Mark) (i : ℕ) (a b c : Sending) → ItemsReached p is rest left i a b → is_at_end left ≡ true → i ≡ 0 → Adds (line p.path (codes "[]")) b c → Adds (lines_of p (list is)) a c
items_line p is rest left i a b c r end none k = go r.begun
  where
    n : (r.later ≡ no_items) × (r.marks ≡ [])
    n = no_item r.later r.marks rest r.are (ap is_at_end (sym r.joined) ∙ end)

    go : ((i ≡ 0) × (r.later ≡ is) × (r.text ≡ [])) ⊎ ((0 < i) × ((x : Content) × (ks : Items) × (is ≡ item x ks))) → Adds (lines_of p (list is)) a c
    go (inl h) = adds_as (r.text ++ line p.path (codes "[]")) (lines_of p (list is)) a c (ap (λ x. x ++ line p.path (codes "[]")) h.2 ∙ ap (λ x. lines_of p (list x)) (sym (sym h.1 ∙ n.0))) (adds_then r.text _ a b c r.adds k)
    go (inr h) = absurd (omega (arith, h.0, none))

-- ---- the octets of a leaf, one by one

pub escaped_step : (xs : List Mark) (i : ℕ) (d : Mark) → i < length xs → flat_map escaped (octets_in (take (i + 1) xs)) ≡ flat_map escaped (octets_in (take i xs)) ++ flat_map escaped (octets_in (get_or xs i d ∷ []))
escaped_step xs i d h = ap (flat_map escaped) (mark_step xs i d h) ∙ flat_map-append escaped (octets_in (take i xs)) (octets_in (get_or xs i d ∷ []))

-- ---- lines of leaves

pub line_join : (p a b : List ℕ) → p ++ codes " = " ++ a ++ b ++ codes "\n" ≡ line p (a ++ b)
line_join p a b = ap (λ x. x ++ codes "\n") (append_assoc (p ++ codes " = ") a b)

pub line_quoted : (p o e : List ℕ) → p ++ codes " = " ++ o ++ e ++ codes "\"\n" ≡ line p (o ++ (e ++ codes "\""))
line_quoted p o e =
    sym (append_assoc (p ++ codes " = " ++ o ++ e) (codes "\"") (codes "\n"))
    ∙ ap (λ x. x ++ codes "\n") (append_assoc (p ++ codes " = " ++ o) e (codes "\"") ∙ append_assoc (p ++ codes " = ") o (e ++ codes "\""))

-- ---- where a part and an item are

pub part_place : (p : FieldPlace) (name : Bor (List ℕ)) (inner : NodeId) (i : ℕ) → name.now ≡ row_name p.node i
    → inner ≡ row_node p.node i → place_at (Row p.path name) name.now inner ≡ part (place_of p) i
part_place p name inner i n k =
    ap (λ x. let q : Place = record { path = x; name = name.now; node = inner } in q) (path_of-Row p.path name)
    ∙ ap₂ (λ (x : List ℕ) (y : NodeId). let q : Place = record { path = within (path_of p.path.now) x; name = x; node = y } in q) n k

pub item_place : (p : FieldPlace) (inner : NodeId) (i : ℕ) → inner ≡ row_node p.node 0
    → place_at (Item p.path i) p.name.now inner ≡ item_of (place_of p) i
item_place p inner i k =
    ap₂ (λ (x : List ℕ) (y : NodeId). let q : Place = record { path = x; name = p.name.now; node = y } in q) (path_of-Item p.path i) k

-- the text of a message: its first line, and the lines of its body
pub body_lines : (profile : Profile) (i row : ℕ) (node : NodeId) (a : Apdu) (p : Place) → node ≡ root profile → row ≡ a.number - 1
    → p ≡ (let q : Place = record { path = []; name = []; node = row_node node row } in q)
    → head_line i (row_name node row) ++ lines_of p a.body ≡ shown_text_in profile i a
body_lines profile i row node a p is e q =
    ap (λ x. head_line i (row_name node row) ++ lines_of x a.body) q
    ∙ ap₂ (λ (m : NodeId) (n : ℕ). head_line i (row_name m n) ++ lines_of (let r : Place = record { path = []; name = []; node = row_node m n } in r) a.body) is e
