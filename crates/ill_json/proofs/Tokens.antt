-- What marks say, and the tokens that are put for them.
use Rattle.std.proofs.Common.{◌≡◌, Bool, ℕ, suc, ◌+◌, ◌-◌, true, false, List, [], ◌∷◌, ◌++◌, length, take, drop, codes, flat_map, Option, Some, None, refl, sym, ap, ap₂, ◌∙◌, arith, append_assoc, append-nil, ◌<◌, ◌==◌, get_or}
use Rattle.std.specs.Char.{encode_utf8}
use Rattle.std.specs.Str.{chars}
use Rattle.std.proofs.lemmas.Bool.Decides.{nat_tests}
use Rattle.std.proofs.lemmas.List.Concat.{flat_map-append}
use Rattle.json.specs.Json.{Json, no_members, object}
use Rattle.json.specs.Json as json
use Rattle.json.specs.Token.{Token, begin_object, end_array, end_object, key}
use Rattle.json.specs.Print.{print}
use Rattle.json.specs.Tree.{items_tokens, json_tokens, members_tokens}
use Rattle.ill_tables.specs.declared.node.NodeId.{NodeId}
use Rattle.ber_leaf.specs.Profile.{Profile}
use Rattle.ill_schema.specs.Apdu.{root}
use Rattle.ill_schema.specs.Apdu.{Apdu}
use Rattle.ill_schema.specs.Content.{Content, alternative, Entries, no_entries, absent, present, Items, no_items, item}
use Rattle.ill_grammar.specs.Outline.{AreEntries, AreItems, IsMarked}
use Rattle.ill_grammar.specs.declared.outline.Mark.{Mark}
use Rattle.ill_grammar.specs.declared.outline.Mark.TheVariants as mark
use Rattle.ill_tables.specs.Names.{row_name, row_node}
use Rattle.ill_grammar.specs.Marks.{IsEntry, is_at_end, is_there, octets_in}
use Rattle.ill_grammar.proofs.MarkedValues.{mark_step, no_entry, no_item}
use Rattle.ill_schema.specs.Texts.{characters}
use Rattle.ill_json.specs.Json.{entry_members, head_members, in_member, item_values, line_json_in, line_of, plain, value_json, with_file}
use Rattle.ill_json.specs.code.Adding.{Adds, entry_tokens, file_tokens, normal_tokens, part_tokens, profile_tokens, start_tokens, value_tokens}
use Rattle.ill_json.specs.declared.line.LineHead.{LineHead}
use Rattle.ill_json.specs.declared.writing.LineWriter.{LineWriter}
use Rattle.ill_json.proofs.Added.{adds_as, adds_then}

-- ---- entries

-- the next entry, and those after it
record NextEntry (es : Entries) (ms : List Mark) : Type 0 where
  entry : Option Content
  later : Entries
  first : List Mark
  second : List Mark
  is : IsEntry entry first
  joined : ms ≡ first ++ second
  are : AreEntries later second
  tokens : (node : NodeId) (i : ℕ) → members_tokens (entry_members node i es) ≡ entry_tokens node i entry ++ members_tokens (entry_members node (suc i) later)

next_entry : (es : Entries) (ms rest : List Mark) → AreEntries es ms → is_at_end (ms ++ (mark.End ∷ rest)) ≡ false → NextEntry es ms
next_entry no_entries ms rest h e = absurd (let q : true ≡ false = ap (λ x. is_at_end (x ++ (mark.End ∷ rest))) (sym h) ∙ e in cc)
next_entry (absent es) ms rest h e = record {
  entry = None;
  later = es;
  first = mark.Absent h.0 ∷ [];
  second = h.1;
  is = (h.0, refl, h.3);
  joined = h.2;
  are = h.4;
  tokens = λ node i. refl;
}
next_entry (present c es) ms rest h e = record {
  entry = Some c;
  later = es;
  first = h.0;
  second = h.1;
  is = h.3;
  joined = h.2;
  are = h.4;
  tokens = λ node i. refl;
}

-- so far: the entries that are left, and the tokens of those before them, after those of an opening
pub record EntriesReached (opening : List Token) (node : NodeId) (es : Entries) (rest left : List Mark) (i : ℕ) (old new : LineWriter) : Type 0 where
  pub later : Entries
  pub marks : List Mark
  pub are : AreEntries later marks
  pub joined : left ≡ marks ++ (mark.End ∷ rest)
  pub put : List Token
  pub adds : Adds (opening ++ put) old new
  pub whole : members_tokens (entry_members node 0 es) ≡ put ++ members_tokens (entry_members node i later)

pub entries_none : (o : List Token) (node : NodeId) (es : Entries) (rest left ms : List Mark) (a b : LineWriter) → Adds o a b → AreEntries es ms → left ≡ ms ++ (mark.End ∷ rest) → EntriesReached o node es rest left 0 a b
entries_none o node es rest left ms a b n h e = record { later = es; marks = ms; are = h; joined = e; put = []; adds = adds_as o (o ++ []) a b (sym (append-nil o)) n; whole = refl }

pub entries_more : (o : List Token) (node : NodeId) (es : Entries) (rest left left' : List Mark) (i : ℕ) (a b c : LineWriter) → EntriesReached o node es rest left i a b → is_at_end left ≡ false
    → ((e : Option Content) (ms more : List Mark) → IsEntry e ms → left ≡ ms ++ more → (left' ≡ more) × Adds (entry_tokens node i e) b c) → EntriesReached o node es rest left' (i + 1) a c
entries_more o node es rest left left' i a b c r on put =
    let n = next_entry r.later r.marks rest r.are (ap is_at_end (sym r.joined) ∙ on) in
    let all : left ≡ n.first ++ (n.second ++ (mark.End ∷ rest)) = r.joined ∙ ap (λ x. x ++ (mark.End ∷ rest)) n.joined ∙ append_assoc n.first n.second (mark.End ∷ rest) in
    let did = put n.entry n.first (n.second ++ (mark.End ∷ rest)) n.is all in
    let s : suc i ≡ i + 1 = omega arith in
    record {
      later = n.later;
      marks = n.second;
      are = n.are;
      joined = did.0;
      put = r.put ++ entry_tokens node i n.entry;
      adds = adds_as _ _ a c (append_assoc o r.put (entry_tokens node i n.entry)) (adds_then (o ++ r.put) (entry_tokens node i n.entry) a b c r.adds did.1);
      whole = r.whole ∙ ap (λ x. r.put ++ x) (n.tokens node i ∙ ap (λ (k : ℕ). entry_tokens node i n.entry ++ members_tokens (entry_members node k n.later)) s) ∙ sym (append_assoc r.put (entry_tokens node i n.entry) (members_tokens (entry_members node (i + 1) n.later)));
    }

-- all entries were put, and then the end of the object
pub entries_ended : (o : List Token) (node : NodeId) (es : Entries) (rest left : List Mark) (i : ℕ) (a b c : LineWriter) → EntriesReached o node es rest left i a b → is_at_end left ≡ true → Adds (end_object ∷ []) b c
    → (drop 1 left ≡ rest) × Adds (o ++ members_tokens (entry_members node 0 es)) a c
entries_ended o node es rest left i a b c r end put =
    let n = no_entry r.later r.marks rest r.are (ap is_at_end (sym r.joined) ∙ end) in
    let all = r.whole ∙ ap (λ x. r.put ++ members_tokens (entry_members node i x)) n.0 in (
      ap (drop 1) (r.joined ∙ ap (λ x. x ++ (mark.End ∷ rest)) n.1),
      adds_as _ _ a c (append_assoc o r.put (end_object ∷ []) ∙ ap (λ x. o ++ x) (sym all)) (adds_then (o ++ r.put) (end_object ∷ []) a b c r.adds put),
    )

-- ---- items

record NextItem (is : Items) (ms : List Mark) : Type 0 where
  item : Content
  later : Items
  first : List Mark
  second : List Mark
  marked : IsMarked item first
  joined : ms ≡ first ++ second
  are : AreItems later second
  tokens : (row : List ℕ) (node : NodeId) → items_tokens (item_values row node is) ≡ json_tokens (value_json row node item) ++ items_tokens (item_values row node later)

next_item : (is : Items) (ms rest : List Mark) → AreItems is ms → is_at_end (ms ++ (mark.End ∷ rest)) ≡ false → NextItem is ms
next_item no_items ms rest h e = absurd (let q : true ≡ false = ap (λ x. is_at_end (x ++ (mark.End ∷ rest))) (sym h) ∙ e in cc)
next_item (item c is) ms rest h e = record { item = c; later = is; first = h.0; second = h.1; marked = h.3; joined = h.2; are = h.4; tokens = λ row node. refl }

pub record ItemsReached (opening : List Token) (row : List ℕ) (node : NodeId) (is : Items) (rest left : List Mark) (old new : LineWriter) : Type 0 where
  pub later : Items
  pub marks : List Mark
  pub are : AreItems later marks
  pub joined : left ≡ marks ++ (mark.End ∷ rest)
  pub put : List Token
  pub adds : Adds (opening ++ put) old new
  pub whole : items_tokens (item_values row node is) ≡ put ++ items_tokens (item_values row node later)

pub items_none : (o : List Token) (row : List ℕ) (node : NodeId) (is : Items) (rest left ms : List Mark) (a b : LineWriter) → Adds o a b → AreItems is ms → left ≡ ms ++ (mark.End ∷ rest) → ItemsReached o row node is rest left a b
items_none o row node is rest left ms a b n h e = record { later = is; marks = ms; are = h; joined = e; put = []; adds = adds_as o (o ++ []) a b (sym (append-nil o)) n; whole = refl }

pub items_more : (o : List Token) (row : List ℕ) (node : NodeId) (is : Items) (rest left left' : List Mark) (a b c : LineWriter) → ItemsReached o row node is rest left a b → is_at_end left ≡ false
    → ((x : Content) (ms more : List Mark) → IsMarked x ms → left ≡ ms ++ more → (left' ≡ more) × Adds (json_tokens (value_json row node x)) b c) → ItemsReached o row node is rest left' a c
items_more o row node is rest left left' a b c r on put =
    let n = next_item r.later r.marks rest r.are (ap is_at_end (sym r.joined) ∙ on) in
    let all : left ≡ n.first ++ (n.second ++ (mark.End ∷ rest)) = r.joined ∙ ap (λ x. x ++ (mark.End ∷ rest)) n.joined ∙ append_assoc n.first n.second (mark.End ∷ rest) in
    let did = put n.item n.first (n.second ++ (mark.End ∷ rest)) n.marked all in
    record {
      later = n.later;
      marks = n.second;
      are = n.are;
      joined = did.0;
      put = r.put ++ json_tokens (value_json row node n.item);
      adds = adds_as _ _ a c (append_assoc o r.put (json_tokens (value_json row node n.item))) (adds_then (o ++ r.put) (json_tokens (value_json row node n.item)) a b c r.adds did.1);
      whole = r.whole ∙ ap (λ x. r.put ++ x) (n.tokens row node) ∙ sym (append_assoc r.put (json_tokens (value_json row node n.item)) (items_tokens (item_values row node n.later)));
    }

-- all items were put, and then the end of the array
pub items_ended : (o : List Token) (row : List ℕ) (node : NodeId) (is : Items) (rest left : List Mark) (a b c : LineWriter) → ItemsReached o row node is rest left a b → is_at_end left ≡ true → Adds (end_array ∷ []) b c
    → (drop 1 left ≡ rest) × Adds (o ++ items_tokens (item_values row node is)) a c
items_ended o row node is rest left a b c r end put =
    let n = no_item r.later r.marks rest r.are (ap is_at_end (sym r.joined) ∙ end) in
    let all = r.whole ∙ ap (λ x. r.put ++ items_tokens (item_values row node x)) n.0 in (
      ap (drop 1) (r.joined ∙ ap (λ x. x ++ (mark.End ∷ rest)) n.1),
      adds_as _ _ a c (append_assoc o r.put (end_array ∷ []) ∙ ap (λ x. o ++ x) (sym all)) (adds_then (o ++ r.put) (end_array ∷ []) a b c r.adds put),
    )

-- ---- the characters of a string, one by one

pub character_step : (xs : List Mark) (i : ℕ) (d : Mark) → i < length xs → characters (octets_in (take (i + 1) xs)) ≡ characters (octets_in (take i xs)) ++ characters (octets_in (get_or xs i d ∷ []))
character_step xs i d h = ap characters (mark_step xs i d h) ∙ flat_map-append encode_utf8 (octets_in (take i xs)) (octets_in (get_or xs i d ∷ []))

-- ---- members

pub member : (name : List ℕ) (node inner : NodeId) (i : ℕ) (c : Content) → name ≡ row_name node i → inner ≡ row_node node i → key name ∷ json_tokens (value_json name inner c) ≡ part_tokens node i c
member name node inner i c n k = ap₂ (λ (x : List ℕ) (y : NodeId). key x ∷ json_tokens (value_json x y c)) n k

in_member-alone : (name : List ℕ) (v : Json) → (length name == 0) ≡ true → in_member name v ≡ v
in_member-alone [] v e = refl
in_member-alone (letter ∷ name) v e = absurd (let none : length (letter ∷ name) ≡ 0 = grind (arith, nat_tests) in omega (arith, none))

in_member-named : (name : List ℕ) (v : Json) → (length name == 0) ≡ false → json_tokens (in_member name v) ≡ begin_object ∷ key name ∷ json_tokens v ++ end_object ∷ []
in_member-named [] v e = absurd cc
in_member-named (letter ∷ name) v e = refl

-- an alternative whose row has no name is its value
pub alone : (name : List ℕ) (node inner : NodeId) (i : ℕ) (c : Content) (row : List ℕ) → name ≡ row_name node i → inner ≡ row_node node i → (length name == 0) ≡ true → value_json name inner c ≡ value_json row node (alternative i c)
alone name node inner i c row n k e = sym (in_member-alone name (value_json name inner c) e) ∙ ap₂ (λ (x : List ℕ) (y : NodeId). in_member x (value_json x y c)) n k

-- any other is an object
pub in_object : (name : List ℕ) (node : NodeId) (i : ℕ) (c : Content) (row : List ℕ) → name ≡ row_name node i → (length name == 0) ≡ false → begin_object ∷ part_tokens node i c ++ end_object ∷ [] ≡ json_tokens (value_json row node (alternative i c))
in_object name node i c row n e = sym (in_member-named (row_name node i) (value_json (row_name node i) (row_node node i) c) (ap (λ (x : List ℕ). length x == 0) (sym n) ∙ e))

pub entry_default : (name : List ℕ) (node : NodeId) (i : ℕ) (e : Option Content) → name ≡ row_name node i → is_there e ≡ true → key name ∷ value_tokens name (row_node node i) e ≡ entry_tokens node i e
entry_default name node i None n there = absurd cc
entry_default name node i (Some c) n there = member name node (row_node node i) i c n refl

pub entry_nothing : (node : NodeId) (i : ℕ) (e : Option Content) → is_there e ≡ false → [] ≡ entry_tokens node i e
entry_nothing node i None there = refl
entry_nothing node i (Some c) there = absurd cc

-- ---- the whole line

line_whole : (full : Bool) (file : Option (List ℕ)) (head : LineHead) (name : List ℕ) (v : Json)
    → begin_object ∷ file_tokens file ++ start_tokens head name ++ profile_tokens full ++ normal_tokens head ++ key (codes "value") ∷ [] ++ json_tokens v ++ end_object ∷ []
    ≡ json_tokens (object (with_file file (head_members full head name (json.member (codes "value") v no_members))))
line_whole false None head name v = refl
line_whole false (Some file) head name v = refl
line_whole true None head name v = refl
line_whole true (Some file) head name v = refl

pub line_same : (p : Profile) (file : Option (List ℕ)) (head : LineHead) (a : Apdu) (name : List ℕ) (node : NodeId) (row : ℕ) → name ≡ row_name (root p) row → node ≡ row_node (root p) row → row ≡ a.number - 1
    → begin_object ∷ file_tokens file ++ start_tokens head name ++ profile_tokens p.full ++ normal_tokens head ++ key (codes "value") ∷ [] ++ json_tokens (value_json [] node a.body) ++ end_object ∷ []
    ≡ json_tokens (line_json_in p file head a)
line_same p file head a name node row n k e =
    line_whole p.full file head name (value_json [] node a.body)
    ∙ ap₂ (λ (x : List ℕ) (y : NodeId). json_tokens (object (with_file file (head_members p.full head x (json.member (codes "value") (value_json [] y a.body) no_members)))))
    (n ∙ ap (row_name (root p)) e) (k ∙ ap (row_node (root p)) e)

-- ---- the whole text

pub text_of_line : (j : Json) (o p : LineWriter) → o.writer.tokens ≡ [] → Adds (json_tokens j) o p → p.failed ≡ false → flat_map plain (chars (print p.writer.tokens)) ++ codes "\n" ≡ line_of j
unfolding Adds
text_of_line j o p empty adds whole =
    ap (λ (ts : List Token). flat_map plain (chars (print ts)) ++ codes "\n") ((adds whole).1 ∙ ap (λ (ts : List Token). ts ++ json_tokens j) empty)
