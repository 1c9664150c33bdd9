-- A line is of one APDU: values that fit the tables have one JSON value only where they are one value.
use Rattle.std.proofs.Common.{◌≡◌, ℕ, zero, suc, ◌+◌, ◌-◌, ◌<◌, ◌≤◌, ◌^◌, Bool, true, false, ◌&&◌, IsTrue, List, [], ◌∷◌, ◌++◌, Option, Some, None, IsUtf8, append_assoc, flat_map, ◌*◌, refl, sym, ap, subst, ◌∙◌, arith, codes, slice_get, ℤ, pos, negsuc, neg_ℤ, ◌≤ℤ◌, ltb-true}
use Rattle.std.specs.Prelude.{nat_lt}
use Rattle.std.specs.Char.{encode_utf8}
use Rattle.std.specs.Fmt.{signed_decimal}
use Rattle.std.specs.List.{list_all}
use Rattle.std.specs.Str.{chars, chars_after, continuation_len, lead_bits}
use Rattle.std.proofs.lemmas.Fmt.{signed_decimal_injective}
use Rattle.std.proofs.lemmas.Int.{ints}
use Rattle.std.proofs.lemmas.List.{append_cancel_left, append_cancel_right}
use Rattle.std.proofs.lemmas.List.Concat.{flat_map-append}
use Rattle.std.proofs.lemmas.Bool.{and_parts}
use Rattle.std.proofs.lemmas.Str.{IsUtf8-append, IsUtf8-encode, IsUtf8-nil}
use lib.Signed.{mag}
use lib.Utf8.{low_scalar}
use Rattle.json.specs.Json.{Json, Members, value}
use Rattle.json.specs.Json as json
use Rattle.json.specs.Lex.{tokens}
use Rattle.json.specs.Print.{escape, print, print_from, quoted}
use Rattle.json.specs.Token.{Token, begin_object, key, string}
use Rattle.json.specs.Tree.{HasNumbers, depth, json_tokens}
use Rattle.json.proofs.Printed.Decimals.{IsNumber-decimal, IsNumber-signed_decimal}
use Rattle.json.proofs.Printed.Trees.{ArePrintable-json_tokens, value-json_tokens}
use Rattle.ber_tree.specs.Octets.{are_octets}
use Rattle.ber_leaf.specs.Leaf.{Leaf, Holds, enumerated, integer, normal_content}
use Rattle.ber_leaf.specs.Profile.{Profile, profile_two}
use Rattle.ber_leaf.specs.Simple.{Simple, flag, whole, date, time, printable, general, visible, null, oid, binary, bits, descriptor}
use Rattle.ber_leaf.proofs.Integers.{whole_bounds}
use Rattle.ill_schema.proofs.KnownLeaves.{is_known, known_leaf}
use Rattle.ill_schema.proofs.Tags.{row_of_two, two_not_any}
use Rattle.ill_tables.specs.declared.node.Kind.{Kind}
use Rattle.ill_tables.specs.declared.node.LeafKind.{LeafKind}
use Rattle.ill_tables.specs.declared.node.NodeId.{NodeId}
use Rattle.ill_tables.specs.declared.node.NodeId.TheVariants.{Boolean, IllApdu, TaggedExternal}
use Rattle.ill_tables.specs.declared.part.Row.{Row}
use Rattle.ill_schema.specs.Apdu.{Apdu, choice_of}
use Rattle.ill_schema.specs.Content.{Content, simple, sequence, list, alternative, foreign, Entries, no_entries, absent, present, Items, no_items, item}
use Rattle.ill_schema.specs.Fits.{Fits, FitItems, FitRows, FitsApdu}
use Rattle.ill_tables.specs.Names.{names_of}
use Rattle.ill_tables.specs.Table.{kind_of, rows_of}
use Rattle.ill_schema.specs.TableFacts.{is_of_two}
use Rattle.ill_schema.specs.Tagging.{leaf_of}
use Rattle.ill_tables.specs.Numbers.{number_name, numbers_of}
use Rattle.ill_tables.specs.declared.number.Enumeration.{Enumeration}
use Rattle.ill_tables.specs.declared.number.Enumeration.TheVariants.{Conditions}
use Rattle.ill_tables.proofs.NumberNames.{number_name_has}
use Rattle.ill_tables.specs.Names.{name_or_none, node_or_left_out, row_name, row_node}
use Rattle.ill_schema.specs.Texts.{characters}
use Rattle.ill_schema.proofs.CharacterTexts.{characters_once}
use Rattle.ill_tables.proofs.DistinctNames.{name_at, names_enough, row_once}
use Rattle.ill_json.specs.Json.{entry_members, in_member, item_values, json_line_of, leaf_json, line_json, number_json, plain, value_json, with_file}
use Rattle.ill_json.specs.declared.line.LineHead.{LineHead}
use Rattle.ill_json.proofs.InAscii.{AreTexts-json_tokens, HasTexts, IsUtf8-are_low, are_low, in_ascii, in_ascii-cons, tokens-in_ascii}

-- ---- leaves

-- the digits of a number
abbrev digits_of : Json → List ℕ
digits_of (json.number s) = s
digits_of (json.object (json.member k (json.number s) ms)) = s
digits_of _ = []

digits : (z : ℤ) (name : Option (List ℕ)) → digits_of (number_json z name) ≡ signed_decimal z
digits z None = refl
digits z (Some name) = refl

mag_bound : (z : ℤ) → (neg_ℤ (pos 9_223_372_036_854_775_808) ≤ℤ z) × (z ≤ℤ pos 9_223_372_036_854_775_807) → mag z < 2 ^ 63
mag_bound (pos n) h = let top = h.1 in omega (arith, ints)
mag_bound (negsuc n) h = let low = h.0 in omega (arith, ints)

pub whole_size : (p : Profile) (k : Kind) (l : Leaf) (z : ℤ) → leaf_of k (whole z) ≡ Some l → Holds p l (whole z) (normal_content (whole z)) → mag z < 2 ^ 63
whole_size p (Kind.Leaf LeafKind.Integer) l z e h =
    let same : l ≡ integer = cc in mag_bound z ((whole_bounds p z).0 (normal_content (whole z), subst (λ x. Holds p x (whole z) (normal_content (whole z))) same h))
whole_size p (Kind.Leaf LeafKind.Enumerated) l z e h =
    let same : l ≡ enumerated = cc in mag_bound z ((whole_bounds p z).0 (normal_content (whole z), subst (λ x. Holds p x (whole z) (normal_content (whole z))) same h))
whole_size p _ l z e h = absurd cc

-- the sort of a leaf is that of its kind
abbrev pub leaf_sort : Simple → ℕ
leaf_sort (flag b) = 0
leaf_sort (whole z) = 1
leaf_sort (date o) = 2
leaf_sort (time o) = 3
leaf_sort (printable o) = 4
leaf_sort (general o) = 5
leaf_sort (visible o) = 5
leaf_sort null = 6
leaf_sort (oid o) = 7
leaf_sort (binary o) = 8
leaf_sort (bits n o) = 9
leaf_sort (descriptor o) = 10

abbrev kind_sort : Kind → ℕ
kind_sort (Kind.Leaf LeafKind.Boolean) = 0
kind_sort (Kind.Leaf LeafKind.Integer) = 1
kind_sort (Kind.Leaf LeafKind.Enumerated) = 1
kind_sort (Kind.Leaf LeafKind.Date) = 2
kind_sort (Kind.Leaf LeafKind.Time) = 3
kind_sort (Kind.Leaf LeafKind.Printable) = 4
kind_sort Kind.IllString = 5
kind_sort (Kind.Leaf LeafKind.Null) = 6
kind_sort (Kind.Leaf LeafKind.ObjectIdentifier) = 7
kind_sort (Kind.Leaf LeafKind.OctetString) = 8
kind_sort (Kind.Leaf LeafKind.BitString) = 9
kind_sort (Kind.Leaf LeafKind.ObjectDescriptor) = 10
kind_sort Kind.Seq = 11
kind_sort Kind.SeqOf = 12
kind_sort Kind.Choice = 13
kind_sort Kind.Any = 14

pub sort_of : (k : Kind) (v : Simple) (l : Leaf) → leaf_of k v ≡ Some l → kind_sort k ≡ leaf_sort v
sort_of (Kind.Leaf LeafKind.Boolean) (flag b) l e = refl
sort_of (Kind.Leaf LeafKind.Integer) (whole z) l e = refl
sort_of (Kind.Leaf LeafKind.Enumerated) (whole z) l e = refl
sort_of (Kind.Leaf LeafKind.Date) (date o) l e = refl
sort_of (Kind.Leaf LeafKind.Time) (time o) l e = refl
sort_of (Kind.Leaf LeafKind.Printable) (printable o) l e = refl
sort_of (Kind.Leaf LeafKind.Null) null l e = refl
sort_of (Kind.Leaf LeafKind.ObjectIdentifier) (oid o) l e = refl
sort_of (Kind.Leaf LeafKind.OctetString) (binary o) l e = refl
sort_of (Kind.Leaf LeafKind.BitString) (bits n o) l e = refl
sort_of (Kind.Leaf LeafKind.ObjectDescriptor) (descriptor o) l e = refl
sort_of Kind.IllString (general o) l e = refl
sort_of Kind.IllString (visible o) l e = refl
sort_of _ _ l e = absurd cc

-- the first letter of the first key
abbrev first_letter : Json → ℕ
first_letter (json.object (json.member (letter ∷ letters) j ms)) = letter
first_letter _ = 0

leaf_once : (p : Profile) (row : List ℕ) (k : Kind) (v w : Simple) (l m : Leaf) → IsTrue (is_known v) → leaf_of k v ≡ Some l → leaf_of k w ≡ Some m → Holds p l v (normal_content v) → Holds p m w (normal_content w)
    → leaf_json row v ≡ leaf_json row w → v ≡ w
leaf_once p row k (flag a) (flag b) l m known f g h i e = let q : a ≡ b = cc in ap flag q
leaf_once p row k (whole y) (whole z) l m known f g h i e =
    ap whole (signed_decimal_injective y z (whole_size p k l y f h) (whole_size p k m z g i) (sym (digits y (number_name row y)) ∙ ap digits_of e ∙ digits z (number_name row z)))
leaf_once p row k (date o) (date q) l m known f g h i e = let same : characters o ≡ characters q = cc in ap date (characters_once o q h.0 i.0 same)
leaf_once p row k (time o) (time q) l m known f g h i e = let same : characters o ≡ characters q = cc in ap time (characters_once o q h.0 i.0 same)
leaf_once p row k (printable o) (printable q) l m known f g h i e = let same : characters o ≡ characters q = cc in ap printable (characters_once o q h.0 i.0 same)
leaf_once p row k (general o) (general q) l m known f g h i e = let same : characters o ≡ characters q = cc in ap general (characters_once o q h.0 i.0 same)
leaf_once p row k (visible o) (visible q) l m known f g h i e = let same : characters o ≡ characters q = cc in ap visible (characters_once o q h.0 i.0 same)
leaf_once p row k (general o) (visible q) l m known f g h i e = absurd (let letter : 103 ≡ 118 = ap first_letter e in omega (arith, letter))
leaf_once p row k (visible o) (general q) l m known f g h i e = absurd (let letter : 118 ≡ 103 = ap first_letter e in omega (arith, letter))
leaf_once p row k null w l m known f g h i e = absurd cc
leaf_once p row k (oid o) w l m known f g h i e = absurd cc
leaf_once p row k (binary o) w l m known f g h i e = absurd cc
leaf_once p row k (bits n o) w l m known f g h i e = absurd cc
leaf_once p row k (descriptor o) w l m known f g h i e = absurd cc
leaf_once p row k v w l m known f g h i e = absurd (let q : leaf_sort v ≡ leaf_sort w = sym (sort_of k v l f) ∙ sort_of k w m g in cc)

-- ---- the names of a node's rows

abbrev all_named : List (List ℕ) → Bool
all_named [] = true
all_named ([] ∷ names) = false
all_named ((letter ∷ name) ∷ names) = all_named names

-- each row of a node of profile 2 has a name
names_there : (node : NodeId) → IsTrue (is_of_two node) → IsTrue (all_named (names_of node).1)
names_there TaggedExternal two = absurd cc
names_there _ two = refl

in_member-named : (names : List (List ℕ)) (i : ℕ) (name : List ℕ) (v : Json) → IsTrue (all_named names) → slice_get names i ≡ Some name → in_member name v ≡ json.object (json.member name v json.no_members)
in_member-named names i [] v h e = absurd (no_empty names i h e)
  where
    no_empty : (names : List (List ℕ)) (i : ℕ) → IsTrue (all_named names) → slice_get names i ≡ Some [] → ⊥
    no_empty [] i h e = absurd cc
    no_empty ([] ∷ names) i h e = absurd cc
    no_empty ((letter ∷ name) ∷ names) zero h e = absurd cc
    no_empty ((letter ∷ name) ∷ names) (suc i) h e = no_empty names i h e
in_member-named names i (letter ∷ name) v h e = refl

-- an alternative of a choice of profile 2 is an object
alternative_named : (node : NodeId) (n : ℕ) (row : Row) (c : Content) → IsTrue (is_of_two node) → slice_get (rows_of node) n ≡ Some row
    → value_json [] node (alternative n c) ≡ json.object (json.member (row_name node n) (value_json (row_name node n) (row_node node n) c) json.no_members)
alternative_named node n row c two e =
    in_member-named (names_of node).1 n (row_name node n) _ (names_there node two) (name_at (names_of node).1 (rows_of node) n row (names_enough node) e)

-- ---- values

-- the rows from row i on
abbrev pub From : List Row → ℕ → List Row → Type 0
From rows i all = (k : ℕ) → slice_get rows k ≡ slice_get all (i + k)

pub from_all : (rows : List Row) → From rows 0 rows
from_all rows = λ k. ap (λ (n : ℕ). slice_get rows n) (let s : k ≡ 0 + k = omega arith in s)

pub from_next : (row : Row) (rows : List Row) (i : ℕ) (all : List Row) → From (row ∷ rows) i all → From rows (suc i) all
from_next row rows i all h = λ k. h (suc k) ∙ ap (λ (n : ℕ). slice_get all n) (let s : i + suc k ≡ suc i + k = omega arith in s)

pub from_here : (row : Row) (rows : List Row) (i : ℕ) (all : List Row) → From (row ∷ rows) i all → slice_get all i ≡ Some row
from_here row rows i all h = ap (λ (n : ℕ). slice_get all n) (let s : i ≡ i + 0 = omega arith in s) ∙ sym (h 0)

object_same : (ms ns : Members) → json.object ms ≡ json.object ns → ms ≡ ns
object_same ms ns e = cc

member_same : (k l : List ℕ) (i j : Json) (ms ns : Members) → json.member k i ms ≡ json.member l j ns → (k ≡ l) × (i ≡ j) × (ms ≡ ns)
member_same k l i j ms ns e = (cc, cc, cc)

-- no later entry has the name of row i
no_later : (p : Profile) (node : NodeId) (i j : ℕ) (rows : List Row) (es : Entries) (r : Row) (v : Json) (ms : Members) → slice_get (rows_of node) i ≡ Some r → i < j → From rows j (rows_of node) → FitRows p es rows
    → entry_members node j es ≡ json.member (row_name node i) v ms → ⊥
no_later p node i j rows no_entries r v ms at lt from fit e = absurd cc
no_later p node i j [] (absent es) r v ms at lt from fit e = absurd fit
no_later p node i j (row ∷ rows) (absent es) r v ms at lt from fit e = no_later p node i (suc j) rows es r v ms at (omega arith) (from_next row rows j (rows_of node) from) fit.1 e
no_later p node i j [] (present c es) r v ms at lt from fit e = absurd fit
no_later p node i j (row ∷ rows) (present c es) r v ms at lt from fit e =
    let same = row_once node j i row r (from_here row rows j (rows_of node) from) at (member_same _ _ _ _ _ _ e).0 in
    absurd (omega (arith, lt, same))

abbrev pub content_sort : Content → ℕ
content_sort (simple v) = leaf_sort v
content_sort (sequence es) = 11
content_sort (list is) = 12
content_sort (alternative n c) = 13
content_sort (foreign T) = 14

fit_sort : (p : Profile) (c : Content) (node : NodeId) → Fits p c node → kind_sort (kind_of node) ≡ content_sort c
fit_sort p (simple v) node h = sort_of (kind_of node) v h.0 h.1
fit_sort p (sequence es) node h = ap kind_sort h.0
fit_sort p (list is) node h = ap kind_sort h.0
fit_sort p (alternative n c) node h = ap kind_sort h.1.0
fit_sort p (foreign T) node h = ap kind_sort h.0

pub small_sort : (v : Simple) → leaf_sort v < 11
small_sort (flag b) = omega arith
small_sort (whole z) = omega arith
small_sort (date o) = omega arith
small_sort (time o) = omega arith
small_sort (printable o) = omega arith
small_sort (general o) = omega arith
small_sort (visible o) = omega arith
small_sort null = omega arith
small_sort (oid o) = omega arith
small_sort (binary o) = omega arith
small_sort (bits n o) = omega arith
small_sort (descriptor o) = omega arith

pub other : (p : Profile) (c d : Content) (node : NodeId) → Fits p c node → Fits p d node → content_sort c ≡ content_sort d
other p c d node h k = sym (fit_sort p c node h) ∙ fit_sort p d node k

pub row_fits : (p : Profile) (node : NodeId) (i : ℕ) (c : Content) (row : Row) → slice_get (rows_of node) i ≡ Some row → Fits p c row.node → Fits p c (row_node node i)
row_fits p node i c row e h = subst (λ n. Fits p c n) (sym (ap node_or_left_out e)) h

-- the rows of profile 2's nodes are of such nodes
two_at : (node : NodeId) (i : ℕ) (row : Row) → IsTrue (is_of_two node) → slice_get (rows_of node) i ≡ Some row → IsTrue (is_of_two (row_node node i))
two_at node i row two e = subst (λ n. IsTrue (is_of_two n)) (sym (ap node_or_left_out e)) (row_of_two node i row two e)

mutual
  pub value_once : (p : Profile) (row : List ℕ) (node : NodeId) (c d : Content) → IsTrue (is_of_two node) → Fits p c node → Fits p d node → value_json row node c ≡ value_json row node d → c ≡ d
  value_once p row node (simple v) (simple w) two h k e = ap simple (leaf_once p row (kind_of node) v w h.0 k.0 (known_leaf node v h.0 two h.1) h.1 k.1 h.2 k.2 e)
  value_once p row node (sequence es) (sequence fs) two h k e = ap sequence (entries_once p node 0 (rows_of node) es fs two (from_all (rows_of node)) h.1 k.1 (object_same _ _ e))
  value_once p row node (list is) (list js) two h k e = ap list (items_once p row node is js two h.1 k.1 (let q : item_values row (row_node node 0) is ≡ item_values row (row_node node 0) js = cc in q))
  value_once p row node (alternative n c) (alternative m d) two h k e =
      let objects = sym (alternative_named node n h.0 c two h.1.1) ∙ e ∙ alternative_named node m k.0 d two k.1.1 in
      let parts = member_same _ _ _ _ _ _ (object_same _ _ objects) in
      let same = row_once node n m h.0 k.0 h.1.1 k.1.1 parts.0 in
      let body = parts.1 ∙ ap (λ (x : ℕ). value_json (row_name node x) (row_node node x) d) (sym same) in
      let fits = subst (λ (x : ℕ). Fits p d (row_node node x)) (sym same) (row_fits p node m d k.0 k.1.1 k.2) in
      let inner = value_once p (row_name node n) (row_node node n) c d (two_at node n h.0 two h.1.1) (row_fits p node n c h.0 h.1.1 h.2) fits body in
      ap (alternative n) inner ∙ ap (λ (x : ℕ). alternative x d) same
  value_once p row node (simple v) (sequence fs) two h k e = absurd (omega (arith, small_sort v, other p (simple v) (sequence fs) node h k))
  value_once p row node (simple v) (list js) two h k e = absurd (omega (arith, small_sort v, other p (simple v) (list js) node h k))
  value_once p row node (simple v) (alternative m d) two h k e = absurd (omega (arith, small_sort v, other p (simple v) (alternative m d) node h k))
  value_once p row node (sequence es) (simple w) two h k e = absurd (omega (arith, small_sort w, other p (sequence es) (simple w) node h k))
  value_once p row node (list is) (simple w) two h k e = absurd (omega (arith, small_sort w, other p (list is) (simple w) node h k))
  value_once p row node (alternative n c) (simple w) two h k e = absurd (omega (arith, small_sort w, other p (alternative n c) (simple w) node h k))
  value_once p row node (sequence es) (list js) two h k e = absurd (omega (arith, other p (sequence es) (list js) node h k))
  value_once p row node (sequence es) (alternative m d) two h k e = absurd (omega (arith, other p (sequence es) (alternative m d) node h k))
  value_once p row node (list is) (sequence fs) two h k e = absurd (omega (arith, other p (list is) (sequence fs) node h k))
  value_once p row node (list is) (alternative m d) two h k e = absurd (omega (arith, other p (list is) (alternative m d) node h k))
  value_once p row node (alternative n c) (sequence fs) two h k e = absurd (omega (arith, other p (alternative n c) (sequence fs) node h k))
  value_once p row node (alternative n c) (list js) two h k e = absurd (omega (arith, other p (alternative n c) (list js) node h k))
  value_once p row node (foreign T) d two h k e = absurd (two_not_any node two h.0)
  value_once p row node c (foreign U) two h k e = absurd (two_not_any node two k.0)

  entries_once : (p : Profile) (node : NodeId) (i : ℕ) (rows : List Row) (es fs : Entries) → IsTrue (is_of_two node) → From rows i (rows_of node) → FitRows p es rows → FitRows p fs rows → entry_members node i es ≡ entry_members node i fs → es ≡ fs
  entries_once p node i [] no_entries no_entries two from h k e = refl
  entries_once p node i [] no_entries (absent fs) two from h k e = absurd k
  entries_once p node i [] no_entries (present d fs) two from h k e = absurd k
  entries_once p node i [] (absent es) fs two from h k e = absurd h
  entries_once p node i [] (present c es) fs two from h k e = absurd h
  entries_once p node i (row ∷ rows) no_entries fs two from h k e = absurd h
  entries_once p node i (row ∷ rows) (absent es) no_entries two from h k e = absurd k
  entries_once p node i (row ∷ rows) (present c es) no_entries two from h k e = absurd k
  entries_once p node i (row ∷ rows) (absent es) (absent fs) two from h k e = ap absent (entries_once p node (suc i) rows es fs two (from_next row rows i (rows_of node) from) h.1 k.1 e)
  entries_once p node i (row ∷ rows) (absent es) (present d fs) two from h k e =
      absurd (no_later p node i (suc i) rows es row _ _ (from_here row rows i (rows_of node) from) (omega arith) (from_next row rows i (rows_of node) from) h.1 e)
  entries_once p node i (row ∷ rows) (present c es) (absent fs) two from h k e =
      absurd (no_later p node i (suc i) rows fs row _ _ (from_here row rows i (rows_of node) from) (omega arith) (from_next row rows i (rows_of node) from) k.1 (sym e))
  entries_once p node i (row ∷ rows) (present c es) (present d fs) two from h k e =
      let parts = member_same _ _ _ _ _ _ e in
      let at = from_here row rows i (rows_of node) from in
      let first = value_once p (row_name node i) (row_node node i) c d (two_at node i row two at) (row_fits p node i c row at h.1) (row_fits p node i d row at k.1) parts.1 in
      let rest = entries_once p node (suc i) rows es fs two (from_next row rows i (rows_of node) from) h.2 k.2 parts.2 in
      ap (λ (x : Content). present x es) first ∙ ap (present d) rest

  items_once : (p : Profile) (row : List ℕ) (node : NodeId) (is js : Items) → IsTrue (is_of_two node) → FitItems p is (rows_of node) → FitItems p js (rows_of node) → item_values row (row_node node 0) is ≡ item_values row (row_node node 0) js → is ≡ js
  items_once p row node no_items no_items two h k e = refl
  items_once p row node no_items (item d js) two h k e = absurd cc
  items_once p row node (item c is) no_items two h k e = absurd cc
  items_once p row node (item c is) (item d js) two h k e =
      let one : value_json row (row_node node 0) c ≡ value_json row (row_node node 0) d = cc in
      let values : item_values row (row_node node 0) is ≡ item_values row (row_node node 0) js = cc in
      let first = value_once p row (row_node node 0) c d (two_at node 0 h.0 two h.1) (row_fits p node 0 c h.0 h.1 h.2) (row_fits p node 0 d k.0 k.1 k.2) one in
      let rest = items_once p row node is js two h.3 k.3 values in
      ap (λ (x : Content). item x is) first ∙ ap (item d) rest

-- ---- APDUs

with_file_once : (file : Option (List ℕ)) (ms ns : Members) → with_file file ms ≡ with_file file ns → ms ≡ ns
with_file_once None ms ns e = e
with_file_once (Some name) ms ns e = (member_same _ _ _ _ _ _ e).2

pub apdu_once : (file : Option (List ℕ)) (head head' : LineHead) (a b : Apdu) → FitsApdu profile_two a → FitsApdu profile_two b → line_json file head a ≡ line_json file head' b → choice_of a ≡ choice_of b
apdu_once file head head' a b h k e =
    let number = member_same _ _ _ _ _ _ (with_file_once file _ _ (object_same _ _ e)) in
    let offset = member_same _ _ _ _ _ _ number.2 in
    let octets = member_same _ _ _ _ _ _ offset.2 in
    let apdu = member_same _ _ _ _ _ _ octets.2 in
    let normal = member_same _ _ _ _ _ _ apdu.2 in
    let body = member_same _ _ _ _ _ _ normal.2 in
    let n = a.number - 1 in
    let m = b.number - 1 in
    let name : row_name IllApdu n ≡ row_name IllApdu m = let q = apdu.1 in cc in
    let same = row_once IllApdu n m h.1.0 k.1.0 h.1.1.1 k.1.1.1 name in
    let fits = subst (λ (x : ℕ). Fits profile_two b.body (row_node IllApdu x)) (sym same) (row_fits profile_two IllApdu m b.body k.1.0 k.1.1.1 k.1.2) in
    let inner = value_once profile_two [] (row_node IllApdu n) a.body b.body (two_at IllApdu n h.1.0 refl h.1.1.1) (row_fits profile_two IllApdu n a.body h.1.0 h.1.1.1 h.1.2) fits (body.1 ∙ ap (λ (x : ℕ). value_json [] (row_node IllApdu x) b.body) (sym same)) in
    ap (alternative n) inner ∙ ap (λ (x : ℕ). alternative x b.body) same

-- ---- texts

-- a head of numbers that 64 bits hold
abbrev pub IsSmall : LineHead → Type 0
IsSmall head = (head.number < 2 ^ 64) × (head.offset < 2 ^ 64) × (head.octets < 2 ^ 64)

-- a value that is written and read back
abbrev pub IsWritten : Json → Type 0
IsWritten j = HasNumbers j × HasTexts j

abbrev all_low : List (List ℕ) → Bool
all_low [] = true
all_low (name ∷ names) = are_low name && all_low names

IsUtf8-low_name : (names : List (List ℕ)) (i : ℕ) → all_low names ≡ true → IsUtf8 (name_or_none (slice_get names i))
IsUtf8-low_name [] i h = IsUtf8-nil
IsUtf8-low_name (name ∷ names) zero h = IsUtf8-are_low name (and_parts (are_low name) (all_low names) h).0
IsUtf8-low_name (name ∷ names) (suc i) h = IsUtf8-low_name names i (and_parts (are_low name) (all_low names) h).1

names_low : (node : NodeId) → all_low (names_of node).1 ≡ true
names_low Boolean = refl
names_low _ = refl

pub IsUtf8-row_name : (node : NodeId) (i : ℕ) → IsUtf8 (row_name node i)
IsUtf8-row_name node i = IsUtf8-low_name (names_of node).1 i (names_low node)

number_names_low : (type : Enumeration) → list_all (λ n. are_low n.1) (numbers_of type) ≡ true
number_names_low Conditions = refl
number_names_low _ = refl

pub IsUtf8-number_name : (row : List ℕ) (z : ℤ) → IsUtf8 (name_or_none (number_name row z))
IsUtf8-number_name row z = IsUtf8-are_low _ (number_name_has are_low refl number_names_low row z)

pub IsUtf8-characters : (o : List ℕ) → IsTrue (are_octets o) → IsUtf8 (characters o)
IsUtf8-characters [] h = IsUtf8-nil
IsUtf8-characters (a ∷ o) h =
    let p = and_parts (nat_lt a 256) (are_octets o) h in
    let small = ltb-true a 256 p.0 in
    IsUtf8-append (encode_utf8 a) (characters o) (IsUtf8-encode a (low_scalar a (omega (arith, small)))) (IsUtf8-characters o p.1)

pub number_written : (z : ℤ) (name : Option (List ℕ)) → mag z < 2 ^ 63 → IsUtf8 (name_or_none name) → IsWritten (number_json z name)
number_written z None h u = (IsNumber-signed_decimal z h, tt)
number_written z (Some name) h u = ((IsNumber-signed_decimal z h, (tt, tt)), (IsUtf8-are_low _ refl, tt, (IsUtf8-are_low _ refl, u, tt)))

leaf_written : (p : Profile) (row : List ℕ) (k : Kind) (v : Simple) (l : Leaf) → IsTrue (is_known v) → leaf_of k v ≡ Some l → Holds p l v (normal_content v) → IsWritten (leaf_json row v)
leaf_written p row k (flag b) l known e h = (tt, tt)
leaf_written p row k (whole z) l known e h = number_written z (number_name row z) (whole_size p k l z e h) (IsUtf8-number_name row z)
leaf_written p row k (date o) l known e h = (tt, IsUtf8-characters o h.0)
leaf_written p row k (time o) l known e h = (tt, IsUtf8-characters o h.0)
leaf_written p row k (printable o) l known e h = (tt, IsUtf8-characters o h.0)
leaf_written p row k (general o) l known e h = ((tt, tt), (IsUtf8-are_low _ refl, IsUtf8-characters o h.0, tt))
leaf_written p row k (visible o) l known e h = ((tt, tt), (IsUtf8-are_low _ refl, IsUtf8-characters o h.0, tt))
leaf_written p row k null l known e h = absurd cc
leaf_written p row k (oid o) l known e h = absurd cc
leaf_written p row k (binary o) l known e h = absurd cc
leaf_written p row k (bits n o) l known e h = absurd cc
leaf_written p row k (descriptor o) l known e h = absurd cc

pub member_written : (name : List ℕ) (v : Json) → IsUtf8 name → IsWritten v → IsWritten (in_member name v)
member_written [] v u h = h
member_written (letter ∷ name) v u h = ((h.0, tt), (u, h.1, tt))

mutual
  value_written : (p : Profile) (row : List ℕ) (node : NodeId) (c : Content) → IsTrue (is_of_two node) → Fits p c node → IsWritten (value_json row node c)
  value_written p row node (simple v) two h = leaf_written p row (kind_of node) v h.0 (known_leaf node v h.0 two h.1) h.1 h.2
  value_written p row node (sequence es) two h = entries_written p node 0 (rows_of node) es two (from_all (rows_of node)) h.1
  value_written p row node (list is) two h = items_written p row node is two h.1
  value_written p row node (alternative n c) two h =
      let v = value_written p (row_name node n) (row_node node n) c (two_at node n h.0 two h.1.1) (row_fits p node n c h.0 h.1.1 h.2) in
      member_written (row_name node n) _ (IsUtf8-row_name node n) v
  value_written p row node (foreign T) two h = absurd (two_not_any node two h.0)

  entries_written : (p : Profile) (node : NodeId) (i : ℕ) (rows : List Row) (es : Entries) → IsTrue (is_of_two node) → From rows i (rows_of node) → FitRows p es rows → IsWritten (json.object (entry_members node i es))
  entries_written p node i rows no_entries two from h = (tt, tt)
  entries_written p node i [] (absent es) two from h = absurd h
  entries_written p node i [] (present c es) two from h = absurd h
  entries_written p node i (row ∷ rows) (absent es) two from h = entries_written p node (suc i) rows es two (from_next row rows i (rows_of node) from) h.1
  entries_written p node i (row ∷ rows) (present c es) two from h =
      let at = from_here row rows i (rows_of node) from in
      let v = value_written p (row_name node i) (row_node node i) c (two_at node i row two at) (row_fits p node i c row at h.1) in
      let rest = entries_written p node (suc i) rows es two (from_next row rows i (rows_of node) from) h.2 in
      ((v.0, rest.0), (IsUtf8-row_name node i, v.1, rest.1))

  items_written : (p : Profile) (row : List ℕ) (node : NodeId) (is : Items) → IsTrue (is_of_two node) → FitItems p is (rows_of node) → IsWritten (json.array (item_values row (row_node node 0) is))
  items_written p row node no_items two h = (tt, tt)
  items_written p row node (item c is) two h =
      let v = value_written p row (row_node node 0) c (two_at node 0 h.0 two h.1) (row_fits p node 0 c h.0 h.1 h.2) in
      let rest = items_written p row node is two h.3 in
      ((v.0, rest.0), (v.1, rest.1))

-- a line with no name of a file
line_written : (head : LineHead) (a : Apdu) → IsSmall head → FitsApdu profile_two a → IsWritten (line_json None head a)
line_written head a small h =
    let n = a.number - 1 in
    let v = value_written profile_two [] (row_node IllApdu n) a.body (two_at IllApdu n h.1.0 refl h.1.1.1) (row_fits profile_two IllApdu n a.body h.1.0 h.1.1.1 h.1.2) in
    let name : (k : List ℕ) → are_low k ≡ true → IsUtf8 k = IsUtf8-are_low in (
      (IsNumber-decimal head.number small.0, (IsNumber-decimal head.offset small.1, (IsNumber-decimal head.octets small.2, (tt, (tt, (v.0, tt)))))),
      (name _ refl, tt, (name _ refl, tt, (name _ refl, tt, (name _ refl, IsUtf8-row_name IllApdu n, (name _ refl, tt, (name _ refl, v.1, tt)))))),
    )

abbrev read_value : Json → Option (Json × List Token) → Json
read_value i None = i
read_value i (Some p) = p.0

-- a text in ASCII is of one value
text_once : (i j : Json) → IsWritten i → IsWritten j → in_ascii (print (json_tokens i)) ≡ in_ascii (print (json_tokens j)) → i ≡ j
text_once i j h k e =
    let same = sym (tokens-in_ascii (json_tokens i) (ArePrintable-json_tokens i h.0) (AreTexts-json_tokens i h.1)) ∙ ap tokens e
    ∙ tokens-in_ascii (json_tokens j) (ArePrintable-json_tokens j k.0) (AreTexts-json_tokens j k.1) in
    let d = depth i + depth j in
    let back : Some (i, []) ≡ Some (j, []) = sym (value-json_tokens i d [] (omega arith)) ∙ ap (λ (ts : List Token). value d (ts ++ [])) same ∙ value-json_tokens j d [] (omega arith) in
    ap (read_value i) back

-- ---- the name of the file

-- The characters before the rest of a text, of which three bytes are ASCII. The front may end inside a character.
record Front (front : List ℕ → List ℕ) : Type 0 where
  before : List ℕ
  is : (rest : List ℕ) → front rest ≡ before ++ chars rest

one_character : (c : ℕ) (rest : List ℕ) → chars_after 0 c rest ≡ c ∷ chars rest
unfolding chars
one_character c [] = refl
one_character c (b ∷ rest) = refl

front_after : (n c : ℕ) (xs : List ℕ) → n ≤ 3 → Front (λ rest. chars_after n c (xs ++ 34 ∷ 44 ∷ 34 ∷ rest))
front_after zero c [] h = record { before = c ∷ 34 ∷ 44 ∷ 34 ∷ []; is = λ rest. ap (λ (l : List ℕ). c ∷ 34 ∷ 44 ∷ l) (one_character 34 rest) }
front_after (suc zero) c [] h = record { before = (c * 64 + (34 - 128)) ∷ 44 ∷ 34 ∷ []; is = λ rest. ap (λ (l : List ℕ). (c * 64 + (34 - 128)) ∷ 44 ∷ l) (one_character 34 rest) }
front_after (suc (suc zero)) c [] h =
    let d = (c * 64 + (34 - 128)) * 64 + (44 - 128) in
    record { before = d ∷ 34 ∷ []; is = λ rest. ap (λ (l : List ℕ). d ∷ l) (one_character 34 rest) }
front_after (suc (suc (suc zero))) c [] h =
    let d = ((c * 64 + (34 - 128)) * 64 + (44 - 128)) * 64 + (34 - 128) in
    record { before = d ∷ []; is = λ rest. one_character d rest }
front_after (suc (suc (suc (suc n)))) c [] h = absurd (omega arith)
front_after zero c (b ∷ xs) h =
    let more = front_after (continuation_len b) (lead_bits b) xs (grind arith) in
    record { before = c ∷ more.before; is = λ rest. ap (λ (l : List ℕ). c ∷ l) (more.is rest) }
front_after (suc n) c (b ∷ xs) h = front_after n (c * 64 + (b - 128)) xs (omega arith)

front : (xs : List ℕ) → Front (λ rest. chars (xs ++ 34 ∷ 44 ∷ 34 ∷ rest))
unfolding chars
front [] = record { before = 34 ∷ 44 ∷ 34 ∷ []; is = λ rest. ap (λ (l : List ℕ). 34 ∷ 44 ∷ l) (one_character 34 rest) }
front (b ∷ xs) = front_after (continuation_len b) (lead_bits b) xs (grind arith)

after_front : (xs r q : List ℕ) → in_ascii (xs ++ 34 ∷ 44 ∷ 34 ∷ r) ≡ in_ascii (xs ++ 34 ∷ 44 ∷ 34 ∷ q) → in_ascii r ≡ in_ascii q
after_front xs r q e =
    let f = front xs in
    let split : (rest : List ℕ) → in_ascii (xs ++ 34 ∷ 44 ∷ 34 ∷ rest) ≡ flat_map plain f.before ++ in_ascii rest = λ rest. ap (flat_map plain) (f.is rest) ∙ flat_map-append plain f.before (chars rest) in
    append_cancel_left (flat_map plain f.before) _ _ (sym (split r) ∙ e ∙ split q)

-- the text after the first quotation mark of a key
abbrev after_quote : List ℕ → List Token → List ℕ
after_quote k ts = escape k ++ 34 ∷ 58 ∷ print_from false ts

print-key : (k : List ℕ) (ts : List Token) → print (begin_object ∷ key k ∷ ts) ≡ 123 ∷ 34 ∷ after_quote k ts
unfolding print_from
print-key k ts = ap (λ (l : List ℕ). 123 ∷ 34 ∷ l) (append_assoc (escape k ++ 34 ∷ []) (58 ∷ []) _ ∙ append_assoc (escape k) (34 ∷ []) _)

print-named : (f name k : List ℕ) (ts : List Token) → print (begin_object ∷ key f ∷ string name ∷ key k ∷ ts) ≡ (123 ∷ quoted f ++ 58 ∷ 34 ∷ escape name) ++ 34 ∷ 44 ∷ 34 ∷ after_quote k ts
unfolding print_from
print-named f name k ts = simp append_assoc

unnamed : (f name k : List ℕ) (ts us : List Token) → in_ascii (print (begin_object ∷ key f ∷ string name ∷ key k ∷ ts)) ≡ in_ascii (print (begin_object ∷ key f ∷ string name ∷ key k ∷ us))
    → in_ascii (print (begin_object ∷ key k ∷ ts)) ≡ in_ascii (print (begin_object ∷ key k ∷ us))
unnamed f name k ts us e =
    let rest = after_front (123 ∷ quoted f ++ 58 ∷ 34 ∷ escape name) (after_quote k ts) (after_quote k us) (ap in_ascii (sym (print-named f name k ts)) ∙ e ∙ ap in_ascii (print-named f name k us)) in
    let begun : (vs : List Token) → in_ascii (print (begin_object ∷ key k ∷ vs)) ≡ 123 ∷ 34 ∷ in_ascii (after_quote k vs) =
    λ vs. ap in_ascii (print-key k vs) ∙ in_ascii-cons 123 _ (omega arith) ∙ ap (λ (l : List ℕ). 123 ∷ l) (in_ascii-cons 34 _ (omega arith)) in
    begun ts ∙ ap (λ (l : List ℕ). 123 ∷ 34 ∷ l) rest ∙ sym (begun us)

-- lines that are equal are equal without the name of the file
without_file : (file : Option (List ℕ)) (head head' : LineHead) (a b : Apdu) → in_ascii (print (json_tokens (line_json file head a))) ≡ in_ascii (print (json_tokens (line_json file head' b)))
    → in_ascii (print (json_tokens (line_json None head a))) ≡ in_ascii (print (json_tokens (line_json None head' b)))
without_file None head head' a b e = e
without_file (Some name) head head' a b e = unnamed (codes "file") name (codes "number") _ _ e

-- APDUs that fit the tables have one line only where they are one APDU
pub line_once : (file : Option (List ℕ)) (head head' : LineHead) (a b : Apdu) → IsSmall head → IsSmall head' → FitsApdu profile_two a → FitsApdu profile_two b → json_line_of file head a ≡ json_line_of file head' b → choice_of a ≡ choice_of b
line_once file head head' a b small small' h k e =
    apdu_once None head head' a b h k
    (text_once _ _ (line_written head a small h) (line_written head' b small' k) (without_file file head head' a b (append_cancel_right _ _ (codes "\n") e)))
