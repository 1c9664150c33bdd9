-- How long a text may be: by far no longer than the normal form allows, since that is within the limit.
use Rattle.std.proofs.Common.{◌≡◌, ℕ, zero, suc, ◌+◌, ◌-◌, ◌*◌, ◌^◌, ◌<◌, ◌≤◌, ℤ, pos, negsuc, ◌&&◌, Bool, true, false, IsTrue, List, [], ◌∷◌, ◌++◌, length, Option, Some, None, refl, sym, subst, arith, codes, decimal, slice_get, length-append}
use Rattle.std.specs.Prelude.{not, nat_eq, nat_le, if◌then◌else◌}
use Rattle.std.proofs.lemmas.Bool.Decides.{nat_tests}
use Rattle.std.proofs.lemmas.Int.{ints}
use Rattle.std.specs.Fmt.{signed_decimal}
use Rattle.std.specs.List.{list_all}
use Rattle.std.proofs.lemmas.Fmt.{length-decimal-le_succ, length_signed_le}
use lib.Signed.{mag}
use Rattle.std.proofs.Common.{neg_ℤ, ◌≤ℤ◌}
use Rattle.itoa.proofs.Decimal.{length_wide}
use Rattle.ber_core.specs.Der.{size, sizes}
use Rattle.ber_tree.specs.Identifier.{Tag}
use Rattle.ber_tree.specs.Tree.{Tree, Trees, none, more}
use Rattle.ber_core.proofs.Encodings.{length-encoding}
use Rattle.ber_leaf.specs.Leaf.{Leaf, bit_string, integer, enumerated, Holds, cleared_last, normal_content}
use Rattle.ber_leaf.specs.Profile.{Profile, profile_two}
use Rattle.ber_leaf.specs.Simple.{Simple, flag, whole, date, time, printable, general, visible, null, oid, binary, bits, descriptor}
use Rattle.ber_leaf.proofs.Integers.{whole_bounds}
use Rattle.ill_tables.specs.declared.node.NodeId.{NodeId}
use Rattle.ill_tables.specs.declared.node.NodeId.TheVariants.{Boolean}
use Rattle.ill_tables.specs.declared.node.Kind.{Kind}
use Rattle.ill_tables.specs.declared.part.Presence.{Presence}
use Rattle.ill_tables.specs.declared.part.Row.{Row}
use Rattle.ill_tables.specs.declared.profile.Profile.{Profile as Named}
use Rattle.ill_schema.specs.Apdu.{Apdu, SpellsApdu, choice_of, root}
use Rattle.ill_schema.specs.Content.{Content, simple, sequence, list, alternative, foreign, Entries, no_entries, absent, present, Items, no_items, item}
use Rattle.ill_schema.specs.Fits.{Fits, FitRows, FitItems, FitsSimple}
use Rattle.ill_tables.specs.Names.{names_of}
use Rattle.ill_schema.specs.Normal.{normal_tree, normal_trees, normal_items}
use Rattle.ill_schema.specs.Profiles.{profile_of}
use Rattle.ill_schema.specs.Presence.{default_value, is_default, is_default_of, same_value}
use Rattle.ill_tables.specs.Table.{kind_of, rows_of}
use Rattle.ill_schema.specs.Tagging.{Tagging, untagged, implicit, explicit, explicit_or_bare, sequence_tag, tag_tree, tagging}
use Rattle.ill_schema.proofs.MeansFits.{means_apdu_fits}
use Rattle.ill_schema.proofs.Tags.{at_row}
use Rattle.ill_tables.specs.Numbers.{number_name, numbers_of}
use Rattle.ill_tables.specs.declared.number.Enumeration.{Enumeration}
use Rattle.ill_tables.specs.declared.number.Enumeration.TheVariants.{Conditions}
use Rattle.ill_tables.proofs.NumberNames.{number_name_has}
use Rattle.ill_schema.specs.Texts.{hexadecimal}
use Rattle.ill_tables.specs.Names.{name_or_none, row_name}
use Rattle.ill_text.specs.Shown.{Place, body_place_in, content_text, entry_lines, in_brackets, is_empty, is_named, item_lines, item_of, leaf_text, line, lines_of, part, quoted, shown_text_in, text_name, tree_text, within}
use Rattle.ill_text.proofs.OctetBounds.{constructed_size, content_size, hexadecimal_size, oid_size, primitive_size, quoted_size, some_size, tree_text_size}

-- ---- names

abbrev all_short : List (List ℕ) → Bool
all_short names = list_all (λ name. nat_le (length name) 60) names

both : (a b : Bool) → IsTrue (a && b) → IsTrue a × IsTrue b
both true b h = (refl, h)
both false b h = absurd cc

short_at : (names : List (List ℕ)) (i : ℕ) → IsTrue (all_short names) → length (name_or_none (slice_get names i)) ≤ 60
short_at [] i h = omega arith
short_at (name ∷ names) zero h = let p = (both (nat_le (length name) 60) (all_short names) h).0 in grind arith
short_at (name ∷ names) (suc i) h = short_at names i (both (nat_le (length name) 60) (all_short names) h).1

names_short : (node : NodeId) → IsTrue (all_short (names_of node).1)
names_short Boolean = refl
names_short _ = refl

name_size : (node : NodeId) (i : ℕ) → length (row_name node i) ≤ 60
name_size node i = short_at (names_of node).1 i (names_short node)

within_size : (path name : List ℕ) → length (within path name) ≤ length path + length name + 1
within_size [] name = omega arith
within_size (a ∷ path) [] = omega arith
within_size (a ∷ path) (b ∷ name) = omega (arith, length-append (a ∷ path) (codes "." ++ b ∷ name))

part_size : (p : Place) (i : ℕ) → length (part p i).path ≤ length p.path + 61
part_size p i = omega (arith, within_size p.path (row_name p.node i), name_size p.node i)

item_size : (p : Place) (i : ℕ) → i < 2 ^ 64 → length (item_of p i).path ≤ length p.path + i + 3
item_size p i h =
    omega (arith, length-append (p.path ++ codes "[" ++ decimal i) (codes "]"), length-append (p.path ++ codes "[") (decimal i), length-append p.path (codes "["), length-decimal-le_succ i h)

-- ---- leaves

line_size : (path text : List ℕ) → length (line path text) ≡ length path + length text + 4
line_size path text = omega (arith, length-append (path ++ codes " = " ++ text) (codes "\n"), length-append (path ++ codes " = ") text, length-append path (codes " = "))

bracket_size : (name : Option (List ℕ)) → length (in_brackets name) ≤ length (name_or_none name) + 3
bracket_size None = omega arith
bracket_size (Some name) = omega (arith, length-append (codes " (" ++ name) (codes ")"), length-append (codes " (") name)

abbrev is_short : List ℕ → Bool
is_short name = nat_le (length name) 60

numbers_short : (type : Enumeration) → list_all (λ m. is_short m.1) (numbers_of type) ≡ true
numbers_short Conditions = refl
numbers_short _ = refl

number_size : (row : List ℕ) (z : ℤ) → length (name_or_none (text_name row z)) ≤ 60
number_size row z = by (is_named row)
  where
    by : (b : Bool) → length (name_or_none (if b then number_name row z else None)) ≤ 60
    by true = let short = number_name_has is_short refl numbers_short row z in grind (arith, nat_tests)
    by false = omega arith

whole_size : (row : List ℕ) (z : ℤ) → mag z < 2 ^ 63 → length (signed_decimal z ++ in_brackets (text_name row z)) ≤ 85
whole_size row z h =
    omega (arith, length-append (signed_decimal z) (in_brackets (text_name row z)), bracket_size (text_name row z), number_size row z, length_signed_le 20 z (omega (arith, h)) h)

-- a number that was read
mag_bound : (z : ℤ) → (neg_ℤ (pos 9_223_372_036_854_775_808) ≤ℤ z) × (z ≤ℤ pos 9_223_372_036_854_775_807) → mag z < 2 ^ 63
mag_bound (pos n) h = let top = h.1 in omega (arith, ints)
mag_bound (negsuc n) h = let low = h.0 in omega (arith, ints)

flag_size : (row : List ℕ) (b : Bool) → length (leaf_text row (flag b)) ≤ 5
flag_size row true = omega arith
flag_size row false = omega arith

-- a number is held as INTEGER or ENUMERATED
number_size_of : (q : Profile) (row : List ℕ) (z : ℤ) (leaf : Leaf) → Holds q leaf (whole z) (normal_content (whole z)) → length (leaf_text row (whole z)) ≤ 85
number_size_of q row z integer h = whole_size row z (mag_bound z ((whole_bounds q z).0 (normal_content (whole z), h)))
number_size_of q row z enumerated h = whole_size row z (mag_bound z ((whole_bounds q z).0 (normal_content (whole z), h)))
number_size_of q row z _ h = absurd (let e = h.2 in cc)

-- bits are held as BIT STRING, and are no more than their octets have
bits_few : (q : Profile) (n : ℕ) (o : List ℕ) (leaf : Leaf) → Holds q leaf (bits n o) (normal_content (bits n o)) → n ≤ 8 * length o
bits_few q n o bit_string h =
    let e : bits n o ≡ bits (8 * length o - (8 * length o - n)) (cleared_last (8 * length o - n) o) = h.2 in
    let same : n ≡ 8 * length o - (8 * length o - n) = cc in
    omega (arith, same)
bits_few q n o _ h = absurd (let e = h.2 in cc)

bits_size : (row : List ℕ) (n : ℕ) (o : List ℕ) → n < 2 ^ 64 → length (leaf_text row (bits n o)) ≤ 2 * length o + 45
bits_size row n o h = go (nat_eq n 0)
  where
    go : (b : Bool) → length (codes "bits " ++ decimal n ++ (if b then [] else codes " " ++ hexadecimal o)) ≤ 2 * length o + 45
    go true = omega (arith, length_wide n (omega (arith, h)), length-append (codes "bits " ++ decimal n) [], length-append (codes "bits ") (decimal n))
    go false =
        omega (arith, length_wide n (omega (arith, h)), hexadecimal_size o, length-append (codes "bits " ++ decimal n) (codes " " ++ hexadecimal o), length-append (codes "bits ") (decimal n), length-append (codes " ") (hexadecimal o))

leaf_size : (q : Profile) (row : List ℕ) (v : Simple) (node : NodeId) → FitsSimple q v node → length (normal_content v) < 2 ^ 60 → length (leaf_text row v) ≤ 40 * length (normal_content v) + 85
leaf_size q row (flag b) node h few = omega (arith, flag_size row b)
leaf_size q row (whole z) node h few = omega (arith, number_size_of q row z h.0 h.2)
leaf_size q row (date o) node h few = omega arith
leaf_size q row (time o) node h few = omega arith
leaf_size q row (printable o) node h few = omega (arith, quoted_size o)
leaf_size q row (general o) node h few = omega (arith, quoted_size o, length-append (codes "general ") (quoted o))
leaf_size q row (visible o) node h few = omega (arith, quoted_size o, length-append (codes "visible ") (quoted o))
leaf_size q row null node h few = omega arith
leaf_size q row (oid o) node h few = omega (arith, oid_size o)
leaf_size q row (binary o) node h few = omega (arith, content_size o, length-append (codes "octets ") (content_text o))
leaf_size q row (bits n o) node h few = omega (arith, bits_size row n o (omega (arith, few, bits_few q n o h.0 h.2)))
leaf_size q row (descriptor o) node h few = omega (arith, quoted_size o, length-append (codes "descriptor ") (quoted o))

-- a default is no text
same_size : (q : Profile) (row : List ℕ) (v w : Simple) (node : NodeId) → FitsSimple q v node → IsTrue (same_value v w) → length (leaf_text row v) ≤ 85
same_size q row (flag b) w node h e = omega (arith, flag_size row b)
same_size q row (whole z) w node h e = number_size_of q row z h.0 h.2
same_size q row (date o) w node h e = absurd cc
same_size q row (time o) w node h e = absurd cc
same_size q row (printable o) w node h e = absurd cc
same_size q row (general o) w node h e = absurd cc
same_size q row (visible o) w node h e = absurd cc
same_size q row null w node h e = absurd cc
same_size q row (oid o) w node h e = absurd cc
same_size q row (binary o) w node h e = absurd cc
same_size q row (bits n o) w node h e = absurd cc
same_size q row (descriptor o) w node h e = absurd cc

default_lines : (q : Profile) (p : Place) (pr : Presence) (k : Kind) (c : Content) (node : NodeId) → Fits q c node → IsTrue (is_default_of pr k c) → length (lines_of p c) ≤ length p.path + 89
default_lines q p (Presence.Default d) k (simple v) node h e =
    omega (arith, same_size q p.name v (default_value k d) node h e, line_size p.path (leaf_text p.name v))
default_lines q p (Presence.Default d) k (sequence es) node h e = absurd cc
default_lines q p (Presence.Default d) k (list is) node h e = absurd cc
default_lines q p (Presence.Default d) k (alternative n c) node h e = absurd cc
default_lines q p (Presence.Default d) k (foreign T) node h e = absurd cc
default_lines q p Presence.Must k c node h e = absurd cc
default_lines q p Presence.May k c node h e = absurd cc
default_lines q p Presence.LeftOut k c node h e = absurd cc

-- ---- normal trees

-- a tag only adds
tagged_size : (g : Tagging) (own : Tag) (f : Tag → Tree) (n : ℕ) → ((t : Tag) → n ≤ size (f t)) → n ≤ size (tag_tree g own f)
tagged_size untagged own f n h = h own
tagged_size (implicit t) own f n h = h t
tagged_size (explicit t) own f n h = omega (arith, h own, constructed_size t (more (f own) none))
tagged_size (explicit_or_bare t) own f n h = omega (arith, h own, constructed_size t (more (f own) none))

-- no node has more rows
rows_few : (node : NodeId) → length (rows_of node) ≤ 31
rows_few Boolean = omega arith
rows_few _ = omega arith

-- no alternative of a choice is a choice
abbrev is_choice : Kind → Bool
is_choice Kind.Choice = true
is_choice _ = false

abbrev no_choices : NodeId → Bool
no_choices node = if is_choice (kind_of node) then list_all (λ row. not (is_choice (kind_of row.node))) (rows_of node) else true

choices_apart : (node : NodeId) → IsTrue (no_choices node)
choices_apart Boolean = refl
choices_apart _ = refl

no_choice : (node : NodeId) (n : ℕ) (row : Row) → kind_of node ≡ Kind.Choice → slice_get (rows_of node) n ≡ Some row → IsTrue (not (is_choice (kind_of row.node)))
no_choice node n row e f =
    let rows : IsTrue (list_all (λ (row : Row). not (is_choice (kind_of row.node))) (rows_of node)) =
    subst (λ (k : Kind). IsTrue (if is_choice k then list_all (λ row. not (is_choice (kind_of row.node))) (rows_of node) else true)) e (choices_apart node) in
    at_row (λ (row : Row). not (is_choice (kind_of row.node))) (rows_of node) n row rows f

-- what the name of a choice's row adds to a path, though nothing to a normal form
abbrev more_path : Content → ℕ
more_path (alternative n c) = 61
more_path _ = 0

little_more_path : (c : Content) → more_path c ≤ 61
little_more_path (simple v) = omega arith
little_more_path (sequence es) = omega arith
little_more_path (list is) = omega arith
little_more_path (alternative n c) = omega arith
little_more_path (foreign T) = omega arith

no_more_path : (q : Profile) (c : Content) (node : NodeId) → Fits q c node → IsTrue (not (is_choice (kind_of node))) → more_path c ≡ 0
no_more_path q (simple v) node h other = refl
no_more_path q (sequence es) node h other = refl
no_more_path q (list is) node h other = refl
no_more_path q (foreign T) node h other = refl
no_more_path q (alternative n c) node h other = absurd (let e = h.1.0 in apart (kind_of node) e other)
  where
    apart : (k : Kind) → k ≡ Kind.Choice → IsTrue (not (is_choice k)) → ⊥
    apart k e other = let f = subst (λ (x : Kind). IsTrue (not (is_choice x))) e other in cc

-- the tree of an alternative is that of its row
alternative_size : (c : Content) (node : NodeId) (n : ℕ) (g : Tagging) (row : Row) → slice_get (rows_of node) n ≡ Some row
    → size (normal_tree c row.node (tagging profile_two row)) ≤ size (normal_tree (alternative n c) node g)
alternative_size c node n g row e = tagged_size g sequence_tag _ _ (λ t. rw e (omega arith))

-- ---- values

-- how long a path may be, a line of a row's default, and what an octet of the normal form stands for
abbrev longest : ℕ
longest = 134_217_728

abbrev row_room : ℕ
row_room = 134_217_900

abbrev octet_room : ℕ
octet_room = 4_294_967_296

sequence_bound : (es : Entries) (p : Place) (n : ℕ) → length p.path + 100 * n ≤ longest → 2 ≤ n → length (entry_lines p 0 es) ≤ octet_room * n → length (lines_of p (sequence es)) ≤ octet_room * n
sequence_bound es p n le some k = go (is_empty es)
  where
    go : (b : Bool) → length (if b then line p.path (codes "{}") else entry_lines p 0 es) ≤ octet_room * n
    go true = omega (arith, le, some, line_size p.path (codes "{}"))
    go false = k

-- the trees of an entry that is there, which is its row's default or not, and of those after it
abbrev entry_trees : Bool → Row → Content → Entries → List Row → Trees
entry_trees is_default row c es rows = elim is_default as (λ _. Trees) [
  | true ↦ normal_trees es rows
  | false ↦ more (normal_tree c row.node (tagging profile_two row)) (normal_trees es rows)
]

present_bound : (q : Profile) (b : Bool) (row : Row) (c : Content) (es : Entries) (rows : List Row) (p : Place) (i : ℕ) → is_default row c ≡ b → Fits q c row.node
    → length p.path + 122 + 100 * sizes (entry_trees b row c es rows) ≤ longest
    → (length (part p i).path + more_path c + 100 * size (normal_tree c row.node (tagging profile_two row)) ≤ longest → length (lines_of (part p i) c) ≤ octet_room * size (normal_tree c row.node (tagging profile_two row)))
    → (length p.path + 122 + 100 * sizes (normal_trees es rows) ≤ longest → length (entry_lines p (suc i) es) ≤ row_room * length rows + octet_room * sizes (normal_trees es rows))
    → length (lines_of (part p i) c ++ entry_lines p (suc i) es) ≤ row_room * suc (length rows) + octet_room * sizes (entry_trees b row c es rows)
present_bound q true row c es rows p i e h le first others =
    let lines = default_lines q (part p i) row.presence (kind_of row.node) c row.node h e in
    omega (arith, le, lines, part_size p i, others le, length-append (lines_of (part p i) c) (entry_lines p (suc i) es))
present_bound q false row c es rows p i e h le first others =
    let room : length (part p i).path + more_path c + 100 * size (normal_tree c row.node (tagging profile_two row)) ≤ longest = omega (arith, le, part_size p i, little_more_path c) in
    omega (arith, first room, others (omega (arith, le)), length-append (lines_of (part p i) c) (entry_lines p (suc i) es))

mutual
  value_bound : (q : Profile) (c : Content) (node : NodeId) (g : Tagging) (p : Place) → Fits q c node → length p.path + more_path c + 100 * size (normal_tree c node g) ≤ longest
      → length (lines_of p c) ≤ octet_room * size (normal_tree c node g)
  value_bound q (simple v) node g p h le =
      let n : length (normal_content v) + 2 ≤ size (normal_tree (simple v) node g) = tagged_size g _ _ _ (λ t. primitive_size t (normal_content v)) in
      omega (arith, le, n, leaf_size q p.name v node h (omega (arith, le, n)), line_size p.path (leaf_text p.name v))
  value_bound q (sequence es) node g p h le =
      let n : sizes (normal_trees es (rows_of node)) + 2 ≤ size (normal_tree (sequence es) node g) = tagged_size g _ _ _ (λ t. constructed_size t (normal_trees es (rows_of node))) in
      let inside = entries_bound q es (rows_of node) p 0 h.1 (omega (arith, le, n)) in
      sequence_bound es p (size (normal_tree (sequence es) node g)) (omega (arith, le)) (omega (arith, n)) (omega (arith, n, inside, rows_few node))
  value_bound q (list no_items) node g p h le =
      omega (arith, le, some_size (normal_tree (list no_items) node g), line_size p.path (codes "[]"))
  value_bound q (list (item c is)) node g p h le =
      let n : sizes (normal_items (item c is) (rows_of node)) + 2 ≤ size (normal_tree (list (item c is)) node g) = tagged_size g _ _ _ (λ t. constructed_size t (normal_items (item c is) (rows_of node))) in
      omega (arith, n, items_bound q (item c is) (rows_of node) p 0 h.1 (omega (arith, le, n)))
  value_bound q (foreign T) node g p h le =
      let n : size T ≤ size (normal_tree (foreign T) node g) = tagged_size g _ _ _ (λ t. omega arith) in
      omega (arith, le, n, some_size T, tree_text_size T, line_size p.path (codes "foreign " ++ tree_text T), length-append (codes "foreign ") (tree_text T))
  value_bound q (alternative n c) node g p h le =
      let row = h.0 in
      let s = alternative_size c node n g row h.1.1 in
      let none = no_more_path q c row.node h.2 (no_choice node n row h.1.0 h.1.1) in
      omega (arith, s, value_bound q c row.node (tagging profile_two row) (part p n) h.2 (omega (arith, le, s, none, part_size p n)))

  entries_bound : (q : Profile) (es : Entries) (rows : List Row) (p : Place) (i : ℕ) → FitRows q es rows → length p.path + 122 + 100 * sizes (normal_trees es rows) ≤ longest
      → length (entry_lines p i es) ≤ row_room * length rows + octet_room * sizes (normal_trees es rows)
  entries_bound q no_entries [] p i h le = omega arith
  entries_bound q no_entries (row ∷ rows) p i h le = absurd h
  entries_bound q (absent es) [] p i h le = absurd h
  entries_bound q (absent es) (row ∷ rows) p i h le = omega (arith, entries_bound q es rows p (suc i) h.1 le)
  entries_bound q (present c es) [] p i h le = absurd h
  entries_bound q (present c es) (row ∷ rows) p i h le =
      present_bound q (is_default row c) row c es rows p i refl h.1 le (λ fits. value_bound q c row.node (tagging profile_two row) (part p i) h.1 fits) (λ fits. entries_bound q es rows p (suc i) h.2 fits)

  items_bound : (q : Profile) (is : Items) (rows : List Row) (p : Place) (i : ℕ) → FitItems q is rows → length p.path + i + 164 + 100 * sizes (normal_items is rows) ≤ longest
      → length (item_lines p i is) ≤ octet_room * sizes (normal_items is rows)
  items_bound q no_items rows p i h le = omega arith
  items_bound q (item c is) [] p i h le = absurd (let e = h.1 in cc)
  items_bound q (item c is) (row ∷ rows) p i h le =
      let same : row ≡ h.0 = let e = h.1 in cc in
      let fits : Fits q c row.node = subst (λ (r : Row). Fits q c r.node) (sym same) h.2 in
      let some = some_size (normal_tree c row.node (tagging profile_two row)) in
      let small : i < 2 ^ 64 = omega (arith, le) in
      let first = value_bound q c row.node (tagging profile_two row) (item_of p i) fits (omega (arith, le, some, item_size p i small, little_more_path c)) in
      omega (arith, first, items_bound q is (row ∷ rows) p (suc i) h.3 (omega (arith, le, some)), length-append (lines_of (item_of p i) c) (item_lines p (suc i) is))

-- the text of a message
head_size : (i : ℕ) (name : List ℕ) → i < 2 ^ 64 → length name ≤ 60 → length (codes "message " ++ decimal i ++ codes " " ++ name ++ codes "\n") ≤ 200
head_size i name small short =
    let number : length (decimal i) ≤ 39 = length_wide i (omega (arith, small)) in
    let a = length-append (codes "message ") (decimal i) in
    let b = length-append (codes "message " ++ decimal i) (codes " ") in
    let c = length-append (codes "message " ++ decimal i ++ codes " ") name in
    omega (arith, number, short, a, b, c, length-append (codes "message " ++ decimal i ++ codes " " ++ name) (codes "\n"))

-- the text of an APDU that some octets spell
pub text_bound : (p : Named) (i : ℕ) (a : Apdu) (b : List ℕ) → i < 2 ^ 64 → SpellsApdu (profile_of p) a b → length (shown_text_in (profile_of p) i a) < 2 ^ 62
text_bound p i a b small h =
    let q = profile_of p in
    let node = root q in
    let fits = means_apdu_fits q a h.encodes.tree h.encodes.means in
    let row = fits.1.0 in
    let n : size (normal_tree (choice_of a) node untagged) ≤ 1_048_576 = omega (arith, h.normal_short, length-encoding (normal_tree (choice_of a) node untagged)) in
    let s = alternative_size a.body node (a.number - 1) untagged row fits.1.1.1 in
    let none = no_more_path q a.body row.node fits.1.2 (no_choice node (a.number - 1) row fits.1.1.0 fits.1.1.1) in
    let lines = value_bound q a.body row.node (tagging profile_two row) (body_place_in q a) fits.1.2 (omega (arith, n, s, none)) in
    let head = codes "message " ++ decimal i ++ codes " " ++ row_name node (a.number - 1) ++ codes "\n" in
    omega (arith, n, s, lines, head_size i (row_name node (a.number - 1)) small (name_size node (a.number - 1)), length-append head (lines_of (body_place_in q a) a.body))
