-- The text of a line is read back as the value that it was written of, and so says its APDU.
use Rattle.std.proofs.Common.{◌≡◌, ℕ, zero, suc, ◌+◌, ◌-◌, ◌*◌, ◌/◌, ◌%◌, ◌^◌, ◌<◌, ◌≤◌, min, Bool, true, false, cond, ◌&&◌, IsTrue, IsUtf8, List, [], ◌∷◌, ◌++◌, append_assoc, codes, decimal, flat_map, length, nat_lt, slice_index, Option, Some, None, option_and_then, refl, sym, ap, subst, ◌∙◌, arith, lit≤, slice_get, ltb-true, if◌then◌else◌, ℤ}
use Rattle.std.specs.Char.{digit_char}
use Rattle.std.specs.Char.Escape.{encode_utf16}
use Rattle.std.specs.List.{list_all}
use Rattle.std.specs.Str.{IsAscii, chars}
use Rattle.std.proofs.lemmas.Bool.{and_parts}
use Rattle.std.proofs.lemmas.Fmt.{IsAscii-decimal}
use Rattle.std.proofs.lemmas.Str.{IsAscii-append, IsUtf8-from_ascii, chars-nil}
use Rattle.std.proofs.lemmas.Str.Ascii.{IsAscii-cons, IsAscii-nil}
use Rattle.json.specs.Json.{Json, Members, document, if_last, max_depth, value}
use Rattle.json.specs.Json as json
use Rattle.json.specs.Lex.{Lexeme, between, comma, fresh, lex, punctuate, tokens}
use Rattle.json.specs.Print.{ArePrintable, begins, ends, print, print_from, token_text}
use Rattle.json.specs.Token.{Token}
use Rattle.json.specs.Tree.{MembersHaveNumbers, depth, items_depth, json_tokens, members_depth}
use Rattle.json.specs.Word.{ends_word}
use Rattle.json.proofs.Printed.Decimals.{IsNumber-decimal}
use Rattle.json.proofs.Printed.Trees.{ArePrintable-json_tokens, document-print}
use Rattle.ber_core.specs.Der.{encoding}
use Rattle.ber_leaf.specs.Leaf.{Leaf, Holds, normal_content}
use Rattle.ber_leaf.specs.Profile.{Profile}
use Rattle.ber_leaf.specs.Simple.{Simple, flag, whole, date, time, printable, general, visible, null, oid, binary, bits, descriptor}
use Rattle.ill_json.specs.Json.{entry_members, head_members, in_member, item_values, json_line_in, leaf_json, line_json_in, line_of, number_json, plain, unit_text, value_json, with_file, with_profile}
use Rattle.ill_json.specs.declared.line.LineHead.{LineHead}
use Rattle.ill_json.proofs.InAscii.{AreTexts, AreTexts-json_tokens, IsUtf8-are_low, MembersHaveTexts, are_low, ends_in_ascii, in_ascii, in_ascii-append, in_ascii-cons, lex-token, token_utf8, value_ends}
use Rattle.ill_json.proofs.OneToOne.{From, IsUtf8-characters, IsUtf8-number_name, IsUtf8-row_name, IsWritten, from_all, from_here, from_next, member_written, number_written, row_fits, whole_size}
use Rattle.ill_schema.specs.Apdu.{Apdu, normal_form_in, root, root_of}
use Rattle.ill_schema.specs.Content.{Content, simple, sequence, list, alternative, foreign, Entries, no_entries, absent, present, Items, no_items, item}
use Rattle.ill_schema.specs.Fits.{Fits, FitItems, FitRows, FitsApdu}
use Rattle.ill_schema.specs.Profiles.{profile_of}
use Rattle.ill_schema.specs.TableFacts.{rank}
use Rattle.ill_schema.specs.Tagging.{leaf_of}
use Rattle.ill_schema.specs.Texts.{after_dot, digits, hexadecimal, numbers_after, oid_components, oid_text, with_dots}
use Rattle.ill_tables.specs.Names.{node_or_left_out, row_name, row_node}
use Rattle.ill_tables.specs.Numbers.{number_name}
use Rattle.ill_tables.specs.Table.{kind_of, rows_of}
use Rattle.ill_tables.specs.declared.node.Kind.{Kind}
use Rattle.ill_tables.specs.declared.node.NodeId.{NodeId}
use Rattle.ill_tables.specs.declared.part.Row.{Row}
use Rattle.ill_tables.specs.declared.profile.Profile.{Profile as Named}
use Rattle.oid_text.specs.Numbers.{are_short}
use Rattle.oid_text.proofs.Dots.{short_parts}
use Rattle.oid_text.proofs.OidTexts.{great_text, short_text}
use Rattle.ill_build.specs.Line.{SaysApdu}
use Rattle.ill_build.specs.Shown.{EachEntry, EachItem, IsFileName, IsHead, IsInOctets, IsSayable, IsShort}
use Rattle.ill_build.proofs.Choices.{row_below}
use Rattle.ill_build.proofs.OneSaid.{apdu_said_once}
use Rattle.ill_build.proofs.PartSizes.{apdu_sayable}
use Rattle.ill_build.proofs.ShownSaid.{line_said}

-- ---- texts in ASCII

-- parts in ASCII, one after another
ascii_parts : (text : ℕ → List ℕ) (xs : List ℕ) → ((x : ℕ) → IsAscii (text x)) → IsAscii (flat_map text xs)
ascii_parts text [] h = IsAscii-nil
ascii_parts text (x ∷ xs) h = IsAscii-append (text x) (flat_map text xs) (h x) (ascii_parts text xs h)

-- a digit is in ASCII
small_digit : (d : ℕ) → d < 16 → digit_char d < 128
small_digit d h = by (nat_lt d 10)
  where
    by : (b : Bool) → cond b (48 + d) (87 + d) < 128
    by true = omega (arith, h)
    by false = omega (arith, h)

-- a unit of UTF-16, by its digits
unit_ascii : (u : ℕ) → IsAscii (unit_text u)
unit_ascii u =
    let a = digit_char (u / 4096 % 16) in
    let b = digit_char (u / 256 % 16) in
    let c = digit_char (u / 16 % 16) in
    let d = digit_char (u % 16) in
    IsAscii-cons 92 (117 ∷ a ∷ b ∷ c ∷ d ∷ []) (omega arith) (IsAscii-cons 117 (a ∷ b ∷ c ∷ d ∷ []) (omega arith)
    (IsAscii-cons a (b ∷ c ∷ d ∷ []) (small_digit (u / 4096 % 16) (omega arith)) (IsAscii-cons b (c ∷ d ∷ []) (small_digit (u / 256 % 16) (omega arith))
    (IsAscii-cons c (d ∷ []) (small_digit (u / 16 % 16) (omega arith)) (IsAscii-cons d [] (small_digit (u % 16) (omega arith)) IsAscii-nil)))))

-- a character, by itself or by its units
plain_ascii : (c : ℕ) → IsAscii (plain c)
plain_ascii c = by (nat_lt c 0x7F) refl
  where
    by : (b : Bool) → nat_lt c 0x7F ≡ b → IsAscii (if b then c ∷ [] else flat_map unit_text (encode_utf16 c))
    by true e = let small = ltb-true c 0x7F e in IsAscii-cons c [] (omega (arith, small)) IsAscii-nil
    by false e = ascii_parts unit_text (encode_utf16 c) unit_ascii

-- a line is UTF-8
line_utf8 : (j : Json) → IsUtf8 (line_of j)
line_utf8 j =
    let text = flat_map plain (chars (print (json_tokens j))) in
    IsUtf8-from_ascii (line_of j) (IsAscii-append text (codes "\n") (ascii_parts plain (chars (print (json_tokens j))) plain_ascii) (IsAscii-cons 10 [] (omega arith) IsAscii-nil))

-- whatever stands at an index of a text in ASCII
hexadecimal_digit : (octets : List ℕ) (n : ℕ) → list_all (λ o. nat_lt o 128) octets ≡ true → slice_index octets n < 128
hexadecimal_digit [] n h = omega arith
hexadecimal_digit (o ∷ octets) zero h = ltb-true o 128 (and_parts (nat_lt o 128) (list_all (λ x. nat_lt x 128) octets) h).0
hexadecimal_digit (o ∷ octets) (suc n) h = hexadecimal_digit octets n (and_parts (nat_lt o 128) (list_all (λ x. nat_lt x 128) octets) h).1

-- hexadecimal digits, of any numbers
hexadecimal_ascii : (octets : List ℕ) → IsAscii (hexadecimal octets)
hexadecimal_ascii octets = ascii_parts digits octets (λ octet.
    let small : (n : ℕ) → slice_index (codes "0123456789abcdef") n < 128 = λ n. hexadecimal_digit (codes "0123456789abcdef") n refl in
    let high = slice_index (codes "0123456789abcdef") (octet / 16) in
    let low = slice_index (codes "0123456789abcdef") (octet % 16) in
    IsAscii-cons high (low ∷ []) (small (octet / 16)) (IsAscii-cons low [] (small (octet % 16)) IsAscii-nil))

-- a number behind a dot
after_dot_ascii : (n : ℕ) → n < 2 ^ 63 → IsAscii (after_dot n)
after_dot_ascii n h = IsAscii-cons 46 (decimal n) (omega arith) (IsAscii-decimal n (omega (arith, h)))

-- numbers behind dots
dots_ascii : (ns : List ℕ) → IsTrue (are_short ns) → IsAscii (flat_map after_dot ns)
dots_ascii [] h = IsAscii-nil
dots_ascii (n ∷ ns) h = let p = short_parts n ns h in IsAscii-append (after_dot n) (flat_map after_dot ns) (after_dot_ascii n p.0) (dots_ascii ns p.1)

-- the numbers of an OBJECT IDENTIFIER
components_ascii : (ns : List ℕ) → IsTrue (are_short ns) → IsAscii (with_dots (oid_components ns))
components_ascii [] h = IsAscii-nil
components_ascii (n ∷ ns) h =
    let p = short_parts n ns h in
    let few = p.0 in
    let r = min 2 (n / 40) in
    let s = n - 40 * r in
    IsAscii-append (decimal r) (after_dot s ++ flat_map after_dot ns) (IsAscii-decimal r (omega arith))
    (IsAscii-append (after_dot s) (flat_map after_dot ns) (after_dot_ascii s (omega (arith, few))) (dots_ascii ns p.1))

-- the text of an OBJECT IDENTIFIER
oid_ascii : (octets : List ℕ) → IsAscii (oid_text octets)
oid_ascii octets = by (are_short (numbers_after 0 octets)) refl
  where
    by : (b : Bool) → are_short (numbers_after 0 octets) ≡ b → IsAscii (oid_text octets)
    by true e = subst IsAscii (sym (short_text octets e)) (components_ascii (numbers_after 0 octets) e)
    by false e =
        let word : IsAscii (codes "oid ") = λ i. hexadecimal_digit (codes "oid ") i refl in
        subst IsAscii (sym (great_text octets e)) (IsAscii-append (codes "oid ") (hexadecimal octets) word (hexadecimal_ascii octets))

-- ---- values that are written and read back

hexadecimal_written : (octets : List ℕ) → IsUtf8 (hexadecimal octets)
hexadecimal_written octets = IsUtf8-from_ascii (hexadecimal octets) (hexadecimal_ascii octets)

-- a leaf
leaf_written : (p : Profile) (row : List ℕ) (k : Kind) (v : Simple) (l : Leaf) → leaf_of k v ≡ Some l → Holds p l v (normal_content v) → IsShort v → IsWritten (leaf_json row v)
leaf_written p row k (flag b) l e h short = (tt, tt)
leaf_written p row k (whole z) l e h short = number_written z (number_name row z) (whole_size p k l z e h) (IsUtf8-number_name row z)
leaf_written p row k (date o) l e h short = (tt, IsUtf8-characters o h.0)
leaf_written p row k (time o) l e h short = (tt, IsUtf8-characters o h.0)
leaf_written p row k (printable o) l e h short = (tt, IsUtf8-characters o h.0)
leaf_written p row k (general o) l e h short = ((tt, tt), (IsUtf8-are_low _ refl, IsUtf8-characters o h.0, tt))
leaf_written p row k (visible o) l e h short = ((tt, tt), (IsUtf8-are_low _ refl, IsUtf8-characters o h.0, tt))
leaf_written p row k null l e h short = (tt, tt)
leaf_written p row k (oid o) l e h short = (tt, IsUtf8-from_ascii (oid_text o) (oid_ascii o))
leaf_written p row k (binary o) l e h short = ((tt, tt), (IsUtf8-are_low _ refl, hexadecimal_written o, tt))
leaf_written p row k (bits n o) l e h short =
    ((IsNumber-decimal n (omega (arith, short)), (tt, tt)), (IsUtf8-are_low _ refl, tt, (IsUtf8-are_low _ refl, hexadecimal_written o, tt)))
leaf_written p row k (descriptor o) l e h short = (tt, IsUtf8-characters o h.0)

mutual
  -- a value that fits
  value_written : (p : Profile) (row : List ℕ) (node : NodeId) (c : Content) → Fits p c node → IsSayable c → IsWritten (value_json row node c)
  value_written p row node (simple v) h short = leaf_written p row (kind_of node) v h.0 h.1 h.2 short
  value_written p row node (sequence es) h short = entries_written p node 0 (rows_of node) es (from_all (rows_of node)) h.1 short
  value_written p row node (list is) h short = items_written p row node is h.1 short
  value_written p row node (alternative n c) h short =
      member_written (row_name node n) _ (IsUtf8-row_name node n) (value_written p (row_name node n) (row_node node n) c (row_fits p node n c h.0 h.1.1 h.2) short)
  value_written p row node (foreign T) h short = ((tt, tt), (IsUtf8-are_low _ refl, hexadecimal_written (encoding T), tt))

  entries_written : (p : Profile) (node : NodeId) (i : ℕ) (rows : List Row) (es : Entries) → From rows i (rows_of node) → FitRows p es rows → EachEntry IsShort IsInOctets es → IsWritten (json.object (entry_members node i es))
  entries_written p node i rows no_entries from h short = (tt, tt)
  entries_written p node i [] (absent es) from h short = absurd h
  entries_written p node i [] (present c es) from h short = absurd h
  entries_written p node i (row ∷ rows) (absent es) from h short = entries_written p node (suc i) rows es (from_next row rows i (rows_of node) from) h.1 short
  entries_written p node i (row ∷ rows) (present c es) from h short =
      let at = from_here row rows i (rows_of node) from in
      let v = value_written p (row_name node i) (row_node node i) c (row_fits p node i c row at h.1) short.0 in
      let rest = entries_written p node (suc i) rows es (from_next row rows i (rows_of node) from) h.2 short.1 in
      ((v.0, rest.0), (IsUtf8-row_name node i, v.1, rest.1))

  items_written : (p : Profile) (row : List ℕ) (node : NodeId) (is : Items) → FitItems p is (rows_of node) → EachItem IsShort IsInOctets is → IsWritten (json.array (item_values row (row_node node 0) is))
  items_written p row node no_items h short = (tt, tt)
  items_written p row node (item c is) h short =
      let v = value_written p row (row_node node 0) c (row_fits p node 0 c h.0 h.1 h.2) short.0 in
      let rest = items_written p row node is h.3 short.1 in
      ((v.0, rest.0), (v.1, rest.1))

abbrev AreWritten : Members → Type 0
AreWritten ms = MembersHaveNumbers ms × MembersHaveTexts ms

-- one member more
with_member : (name : List ℕ) (v : Json) (ms : Members) → are_low name ≡ true → IsWritten v → AreWritten ms → AreWritten (json.member name v ms)
with_member name v ms low w rest = ((w.0, rest.0), (IsUtf8-are_low name low, w.1, rest.1))

-- the members of a line, from the profile's on
profile_written : (full : Bool) (ms : Members) → AreWritten ms → AreWritten (with_profile full ms)
profile_written false ms h = h
profile_written true ms h = with_member (codes "profile") (json.string (codes "module")) ms refl (tt, IsUtf8-are_low (codes "module") refl) h

-- and from the file's name on
file_written : (file : Option (List ℕ)) (ms : Members) → IsFileName file → AreWritten ms → AreWritten (with_file file ms)
file_written None ms name h = h
file_written (Some text) ms name h = with_member (codes "file") (json.string text) ms refl (tt, name) h

-- the whole of a line
line_written : (full : Bool) (file : Option (List ℕ)) (head : LineHead) (apdu : List ℕ) (v : Json) → IsFileName file → IsHead head → IsUtf8 apdu → IsWritten v
    → IsWritten (json.object (with_file file (head_members full head apdu (json.member (codes "value") v json.no_members))))
line_written full file head apdu v name small u w =
    let whole_number : (n : ℕ) → n < 2 ^ 64 → IsWritten (json.number (decimal n)) = λ n h. (IsNumber-decimal n h, tt) in
    let last : Members = json.member (codes "value") v json.no_members in
    let normal : Members = json.member (codes "normal") (json.boolean head.is_normal) last in
    let named : Members = json.member (codes "apdu") (json.string apdu) (with_profile full normal) in
    let octets : Members = json.member (codes "octets") (json.number (decimal head.octets)) named in
    let offset : Members = json.member (codes "offset") (json.number (decimal head.offset)) octets in
    file_written file (head_members full head apdu last) name
    (with_member (codes "number") (json.number (decimal head.number)) offset refl (whole_number head.number small.0)
    (with_member (codes "offset") (json.number (decimal head.offset)) octets refl (whole_number head.offset small.1)
    (with_member (codes "octets") (json.number (decimal head.octets)) named refl (whole_number head.octets small.2)
    (with_member (codes "apdu") (json.string apdu) (with_profile full normal) refl (tt, u)
    (profile_written full normal
    (with_member (codes "normal") (json.boolean head.is_normal) last refl (tt, tt)
    (with_member (codes "value") v json.no_members refl w (tt, tt))))))))

-- ---- depths

-- a number that is less for each row of a type than for the type
abbrev IsMeasure : (NodeId → ℕ) → Type 0
IsMeasure r = (node : NodeId) (n : ℕ) (row : Row) → slice_get (rows_of node) n ≡ Some row → r (row_node node n) < r node

-- leaves have at most one level
number_depth : (z : ℤ) (name : Option (List ℕ)) → depth (number_json z name) ≤ 1
number_depth z None = omega arith
number_depth z (Some name) = omega arith

leaf_depth : (row : List ℕ) (v : Simple) → depth (leaf_json row v) ≤ 1
leaf_depth row (flag b) = omega arith
leaf_depth row (whole z) = number_depth z (number_name row z)
leaf_depth row (date o) = omega arith
leaf_depth row (time o) = omega arith
leaf_depth row (printable o) = omega arith
leaf_depth row (general o) = omega arith
leaf_depth row (visible o) = omega arith
leaf_depth row null = omega arith
leaf_depth row (oid o) = omega arith
leaf_depth row (binary o) = omega arith
leaf_depth row (bits n o) = omega arith
leaf_depth row (descriptor o) = omega arith

-- a member adds at most one level
member_depth : (name : List ℕ) (v : Json) → depth (in_member name v) ≤ suc (depth v)
member_depth [] v = omega arith
member_depth (letter ∷ name) v = omega arith

mutual
  -- a value has one level more than the number of its type
  value_depth : (r : NodeId → ℕ) → IsMeasure r → (p : Profile) (row : List ℕ) (node : NodeId) (c : Content) → Fits p c node → depth (value_json row node c) ≤ suc (r node)
  value_depth r less p row node (simple v) h = let d = leaf_depth row v in omega (arith, d)
  value_depth r less p row node (sequence es) h = let d = entries_depth r less p node 0 (rows_of node) es (from_all (rows_of node)) h.1 in omega (arith, d)
  value_depth r less p row node (list is) h = let d = items_depth_of r less p row node is h.1 in omega (arith, d)
  value_depth r less p row node (alternative n c) h =
      let v = value_json (row_name node n) (row_node node n) c in
      let d : depth v ≤ suc (r (row_node node n)) = value_depth r less p (row_name node n) (row_node node n) c (row_fits p node n c h.0 h.1.1 h.2) in
      omega (arith, d, member_depth (row_name node n) v, less node n h.0 h.1.1)
  value_depth r less p row node (foreign T) h = omega arith

  entries_depth : (r : NodeId → ℕ) → IsMeasure r → (p : Profile) (node : NodeId) (i : ℕ) (rows : List Row) (es : Entries) → From rows i (rows_of node) → FitRows p es rows → members_depth (entry_members node i es) ≤ r node
  entries_depth r less p node i rows no_entries from h = omega arith
  entries_depth r less p node i [] (absent es) from h = absurd h
  entries_depth r less p node i [] (present c es) from h = absurd h
  entries_depth r less p node i (row ∷ rows) (absent es) from h = entries_depth r less p node (suc i) rows es (from_next row rows i (rows_of node) from) h.1
  entries_depth r less p node i (row ∷ rows) (present c es) from h =
      let at = from_here row rows i (rows_of node) from in
      let d : depth (value_json (row_name node i) (row_node node i) c) ≤ suc (r (row_node node i)) = value_depth r less p (row_name node i) (row_node node i) c (row_fits p node i c row at h.1) in
      let rest : members_depth (entry_members node (suc i) es) ≤ r node = entries_depth r less p node (suc i) rows es (from_next row rows i (rows_of node) from) h.2 in
      omega (arith, d, rest, less node i row at)

  items_depth_of : (r : NodeId → ℕ) → IsMeasure r → (p : Profile) (row : List ℕ) (node : NodeId) (is : Items) → FitItems p is (rows_of node) → items_depth (item_values row (row_node node 0) is) ≤ r node
  items_depth_of r less p row node no_items h = omega arith
  items_depth_of r less p row node (item c is) h =
      let d : depth (value_json row (row_node node 0) c) ≤ suc (r (row_node node 0)) = value_depth r less p row (row_node node 0) c (row_fits p node 0 c h.0 h.1 h.2) in
      let rest : items_depth (item_values row (row_node node 0) is) ≤ r node = items_depth_of r less p row node is h.3 in
      omega (arith, d, rest, less node 0 h.0 h.1)

-- the level of a type is such a number
rank_below : IsMeasure rank
rank_below node n row at = subst (λ x. rank x < rank node) (sym (ap node_or_left_out at)) (ltb-true (rank row.node) (rank node) (row_below node n row at))

root_rank : (full : Bool) → rank (root_of full) ≤ 10
root_rank false = lit≤ tt
root_rank true = lit≤ tt

-- the value of an APDU isn't deep
body_depth : (r : NodeId → ℕ) → IsMeasure r → (p : Profile) (a : Apdu) → FitsApdu p a → r (root p) ≤ 10 → depth (value_json [] (row_node (root p) (a.number - 1)) a.body) ≤ 100
body_depth r less p a fit top =
    let n = a.number - 1 in
    let d : depth (value_json [] (row_node (root p) n) a.body) ≤ suc (r (row_node (root p) n)) =
    value_depth r less p [] (row_node (root p) n) a.body (row_fits p (root p) n a.body fit.1.0 fit.1.1.1 fit.1.2) in
    omega (arith, d, less (root p) n fit.1.0 fit.1.1.1, top)

-- the members of a head add no level
file_depth : (file : Option (List ℕ)) (ms : Members) → members_depth (with_file file ms) ≤ members_depth ms
file_depth None ms = omega arith
file_depth (Some name) ms = omega arith

profile_depth : (full : Bool) (ms : Members) → members_depth (with_profile full ms) ≤ members_depth ms
profile_depth false ms = omega arith
profile_depth true ms = omega arith

-- a line is shallow enough to be read
line_depth : (full : Bool) (file : Option (List ℕ)) (head : LineHead) (apdu : List ℕ) (v : Json) → depth v ≤ 100
    → depth (json.object (with_file file (head_members full head apdu (json.member (codes "value") v json.no_members)))) ≤ max_depth
line_depth full file head apdu v h =
    let ms : Members = json.member (codes "normal") (json.boolean head.is_normal) (json.member (codes "value") v json.no_members) in
    omega (arith, h, profile_depth full ms, file_depth file (head_members full head apdu (json.member (codes "value") v json.no_members)))

-- ---- texts

-- a line feed ends a word
ends_with_feed : (s : List ℕ) → ends_word s ≡ true → ends_word (s ++ 10 ∷ []) ≡ true
ends_with_feed [] e = refl
ends_with_feed (x ∷ s) e = e

-- a comma before a token
lex_comma : (b : Bool) (r s q : List ℕ) → lex between (in_ascii r ++ s) ≡ lex between q → lex between (in_ascii (cond b (44 ∷ []) [] ++ r) ++ s) ≡ lex between (cond b (44 ∷ []) [] ++ q)
unfolding lex
lex_comma true r s q same = ap (λ (l : List ℕ). lex between (l ++ s)) (in_ascii-cons 44 r (omega arith)) ∙ ap (λ (l : List Lexeme). comma ∷ l) same
lex_comma false r s q same = same

-- the text in ASCII and a line feed are the same lexemes as the text
lex_line : (c : Bool) (ts : List Token) → ArePrintable ts → AreTexts ts → lex between (in_ascii (print_from c ts) ++ 10 ∷ []) ≡ lex between (print_from c ts)
unfolding print_from ArePrintable lex
lex_line c [] h k = ap (λ (l : List ℕ). lex between (flat_map plain l ++ 10 ∷ [])) chars-nil
lex_line c (t ∷ ts) h k =
    let rest = print_from (ends t) ts in
    lex_comma (c && begins t) (token_text t ++ rest) (10 ∷ []) (token_text t ++ rest)
    (ap (λ (l : List ℕ). lex between (l ++ 10 ∷ [])) (in_ascii-append (token_text t) rest (token_utf8 t h.0 k.0))
    ∙ ap (lex between) (append_assoc (in_ascii (token_text t)) (in_ascii rest) (10 ∷ []))
    ∙ lex-token t (in_ascii rest ++ 10 ∷ []) rest h.0 k.0 (λ e. ends_with_feed (in_ascii rest) (ends_in_ascii rest (value_ends t ts e))) (value_ends t ts) (lex_line (ends t) ts h.1 k.1))

-- a line is read back as its value
line_read : (j : Json) → IsWritten j → depth j ≤ max_depth → document (line_of j) ≡ Some j
line_read j written shallow =
    let ts = json_tokens j in
    let printable = ArePrintable-json_tokens j written.0 in
    let same : tokens (line_of j) ≡ tokens (print ts) = ap (punctuate fresh) (lex_line false ts printable (AreTexts-json_tokens j written.1)) in
    ap (λ (us : List Token). option_and_then (λ q. if_last q.0 q.1) (value max_depth us)) same ∙ document-print j written.0 shallow

-- ---- APDUs

-- the line of an APDU says it
pub written_line_said : (p : Profile) (file : Option (List ℕ)) (head : LineHead) (a : Apdu) → IsFileName file → IsHead head → FitsApdu p a → IsSayable a.body → SaysApdu p (json_line_in p file head a) a
written_line_said p file head a name small fit short =
    let n = a.number - 1 in
    let node = row_node (root p) n in
    let v = value_json [] node a.body in
    let fits = row_fits p (root p) n a.body fit.1.0 fit.1.1.1 fit.1.2 in
    let written = line_written p.full file head (row_name (root p) n) v name small (IsUtf8-row_name (root p) n) (value_written p [] node a.body fits short) in
    let shallow = body_depth rank rank_below p a fit (root_rank p.full) in
    (line_utf8 (line_json_in p file head a), (line_json_in p file head a, line_read (line_json_in p file head a) written (line_depth p.full file head (row_name (root p) n) v shallow), line_said p file head a fit short))

-- ---- the profiles that have a name

-- the line of an APDU within the limit says it
pub shown_line_said : (profile : Named) (file : Option (List ℕ)) (head : LineHead) (a : Apdu) → IsFileName file → IsHead head → FitsApdu (profile_of profile) a
    → length (normal_form_in (profile_of profile) a) ≤ (profile_of profile).limit → SaysApdu (profile_of profile) (json_line_in (profile_of profile) file head a) a
shown_line_said profile file head a name small fit within =
    let p = profile_of profile in
    let few : length (normal_form_in p a) < 2 ^ 59 = omega (arith, within) in
    written_line_said p file head a name small fit (apdu_sayable p a fit few)

-- and no other
pub shown_line_once : (profile : Named) (f g : Option (List ℕ)) (h k : LineHead) (a b : Apdu) → IsFileName f → IsFileName g → IsHead h → IsHead k → FitsApdu (profile_of profile) a → FitsApdu (profile_of profile) b
    → length (normal_form_in (profile_of profile) a) ≤ (profile_of profile).limit → length (normal_form_in (profile_of profile) b) ≤ (profile_of profile).limit
    → json_line_in (profile_of profile) f h a ≡ json_line_in (profile_of profile) g k b → a ≡ b
shown_line_once profile f g h k a b name other small little fit fits within also e =
    let p = profile_of profile in
    apdu_said_once p (json_line_in p f h a) a b (shown_line_said profile f h a name small fit within)
    (subst (λ text. SaysApdu p text b) (sym e) (shown_line_said profile g k b other little fits also)) fit fits
