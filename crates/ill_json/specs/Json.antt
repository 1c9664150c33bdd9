-- The line of JSON (RFC 8259) of a message: the text of a JSON value, and a line feed.
use Rattle.std.specs.Prelude.{Bool, true, false, ℕ, suc, ◌-◌, ◌/◌, ◌%◌, ℤ, List, [], ◌∷◌, ◌++◌, codes, decimal, Option, Some, None, flat_map, if◌then◌else◌, nat_lt}
use Rattle.std.specs.Char.{digit_char}
use Rattle.std.specs.Char.Escape.{encode_utf16}
use Rattle.std.specs.Str.{chars}
use Rattle.std.specs.Fmt.{signed_decimal}
use Rattle.json.specs.Json.{Json, boolean, number, string, array, object, Members, no_members, member}
use Rattle.json.specs.Json as json
use Rattle.json.specs.Print.{print}
use Rattle.json.specs.Tree.{json_tokens}
use Rattle.ber_core.specs.Der.{encoding}
use Rattle.ber_leaf.specs.Simple.{Simple, flag, whole, date, time, printable, general, visible, null, oid, binary, bits, descriptor}
use Rattle.ill_tables.specs.declared.node.NodeId.{NodeId}
use Rattle.ber_leaf.specs.Profile.{Profile, profile_two}
use Rattle.ill_schema.specs.Apdu.{Apdu, root}
use Rattle.ill_schema.specs.Content.{Content, simple, sequence, list, alternative, foreign, Entries, no_entries, absent, present, Items, no_items, item}
use Rattle.ill_tables.specs.Numbers.{number_name}
use Rattle.ill_schema.specs.Texts.{characters, hexadecimal, oid_text}
use Rattle.ill_tables.specs.Names.{row_name, row_node}
use Rattle.ill_json.specs.declared.line.LineHead.{LineHead}

-- a number without a name, or with one
abbrev pub number_json : ℤ → Option (List ℕ) → Json
number_json n None = number (signed_decimal n)
number_json n (Some name) = object (member (codes "number") (number (signed_decimal n)) (member (codes "name") (string name) no_members))

-- a string under the name of its type
abbrev pub text_json : List ℕ → List ℕ → Json
text_json kind octets = object (member kind (string (characters octets)) no_members)

-- a leaf in a row of this name
abbrev pub leaf_json : List ℕ → Simple → Json
leaf_json row (flag b) = boolean b
leaf_json row (whole n) = number_json n (number_name row n)
leaf_json row (date octets) = string (characters octets)
leaf_json row (time octets) = string (characters octets)
leaf_json row (printable octets) = string (characters octets)
leaf_json row (general octets) = text_json (codes "general") octets
leaf_json row (visible octets) = text_json (codes "visible") octets
leaf_json row null = json.null
leaf_json row (oid octets) = string (oid_text octets)
leaf_json row (binary octets) = object (member (codes "octets") (string (hexadecimal octets)) no_members)
leaf_json row (bits n octets) = object (member (codes "bits") (number (decimal n)) (member (codes "octets") (string (hexadecimal octets)) no_members))
leaf_json row (descriptor octets) = string (characters octets)

-- the value under a name; alone where there is none, as under the tag of an EXTERNAL
abbrev pub in_member : List ℕ → Json → Json
in_member [] value = value
in_member (letter ∷ name) value = object (member (letter ∷ name) value no_members)

abbrev mutual
  -- a value of this type, in a row of this name; a foreign tree by its octets in DER, in hexadecimal
  pub value_json : List ℕ → NodeId → Content → Json
  value_json row node (simple v) = leaf_json row v
  value_json row node (sequence es) = object (entry_members node 0 es)
  value_json row node (list is) = array (item_values row (row_node node 0) is)
  value_json row node (alternative n c) = in_member (row_name node n) (value_json (row_name node n) (row_node node n) c)
  value_json row node (foreign T) = object (member (codes "foreign") (string (hexadecimal (encoding T))) no_members)

  -- the entries from row i on; an absent one is no member
  pub entry_members : NodeId → ℕ → Entries → Members
  entry_members node i no_entries = no_members
  entry_members node i (absent es) = entry_members node (suc i) es
  entry_members node i (present c es) = member (row_name node i) (value_json (row_name node i) (row_node node i) c) (entry_members node (suc i) es)

  -- items of this type, in a row of this name
  pub item_values : List ℕ → NodeId → Items → json.Items
  item_values row node no_items = json.no_items
  item_values row node (item c is) = json.item (value_json row node c) (item_values row node is)

-- the name of the file comes first, where it is given
abbrev pub with_file : Option (List ℕ) → Members → Members
with_file None ms = ms
with_file (Some name) ms = member (codes "file") (string name) ms

-- a member that says the module profile, where it is that
abbrev pub with_profile : Bool → Members → Members
with_profile false ms = ms
with_profile true ms = member (codes "profile") (string (codes "module")) ms

-- the members of the head before others: with this name of the APDU, and with the profile, if that is the full one of the module
abbrev pub head_members : Bool → LineHead → List ℕ → Members → Members
head_members full head apdu ms =
    member (codes "number") (number (decimal head.number))
    (member (codes "offset") (number (decimal head.offset))
    (member (codes "octets") (number (decimal head.octets))
    (member (codes "apdu") (string apdu)
    (with_profile full (member (codes "normal") (boolean head.is_normal) ms)))))

-- the APDU of the profile is in the row of ILL-APDU that its number, from 1, says
abbrev pub line_json_in : Profile → Option (List ℕ) → LineHead → Apdu → Json
line_json_in p file head a = object (with_file file (head_members p.full head (row_name (root p) (a.number - 1))
    (member (codes "value") (value_json [] (row_node (root p) (a.number - 1)) a.body) no_members)))

abbrev pub line_json : Option (List ℕ) → LineHead → Apdu → Json
line_json file head a = line_json_in profile_two file head a

-- a unit of UTF-16 by its number (RFC 8259, section 7), in four digits
abbrev pub unit_text : ℕ → List ℕ
unit_text u = codes "\\u" ++ digit_char (u / 4096 % 16) ∷ digit_char (u / 256 % 16) ∷ digit_char (u / 16 % 16) ∷ digit_char (u % 16) ∷ []

-- a character as it is, or DEL and what is beyond ASCII by its units
abbrev pub plain : ℕ → List ℕ
plain c = if nat_lt c 0x7F then c ∷ [] else flat_map unit_text (encode_utf16 c)

-- the text in ASCII, and a line feed
abbrev pub line_of : Json → List ℕ
line_of j = flat_map plain (chars (print (json_tokens j))) ++ codes "\n"

abbrev pub json_line_in : Profile → Option (List ℕ) → LineHead → Apdu → List ℕ
json_line_in p file head a = line_of (line_json_in p file head a)

-- the same in profile 2
abbrev pub json_line_of : Option (List ℕ) → LineHead → Apdu → List ℕ
json_line_of file head a = json_line_in profile_two file head a
