-- The text that is shown of a message: a head line, and a line for each leaf.
use Rattle.std.specs.Prelude.{ℕ, suc, ◌-◌, ℤ, Bool, true, false, ◌&&◌, ◌||◌, nat_le, nat_eq, List, [], ◌∷◌, ◌++◌, codes, decimal, Option, Some, None, flat_map, if◌then◌else◌}
use Rattle.std.specs.Fmt.{signed_decimal}
use Rattle.std.specs.List.{list_all}
use Rattle.std.specs.Str.{bytes_eq}
use Rattle.ber_tree.specs.Identifier.{identifier}
use Rattle.ber_tree.specs.Tree.{Tree, Trees, primitive, constructed, none, more}
use Rattle.ber_leaf.specs.Profile.{Profile, is_graphic, profile_two}
use Rattle.ber_leaf.specs.Simple.{Simple, flag, whole, date, time, printable, general, visible, null, oid, binary, bits, descriptor}
use Rattle.ill_tables.specs.declared.node.NodeId.{NodeId}
use Rattle.ill_schema.specs.Apdu.{Apdu, root}
use Rattle.ill_schema.specs.Content.{Content, simple, sequence, list, alternative, foreign, Entries, no_entries, absent, present, Items, no_items, item}
use Rattle.ill_tables.specs.Names.{row_name, row_node}
use Rattle.ill_tables.specs.Numbers.{number_name}
use Rattle.ill_schema.specs.Texts.{digits, hexadecimal, oid_text}

-- `"` and `\` after a `\`, and what isn't printable ASCII as `\x` and two digits
abbrev pub escaped : ℕ → List ℕ
escaped octet =
    if nat_eq octet 0x22 || nat_eq octet 0x5C then 0x5C ∷ octet ∷ []
    else if nat_le 0x20 octet && nat_le octet 0x7E then octet ∷ []
    else 0x5C ∷ 0x78 ∷ digits octet

abbrev pub quoted : List ℕ → List ℕ
quoted text = codes "\"" ++ flat_map escaped text ++ codes "\""

abbrev pub in_brackets : Option (List ℕ) → List ℕ
in_brackets None = []
in_brackets (Some name) = codes " (" ++ name ++ codes ")"

-- octets of no known meaning: in quotes where all octets are printable ASCII, else in hexadecimal
abbrev pub content_text : List ℕ → List ℕ
content_text octets = if list_all is_graphic octets then quoted octets else hexadecimal octets

-- the rows whose numbers have their names in the text
abbrev pub is_named : List ℕ → Bool
is_named row =
    bytes_eq row (codes "transaction-type") || bytes_eq row (codes "ill-service-type") || bytes_eq row (codes "place-on-hold")
    || bytes_eq row (codes "item-type") || bytes_eq row (codes "transaction-results")

abbrev pub text_name : List ℕ → ℤ → Option (List ℕ)
text_name row number = if is_named row then number_name row number else None

-- a leaf in a row of this name
abbrev pub leaf_text : List ℕ → Simple → List ℕ
leaf_text row (flag true) = codes "TRUE"
leaf_text row (flag false) = codes "FALSE"
leaf_text row (whole number) = signed_decimal number ++ in_brackets (text_name row number)
leaf_text row (date text) = text
leaf_text row (time text) = text
leaf_text row (printable text) = quoted text
leaf_text row (general text) = codes "general " ++ quoted text
leaf_text row (visible text) = codes "visible " ++ quoted text
leaf_text row null = codes "NULL"
leaf_text row (oid octets) = oid_text octets
leaf_text row (binary octets) = codes "octets " ++ content_text octets
leaf_text row (bits n octets) = codes "bits " ++ decimal n ++ (if nat_eq n 0 then [] else codes " " ++ hexadecimal octets)
leaf_text row (descriptor octets) = codes "descriptor " ++ quoted octets

abbrev mutual
  -- a foreign tree: of each element the identifier octets, and its contents or the elements in it
  pub tree_text : Tree → List ℕ
  tree_text (primitive tag octets) = hexadecimal (identifier tag false) ++ codes ":" ++ content_text octets
  tree_text (constructed tag trees) = hexadecimal (identifier tag true) ++ codes "{" ++ trees_text trees ++ codes "}"

  pub trees_text : Trees → List ℕ
  trees_text none = []
  trees_text (more T none) = tree_text T
  trees_text (more T (more U trees)) = tree_text T ++ codes " " ++ trees_text (more U trees)

-- where a value is: its path, the name of its row and its type
pub record Place : Type 0 where
  pub path : List ℕ
  pub name : List ℕ
  pub node : NodeId

-- names are joined by dots; a row without a name adds none
abbrev pub within : List ℕ → List ℕ → List ℕ
within [] name = name
within path [] = path
within (letter ∷ path) name = (letter ∷ path) ++ (codes "." ++ name)

-- the place of a row of a sequence or choice
abbrev pub part : Place → ℕ → Place
part p i = record { path = within p.path (row_name p.node i); name = row_name p.node i; node = row_node p.node i }

-- the place of an item of a list, which has its list's name
abbrev pub item_of : Place → ℕ → Place
item_of p i = record { path = p.path ++ codes "[" ++ decimal i ++ codes "]"; name = p.name; node = row_node p.node 0 }

abbrev pub line : List ℕ → List ℕ → List ℕ
line path text = path ++ codes " = " ++ text ++ codes "\n"

-- no entry is there
abbrev pub is_empty : Entries → Bool
is_empty no_entries = true
is_empty (absent es) = is_empty es
is_empty (present c es) = false

abbrev mutual
  -- the lines of a value
  pub lines_of : Place → Content → List ℕ
  lines_of p (simple v) = line p.path (leaf_text p.name v)
  lines_of p (sequence es) = if is_empty es then line p.path (codes "{}") else entry_lines p 0 es
  lines_of p (list no_items) = line p.path (codes "[]")
  lines_of p (list (item c is)) = lines_of (item_of p 0) c ++ item_lines p 1 is
  lines_of p (alternative n c) = lines_of (part p n) c
  lines_of p (foreign T) = line p.path (codes "foreign " ++ tree_text T)

  -- the lines of the entries from row i on; an absent one has none
  pub entry_lines : Place → ℕ → Entries → List ℕ
  entry_lines p i no_entries = []
  entry_lines p i (absent es) = entry_lines p (suc i) es
  entry_lines p i (present c es) = lines_of (part p i) c ++ entry_lines p (suc i) es

  -- the lines of the items from item i on
  pub item_lines : Place → ℕ → Items → List ℕ
  item_lines p i no_items = []
  item_lines p i (item c is) = lines_of (item_of p i) c ++ item_lines p (suc i) is

-- the body is in the row of the type of messages that the APDU's number, from 1, says
abbrev pub body_place_in : Profile → Apdu → Place
body_place_in p a = record { path = []; name = []; node = row_node (root p) (a.number - 1) }

-- the text of an APDU of the profile that is message i
abbrev pub shown_text_in : Profile → ℕ → Apdu → List ℕ
shown_text_in p i a = codes "message " ++ decimal i ++ codes " " ++ row_name (root p) (a.number - 1) ++ codes "\n" ++ lines_of (body_place_in p a) a.body

-- the same in profile 2
abbrev pub body_place : Apdu → Place
body_place a = body_place_in profile_two a

abbrev pub shown_text : ℕ → Apdu → List ℕ
shown_text i a = shown_text_in profile_two i a

-- the lines of an entry
abbrev pub entry_text : Place → Option Content → List ℕ
entry_text p None = []
entry_text p (Some c) = lines_of p c
