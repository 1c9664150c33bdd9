-- The lines of JSON of results: of a message without its value, and of one that is refused.
use Rattle.std.specs.Prelude.{false, ℕ, List, [], ◌∷◌, map, codes, decimal, string_bytes, Option, Some, None, option_map}
use Rattle.json.specs.Json.{Json, number, string, array, object, Items, no_items, item, Members, no_members, member}
use Rattle.ill_schema.specs.Causes.{cause_clause, cause_name}
use Rattle.ill_schema.specs.Names.{cause_part_name_of, dotted_name}
use Rattle.ill_schema.specs.declared.refusal.Refusal.{Refusal}
use Rattle.ill_schema.specs.Texts.{hexadecimal}
use Rattle.ill_json.specs.Json.{head_members, line_of, with_file}
use Rattle.ill_json.specs.declared.line.LineHead.{LineHead}
use Rattle.ill_inputs.specs.declared.place.RefusalPlace.{RefusalPlace}
use Rattle.ill_json.specs.declared.result.RefusalKind.{RefusalKind}
use Rattle.ill_json.specs.declared.result.RefusedHead.{RefusedHead}

-- a member that has a text, where there is one
abbrev pub with_text : List ℕ → Option (List ℕ) → Members → Members
with_text name None ms = ms
with_text name (Some text) ms = member name (string text) ms

-- a member that has a number, where there is one
abbrev pub with_count : List ℕ → Option ℕ → Members → Members
with_count name None ms = ms
with_count name (Some n) ms = member name (number (decimal n)) ms

-- a member that has words, unless there are none
abbrev pub with_words : List ℕ → List ℕ → Members → Members
with_words name [] ms = ms
with_words name (octet ∷ words) ms = member name (string (octet ∷ words)) ms

-- a member that has texts, unless there are none
abbrev pub strings : List (List ℕ) → Items
strings [] = no_items
strings (text ∷ texts) = item (string text) (strings texts)

abbrev pub with_list : List ℕ → List (List ℕ) → Members → Members
with_list name [] ms = ms
with_list name (text ∷ texts) ms = member name (array (strings (text ∷ texts))) ms

-- a message without its value, with this name of its APDU; and a digest, where there is one
abbrev pub result_json : Option (List ℕ) → LineHead → List ℕ → Option (List ℕ) → Json
result_json file head apdu digest =
    object (with_file file (head_members false head apdu (with_text (codes "digest") (option_map hexadecimal digest) no_members)))

abbrev pub kind_name : RefusalKind → List ℕ
kind_name RefusalKind.NoMessage = codes "no message"
kind_name RefusalKind.NotRead = codes "not read"
kind_name RefusalKind.Invalid = codes "invalid"

-- the elements round a place, what is there, and what was due
abbrev pub place_members : RefusalPlace → Members
place_members place =
    with_words (codes "path") (string_bytes place.path)
    (with_words (codes "found") (string_bytes place.found)
    (with_list (codes "due") (map string_bytes place.due.items) no_members))

-- why a message is refused: the cause, its offset in the message, its kind, its clause, its part, and its place
abbrev pub why_json : Refusal → RefusalKind → RefusalPlace → Json
why_json refusal kind place = object
    (member (codes "cause") (string (cause_name refusal.cause))
    (member (codes "offset") (number (decimal refusal.at))
    (member (codes "kind") (string (kind_name kind))
    (member (codes "clause") (string (cause_clause refusal.cause))
    (with_text (codes "part") (option_map dotted_name (cause_part_name_of refusal.cause)) (place_members place))))))

-- a message that is refused, with the name of its APDU, where that is known
abbrev pub refused_json : Option (List ℕ) → RefusedHead → Option (List ℕ) → RefusalPlace → Json
refused_json file head apdu place = object (with_file file
    (member (codes "number") (number (decimal head.number))
    (member (codes "offset") (number (decimal head.offset))
    (with_count (codes "octets") head.octets
    (with_text (codes "apdu") apdu
    (member (codes "refused") (why_json head.refusal head.kind place) no_members))))))

abbrev pub result_line_of : Option (List ℕ) → LineHead → List ℕ → Option (List ℕ) → List ℕ
result_line_of file head apdu digest = line_of (result_json file head apdu digest)

abbrev pub refused_line_of : Option (List ℕ) → RefusedHead → Option (List ℕ) → RefusalPlace → List ℕ
refused_line_of file head apdu place = line_of (refused_json file head apdu place)
