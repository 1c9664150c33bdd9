-- Tokens that are put one after another.
use Rattle.std.specs.Prelude.{◌≡◌, Bool, ℕ, false, true, List, [], ◌∷◌, ◌++◌, map, Option, Some, None, option_map, codes, decimal, string_bytes}
use Rattle.json.specs.Token.{Token, begin_array, end_array, key, string, number, boolean}
use Rattle.json.specs.Tree.{json_tokens}
use Rattle.ill_schema.specs.Content.{Content}
use Rattle.ill_tables.specs.declared.node.NodeId.{NodeId}
use Rattle.ill_tables.specs.Names.{row_name, row_node}
use Rattle.ill_schema.specs.Texts.{hexadecimal}
use Rattle.ill_json.specs.Json.{value_json}
use Rattle.ill_json.specs.declared.line.LineHead.{LineHead}
use Rattle.ill_inputs.specs.declared.place.RefusalPlace.{RefusalPlace}
use Rattle.ill_json.specs.declared.writing.LineWriter.{LineWriter}

-- these tokens were put, unless memory was refused
unfoldable pub Adds : List Token → LineWriter → LineWriter → Type 0
Adds ts old new = new.failed ≡ false → (old.failed ≡ false) × (new.writer.tokens ≡ old.writer.tokens ++ ts)

-- the member of the value in row i
abbrev pub part_tokens : NodeId → ℕ → Content → List Token
part_tokens node i c = key (row_name node i) ∷ json_tokens (value_json (row_name node i) (row_node node i) c)

-- the member of an entry
abbrev pub entry_tokens : NodeId → ℕ → Option Content → List Token
entry_tokens node i None = []
entry_tokens node i (Some c) = part_tokens node i c

-- the value of an entry
abbrev pub value_tokens : List ℕ → NodeId → Option Content → List Token
value_tokens row node None = []
value_tokens row node (Some c) = json_tokens (value_json row node c)

-- the member of a file's name
abbrev pub file_tokens : Option (List ℕ) → List Token
file_tokens None = []
file_tokens (Some name) = key (codes "file") ∷ string name ∷ []

-- the member that has a text of this name, and one that has a number
abbrev pub text_tokens : List ℕ → Option (List ℕ) → List Token
text_tokens name None = []
text_tokens name (Some text) = key name ∷ string text ∷ []

abbrev pub count_tokens : List ℕ → Option ℕ → List Token
count_tokens name None = []
count_tokens name (Some n) = key name ∷ number (decimal n) ∷ []

-- the member that has words, and one that has texts; unless there are none
abbrev pub words_tokens : List ℕ → List ℕ → List Token
words_tokens name [] = []
words_tokens name (octet ∷ words) = key name ∷ string (octet ∷ words) ∷ []

abbrev pub list_tokens : List ℕ → List (List ℕ) → List Token
list_tokens name [] = []
list_tokens name (text ∷ texts) = key name ∷ begin_array ∷ (map string (text ∷ texts) ++ end_array ∷ [])

-- the members of a place
abbrev pub place_tokens : RefusalPlace → List Token
place_tokens place =
    words_tokens (codes "path") (string_bytes place.path) ++ (words_tokens (codes "found") (string_bytes place.found)
    ++ list_tokens (codes "due") (map string_bytes place.due.items))

-- the member of a digest
abbrev pub digest_tokens : Option (List ℕ) → List Token
digest_tokens digest = text_tokens (codes "digest") (option_map hexadecimal digest)

-- the members of the head up to the name of the APDU, that of the module profile, and that of the normal form
abbrev pub start_tokens : LineHead → List ℕ → List Token
start_tokens head apdu =
    key (codes "number") ∷ number (decimal head.number) ∷ key (codes "offset") ∷ number (decimal head.offset)
    ∷ key (codes "octets") ∷ number (decimal head.octets) ∷ key (codes "apdu") ∷ string apdu ∷ []

abbrev pub profile_tokens : Bool → List Token
profile_tokens false = []
profile_tokens true = key (codes "profile") ∷ string (codes "module") ∷ []

abbrev pub normal_tokens : LineHead → List Token
normal_tokens head = key (codes "normal") ∷ boolean head.is_normal ∷ []
