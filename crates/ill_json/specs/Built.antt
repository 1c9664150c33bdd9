-- The lines of JSON of results of lines: of a message that was built, and of a line that is refused.
use Rattle.std.specs.Prelude.{ℕ, List, codes, decimal, length, Option}
use Rattle.json.specs.Json.{Json, number, string, object, no_members, member}
use Rattle.ill_schema.specs.Texts.{hexadecimal}
use Rattle.ill_json.specs.Json.{line_of, with_file}
use Rattle.ill_json.specs.Results.{with_count, with_text}

-- a message of this APDU, with its octets
abbrev pub built_json : Option (List ℕ) → ℕ → List ℕ → List ℕ → Json
built_json file line apdu octets = object (with_file file
    (member (codes "line") (number (decimal line))
    (member (codes "apdu") (string apdu)
    (member (codes "octets") (number (decimal (length octets)))
    (member (codes "message") (string (hexadecimal octets)) no_members)))))

-- why a line is refused: the cause, and its place, as a JSON pointer or as a column
abbrev pub why_json : List ℕ → Option (List ℕ) → Option ℕ → Json
why_json cause pointer column =
    object (member (codes "cause") (string cause) (with_text (codes "pointer") pointer (with_count (codes "column") column no_members)))

abbrev pub unbuilt_json : Option (List ℕ) → ℕ → List ℕ → Option (List ℕ) → Option ℕ → Json
unbuilt_json file line cause pointer column =
    object (with_file file (member (codes "line") (number (decimal line)) (member (codes "refused") (why_json cause pointer column) no_members)))

abbrev pub built_line_of : Option (List ℕ) → ℕ → List ℕ → List ℕ → List ℕ
built_line_of file line apdu octets = line_of (built_json file line apdu octets)

abbrev pub unbuilt_line_of : Option (List ℕ) → ℕ → List ℕ → Option (List ℕ) → Option ℕ → List ℕ
unbuilt_line_of file line cause pointer column = line_of (unbuilt_json file line cause pointer column)
