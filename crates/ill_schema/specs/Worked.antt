-- Worked messages: their octets, and the APDUs that these spell.
use Rattle.std.specs.Prelude.{◌≡◌, ℕ, zero, suc, ◌+◌, ◌-◌, ◌*◌, pos, false, List, [], ◌∷◌, codes, nat_lt, if◌then◌else◌}
use Rattle.ber_leaf.specs.Simple.{flag, whole, date, general}
use Rattle.ber_leaf.specs.Profile.{profile_two}
use Rattle.ill_schema.specs.Content.{Content, simple, sequence, list, alternative, Entries, no_entries, absent, present, no_items, item}
use Rattle.ill_schema.specs.Apdu.{Apdu, normal_form, SpellsApdu}

abbrev digit : ℕ → ℕ
digit letter = if nat_lt letter 0x60 then letter - 0x30 else letter - 0x57

-- the octets that pairs of hexadecimal digits write, in small letters
abbrev pub hex : List ℕ → List ℕ
hex (a ∷ b ∷ text) = (16 * digit a + digit b) ∷ hex text
hex _ = []

abbrev pub absents : ℕ → Entries → Entries
absents zero es = es
absents (suc n) es = absent (absents n es)

abbrev pub number : ℕ → Content
number n = simple (whole (pos n))

abbrev letters : List ℕ → Content
letters text = simple (general text)

abbrev no : Content
no = simple (flag false)

-- group "G", qualifier "Q"
abbrev pub transaction : Content
transaction = sequence (absent (present (letters (codes "G")) (present (letters (codes "Q")) (absent no_entries))))

abbrev pub service_date : Content
service_date = sequence (present (sequence (present (simple (date (codes "20240229"))) (absent no_entries))) (absent no_entries))

-- the entries that each begins with, and those after them
abbrev pub head_entries : Entries → Entries
head_entries es = present (number 2) (present transaction (present service_date (absents 2 es)))

abbrev apdu : ℕ → Entries → Apdu
apdu n es = record { number = n; body = sequence (head_entries es) }

abbrev pub expired : Apdu
expired = apdu 20 (absent no_entries)

abbrev pub optional_messages : Content
optional_messages = sequence (present no (present no (present (number 1) (present (number 1) no_entries))))

-- a request to lend, with an empty Item-Id and every default
abbrev pub request : Apdu
request = apdu 1 (
    present (number 1) (absents 3 (present (list (item (number 1) no_items)) (absent (present optional_messages (absents 2 (
    present (number 3) (absent (present (sequence (absents 23 no_entries)) (absents 4 (present no (present no (absents 3 no_entries)))))))))))))

-- an answer with the number of its result, and the result
abbrev pub answer : ℕ → Content → Apdu
answer n result = apdu 4 (present (number n) (present result (absents 7 no_entries)))

-- an estimate of 12.50
abbrev pub estimate : Content
estimate = alternative 6 (sequence (present (letters (codes "12.50")) (absent no_entries)))

-- the institution "L"
abbrev pub location : Content
location = sequence (present (sequence (present (alternative 1 (letters (codes "L"))) (absent no_entries))) (absents 2 no_entries))

-- unfilled for reason 1, with a location
abbrev pub unfilled : Content
unfilled = alternative 2 (sequence (present (number 1) (present (list (item location no_items)) no_entries)))

-- to retry, and nothing more
abbrev pub retry : Content
retry = alternative 1 (sequence (absents 3 no_entries))

-- the octets spell the APDU, and are its normal form
abbrev pub IsNormalForm : Apdu → List ℕ → Type 0
IsNormalForm a octets = SpellsApdu profile_two a octets × (normal_form a ≡ octets)
