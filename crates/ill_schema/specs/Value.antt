-- The content that a `Value` stands for: texts as their octets, and lists for the `Vec`s.
use Rattle.std.specs.Prelude.{ℕ, List, [], ◌∷◌, map, Option, Some, None, option_map}
use Rattle.ber_leaf.specs.Simple.{flag, whole, date, time, printable}
use Rattle.ber_leaf.specs.Strings.{string_value}
use Rattle.ill_schema.specs.declared.value.Value.{Value, fold-Value}
use Rattle.ill_schema.specs.declared.value.Value.TheOpen.{Value-F}
use Rattle.ill_schema.specs.Apdu.{Apdu}
use Rattle.ill_schema.specs.Content.{Content, simple, sequence, list, alternative, Entries, no_entries, absent, present, Items, no_items, item}

abbrev pub entries_of : List (Option Content) → Entries
entries_of [] = no_entries
entries_of (None ∷ es) = absent (entries_of es)
entries_of (Some c ∷ es) = present c (entries_of es)

abbrev pub items_of : List Content → Items
items_of [] = no_items
items_of (c ∷ cs) = item c (items_of cs)

-- one level, with each value inside already seen as its content
abbrev pub content_step : Value-F Content → Content
content_step (Value-F.Flag b) = simple (flag b)
content_step (Value-F.Whole n) = simple (whole n)
content_step (Value-F.Date text) = simple (date text)
content_step (Value-F.Time text) = simple (time text)
content_step (Value-F.Print text) = simple (printable text)
content_step (Value-F.Str string) = simple (string_value string)
content_step (Value-F.Seq v) = sequence (entries_of v.items)
content_step (Value-F.List v) = list (items_of v.items)
content_step (Value-F.Alt n c) = alternative n c.value

abbrev pub content_of : Value → Content
content_of = fold-Value Content content_step

abbrev pub entries_content : List (Option Value) → Entries
entries_content es = entries_of (map (option_map content_of) es)

abbrev pub items_content : List Value → Items
items_content vs = items_of (map content_of vs)

abbrev pub apdu_with : ℕ → Value → Apdu
apdu_with number body = record { number = number; body = content_of body }
