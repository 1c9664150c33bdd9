-- What the text of a message is.
use Rattle.std.specs.Prelude.{◌≡◌, ℕ, ◌^◌, ◌<◌, List, length}
use Rattle.ill_schema.specs.Apdu.{Apdu}
use Rattle.ill_schema.specs.Profiles.{profile_of}
use Rattle.ill_grammar.specs.Outline.{IsOutlineOf}
use Rattle.ill_text.specs.Shown.{shown_text_in}
use Rattle.ill_text.specs.declared.text.Text.{Text}

-- these octets are the text
abbrev pub IsTextOf : Text → List ℕ → Type 0
IsTextOf text octets =
    (a : Apdu) × IsOutlineOf text.outline a × (octets ≡ shown_text_in (profile_of text.profile) text.number a) × (length octets < 2 ^ 62)
