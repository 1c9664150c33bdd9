-- Which parts of a `Value` fit, in the final profile.
use Rattle.std.specs.Prelude.{◌≡◌, List, Option, Some, None, slice_get}
use Rattle.ber_leaf.specs.Profile.{profile_two}
use Rattle.ill_tables.specs.declared.{node.Kind.Kind, node.LeafKind.LeafKind, part.Row.Row}
use Rattle.ill_schema.specs.declared.{value.Value.Value}
use Rattle.ill_schema.specs.Fits.{Fits, FitRows, FitItems}
use Rattle.ill_schema.specs.Presence.{IsCarried, MayLack}
use Rattle.ill_schema.specs.Value.{content_of, entries_content, items_content}

-- nodes of the kind hold numbers
abbrev pub IsNumeric : Kind → Type 0
IsNumeric (Kind.Leaf LeafKind.Integer) = Unit {0}
IsNumeric (Kind.Leaf LeafKind.Enumerated) = Unit {0}
IsNumeric _ = ⊥

abbrev pub EntryFits : Option Value → Row → Type 0
EntryFits None row = MayLack row.presence
EntryFits (Some v) row = IsCarried row.presence × Fits profile_two (content_of v) row.node

abbrev pub EntriesFit : List (Option Value) → List Row → Type 0
EntriesFit es rows = FitRows profile_two (entries_content es) rows

-- the value fits the row of a list's items
abbrev pub ItemFits : Value → List Row → Type 0
ItemFits v rows = (row : Row) × (slice_get rows 0 ≡ Some row) × Fits profile_two (content_of v) row.node

abbrev pub ItemsFit : List Value → List Row → Type 0
ItemsFit vs rows = FitItems profile_two (items_content vs) rows
