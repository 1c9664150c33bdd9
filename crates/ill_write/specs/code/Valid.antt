-- Rows whose tags have identifiers in both forms.
use Rattle.std.specs.Prelude.{ℕ, Bool, true, false, not, ◌&&◌, ◌||◌, nat_le, nat_lt, Option, Some, None}
use Rattle.ber_tree.specs.declared.class.Class.{Class}
use Rattle.ill_tables.specs.declared.part.Row.{Row}

abbrev pub is_universal : Class → Bool
is_universal Class.Universal = true
is_universal _ = false

-- the tag, if there is one, has an identifier in both forms
abbrev pub is_valid_tag : Option (Class × ℕ) → Bool
is_valid_tag None = true
is_valid_tag (Some t) = (not (is_universal t.0) || nat_lt 0 t.1) && nat_le t.1 268_435_455

abbrev pub is_valid : Row → Bool
is_valid row = is_valid_tag row.tag

-- the same of the row, if there is one
abbrev pub is_valid_place : Option Row → Bool
is_valid_place None = true
is_valid_place (Some row) = is_valid row
