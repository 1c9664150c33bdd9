-- The names of files in a list.
use Rattle.std.specs.Prelude.{ℕ, List}
use Rattle.ill_inputs.specs.Parts.{parts_by}

-- each name is ended by a NUL; the last may be ended by the end of the list
abbrev pub names_in : List ℕ → List (List ℕ)
names_in list = parts_by 0 list
