-- What fits the rows of a node has one entry for each.
use Rattle.std.proofs.Common.{◌≡◌, suc, List, [], ◌∷◌, length, Option, Some, None, refl, ap}
use Rattle.ill_tables.specs.declared.part.Row.{Row}
use Rattle.ill_schema.specs.declared.value.Value.{Value}
use Rattle.ill_schema.specs.code.ValueFits.{EntriesFit}

pub entries_fit-length : (es : List (Option Value)) (rows : List Row) → EntriesFit es rows → length es ≡ length rows
entries_fit-length [] [] h = refl
entries_fit-length [] (row ∷ rows) h = absurd h
entries_fit-length (None ∷ es) [] h = absurd h
entries_fit-length (None ∷ es) (row ∷ rows) h = ap suc (entries_fit-length es rows h.1)
entries_fit-length (Some v ∷ es) [] h = absurd h
entries_fit-length (Some v ∷ es) (row ∷ rows) h = ap suc (entries_fit-length es rows h.2)
