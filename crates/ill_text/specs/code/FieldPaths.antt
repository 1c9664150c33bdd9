-- The octets of a field path.
use Rattle.std.specs.Prelude.{ℕ, Bool, true, false, List, [], ◌∷◌, ◌++◌, codes, decimal}
use Rattle.ill_tables.specs.declared.node.NodeId.{NodeId}
use Rattle.ill_text.specs.Shown.{Place, within}
use Rattle.ill_text.specs.declared.field_path.FieldPath.{FieldPath, fold-FieldPath}
use Rattle.ill_text.specs.declared.field_path.FieldPath.TheOpen.{FieldPath-F}
use Rattle.ill_text.specs.declared.field_path.FieldPlace.{FieldPlace}

abbrev pub path_step : FieldPath-F (List ℕ) → List ℕ
path_step FieldPath-F.Start = []
path_step (FieldPath-F.Row outer name) = within outer.now name.now
path_step (FieldPath-F.Item outer i) = outer.now ++ codes "[" ++ decimal i ++ codes "]"

abbrev pub path_of : FieldPath → List ℕ
path_of = fold-FieldPath (List ℕ) path_step

abbrev pub is_nothing : List ℕ → Bool
is_nothing [] = true
is_nothing (octet ∷ path) = false

-- a value of this type is there, in a row of this name
abbrev pub place_at : FieldPath → List ℕ → NodeId → Place
place_at path name node = record { path = path_of path; name = name; node = node }

-- the same of what code hands on
abbrev pub place_of : FieldPlace → Place
place_of place = place_at place.path.now place.name.now place.node

-- the first line of message i, with this name
abbrev pub head_line : ℕ → List ℕ → List ℕ
head_line i name = codes "message " ++ decimal i ++ codes " " ++ name ++ codes "\n"
