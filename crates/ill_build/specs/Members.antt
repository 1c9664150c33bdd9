-- Which members an object may have, and the first of them that it may not have.
use Rattle.std.specs.Prelude.{◌≡◌, ℕ, List, [], ◌∷◌, ◌++◌, Option, Some, None, slice_get, if◌then◌else◌}
use Rattle.std.specs.List.{list_any, position}
use Rattle.std.specs.Str.{bytes_eq}
use Rattle.json.specs.Json.{Json, Members, no_members, member, object}
use Rattle.ill_tables.specs.Names.{names_of}
use Rattle.ill_tables.specs.Table.{rows_of}
use Rattle.ill_tables.specs.declared.node.NodeId.{NodeId}
use Rattle.ill_tables.specs.declared.part.Presence.{Presence}
use Rattle.ill_tables.specs.declared.part.Row.{Row}
use Rattle.ill_build.specs.declared.cause.BuildCause.{BuildCause}

-- those of the rows of a type, or those of these names
pub data Known : Type 0 where
  of_type : NodeId → Known
  of_names : List (List ℕ) → Known

-- a member of a row that the profile leaves out
abbrev pub presence_fault : Presence → Option BuildCause
presence_fault Presence.LeftOut = Some BuildCause.LeftOut
presence_fault _ = None

abbrev pub row_fault : Option Row → Option BuildCause
row_fault None = Some BuildCause.UnknownMember
row_fault (Some row) = presence_fault row.presence

-- the row of this name
abbrev pub place_of : NodeId → List ℕ → Option ℕ
place_of node name = position (bytes_eq name) (names_of node).1

abbrev pub place_fault : NodeId → Option ℕ → Option BuildCause
place_fault node None = Some BuildCause.UnknownMember
place_fault node (Some i) = row_fault (slice_get (rows_of node) i)

-- the fault of a member by its name alone
abbrev pub name_fault : Known → List ℕ → Option BuildCause
name_fault (of_type node) name = place_fault node (place_of node name)
name_fault (of_names all) name = if list_any (bytes_eq name) all then None else Some BuildCause.UnknownMember

-- the fault of a member behind members of these names
abbrev pub member_fault : Known → List (List ℕ) → List ℕ → Option BuildCause
member_fault known before name = if list_any (bytes_eq name) before then Some BuildCause.RepeatedMember else name_fault known name

-- the name of the first member that has a fault, and its cause, behind members of these names
abbrev pub first_fault : Known → List (List ℕ) → Members → Option (List ℕ × BuildCause)
first_fault known before no_members = None
first_fault known before (member name j ms) =
    elim (member_fault known before name) as (λ _. Option (List ℕ × BuildCause)) [
      | None ↦ first_fault known (before ++ name ∷ []) ms
      | Some cause ↦ Some (name, cause)
    ]

-- an object whose members it may have, each once
abbrev pub IsObjectOf : Known → Json → Type 0
IsObjectOf known (object ms) = first_fault known [] ms ≡ None
IsObjectOf known _ = ⊥
