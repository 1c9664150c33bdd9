-- What the builder's functions refuse: the faults of a type, of rows and of items, at a whole path.
use Rattle.std.specs.Prelude.{◌≡◌, ◌⊎◌, ℕ, List, [], ◌∷◌, Some, slice_get}
use Rattle.json.specs.Find.{as_array, get}
use Rattle.json.specs.Json.{Json}
use Rattle.json.specs.Json as json
use Rattle.ber_leaf.specs.Profile.{Profile}
use Rattle.ill_schema.specs.Content.{Content}
use Rattle.ill_schema.specs.Fits.{Fits}
use Rattle.ill_tables.specs.Names.{row_name, row_node}
use Rattle.ill_tables.specs.Table.{rows_of}
use Rattle.ill_tables.specs.declared.node.NodeId.{NodeId}
use Rattle.ill_tables.specs.declared.part.Row.{Row}
use Rattle.ill_build.specs.declared.cause.BuildCause.{BuildCause}
use Rattle.ill_build.specs.Faulty.{AreItemsFaulty, AreRowsFaulty, Inside, IsChosenFaulty, IsFaulty, IsFoundFault, IsNotOne, IsObjectFault, IsWrongType}
use Rattle.ill_build.specs.Members.{of_type}
use Rattle.ill_build.specs.Path.{Step, named}
use Rattle.ill_build.specs.Said.{Says}

-- faults of this cause at the rest of a path
abbrev pub inside : Profile → BuildCause → List Step → Inside
inside p cause rest = λ name node k. IsFaulty p name node k cause rest

abbrev pub AreRowsRefused : Profile → NodeId → ℕ → List Row → Json → BuildCause → List Step → Type 0
AreRowsRefused p node i rows j cause path =
    (step : Step) × (rest : List Step) × (path ≡ step ∷ rest) × AreRowsFaulty (inside p cause rest) p node i rows j cause step rest

-- row i, if there is one
abbrev pub IsRowRefused : Profile → NodeId → ℕ → Json → BuildCause → List Step → Type 0
IsRowRefused p node i j cause path =
    (row : Row) × (rest : List Step) × (slice_get (rows_of node) i ≡ Some row) × (path ≡ named (row_name node i) ∷ rest)
    × IsFoundFault (get (row_name node i) j) row.presence (λ k. IsFaulty p (row_name node i) row.node k cause rest) cause rest

abbrev pub IsSequenceRefused : Profile → NodeId → Json → BuildCause → List Step → Type 0
IsSequenceRefused p node j cause path = IsObjectFault (of_type node) j cause path (AreRowsRefused p node 0 (rows_of node) j cause path)

-- the items from item i on
abbrev pub AreItemsRefused : Profile → List ℕ → NodeId → ℕ → json.Items → BuildCause → List Step → Type 0
AreItemsRefused p name node i js cause path =
    (step : Step) × (rest : List Step) × (path ≡ step ∷ rest)
    × AreItemsFaulty (λ k. IsFaulty p name (row_node node 0) k cause rest) (λ k. (c : Content) × Says name (row_node node 0) k c × Fits p c (row_node node 0)) i js step

abbrev pub IsListRefused : Profile → List ℕ → NodeId → Json → BuildCause → List Step → Type 0
IsListRefused p name node j cause path =
    IsWrongType (as_array j) cause path ⊎ ((js : json.Items) × (as_array j ≡ Some js) × AreItemsRefused p name node 0 js cause path)

abbrev pub IsChoiceRefused : Profile → NodeId → Json → BuildCause → List Step → Type 0
IsChoiceRefused p node j cause path =
    IsObjectFault (of_type node) j cause path (
    (IsNotOne j × (cause ≡ BuildCause.NotOneMember) × (path ≡ []))
    ⊎ ((step : Step) × (rest : List Step) × (path ≡ step ∷ rest) × IsChosenFaulty (inside p cause rest) node j step)
    )
