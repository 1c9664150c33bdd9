-- Where a value of JSON says no content of a type: the first fault in a fixed order, its cause and its path. First the members of an object
-- in their order, each by its name; then the rows in the order of the tables, each as deep as it goes; and the items of a list in theirs.
use Rattle.std.specs.Prelude.{◌≡◌, ◌≢◌, ◌⊎◌, ◌<◌, ◌^◌, ℕ, suc, ℤ, FitsSigned, IsTrue, false, List, [], ◌∷◌, codes, decimal, Option, Some, None, slice_get}
use Rattle.std.specs.Fmt.{signed_decimal}
use Rattle.std.specs.Int.{w64}
use Rattle.json.specs.Find.{get, as_array, as_bool, as_number, as_object, as_str, is_null}
use Rattle.json.specs.Json.{Json, number, string, array, object, Members, no_members, member}
use Rattle.json.specs.Json as json
use Rattle.ber_tree.specs.Octets.{are_octets}
use Rattle.ber_tree.specs.Tree.{Tree}
use Rattle.ber_core.specs.Der.{encoding}
use Rattle.ber_core.specs.Foreign.{is_foreign, foreign_levels}
use Rattle.ber_leaf.specs.Leaf.{Leaf, general_string, visible_string, printable_string, iso_date, iso_time, object_descriptor, bit_string, Holds, content_fault, is_oid, normal_content}
use Rattle.ber_leaf.specs.Profile.{Profile}
use Rattle.ber_leaf.specs.Simple.{bits}
use Rattle.ill_schema.specs.Content.{Content, Entries}
use Rattle.ill_schema.specs.Fits.{Fits, FitRows}
use Rattle.ill_schema.specs.Texts.{characters, hexadecimal, oid_text}
use Rattle.ill_tables.specs.Names.{row_name, row_node}
use Rattle.ill_tables.specs.Numbers.{number_name, number_names}
use Rattle.ill_tables.specs.Table.{kind_of, rows_of}
use Rattle.ill_tables.specs.declared.node.Kind.{Kind}
use Rattle.ill_tables.specs.declared.node.LeafKind.{LeafKind}
use Rattle.ill_tables.specs.declared.node.NodeId.{NodeId}
use Rattle.ill_tables.specs.declared.node.NodeId.TheVariants.{External, TaggedExternal}
use Rattle.ill_tables.specs.declared.part.Presence.{Presence}
use Rattle.ill_tables.specs.declared.part.Row.{Row}
use Rattle.ill_build.specs.declared.cause.BuildCause.{BuildCause}
use Rattle.ill_build.specs.Members.{Known, first_fault, of_names, of_type}
use Rattle.ill_texts.specs.Numbers.{is_whole}
use Rattle.ill_build.specs.Path.{Step, indexed, named}
use Rattle.ill_build.specs.Said.{EntriesSay, Says}

-- ---- texts

-- a number that has a point, an exponent or another sign, or that takes more than 64 bits
abbrev pub IsNumberFault : List ℕ → BuildCause → Type 0
IsNumberFault text cause =
    ((cause ≡ BuildCause.NotWhole) × (is_whole text ≡ false))
    ⊎ ((cause ≡ BuildCause.NumberTooLong) × IsTrue (is_whole text) × ((n : ℤ) → FitsSigned w64 n → text ≡ signed_decimal n → ⊥))

-- the same of a number of bits, which isn't below 0
abbrev pub IsCountFault : List ℕ → BuildCause → Type 0
IsCountFault text cause =
    ((cause ≡ BuildCause.NotWhole) × (is_whole text ≡ false))
    ⊎ ((cause ≡ BuildCause.NumberTooLong) × IsTrue (is_whole text) × ((n : ℕ) → n < 2 ^ 63 → text ≡ decimal n → ⊥))

abbrev pub text_cause : Leaf → BuildCause
text_cause iso_date = BuildCause.BadDate
text_cause iso_time = BuildCause.BadTime
text_cause _ = BuildCause.BadText

-- a character that is no octet, or octets that are no content of the leaf
abbrev pub IsTextFault : Profile → Leaf → List ℕ → BuildCause → Type 0
IsTextFault p leaf text cause =
    ((cause ≡ BuildCause.BadCharacter) × ((octets : List ℕ) → IsTrue (are_octets octets) → text ≡ characters octets → ⊥))
    ⊎ ((octets : List ℕ) × IsTrue (are_octets octets) × (text ≡ characters octets) × (content_fault p leaf octets ≢ None) × (cause ≡ text_cause leaf))

abbrev pub IsOidFault : List ℕ → BuildCause → Type 0
IsOidFault text cause =
    (cause ≡ BuildCause.BadOid) × ((octets : List ℕ) → IsTrue (are_octets octets) → IsTrue (is_oid octets) → text ≡ oid_text octets → ⊥)

abbrev pub IsHexadecimalFault : List ℕ → BuildCause → Type 0
IsHexadecimalFault text cause =
    (cause ≡ BuildCause.BadHexadecimal) × ((octets : List ℕ) → IsTrue (are_octets octets) → text ≡ hexadecimal octets → ⊥)

-- hexadecimal of octets that aren't those of one foreign tree
abbrev pub IsForeignFault : List ℕ → BuildCause → Type 0
IsForeignFault text cause =
    IsHexadecimalFault text cause
    ⊎ ((octets : List ℕ) × IsTrue (are_octets octets) × (text ≡ hexadecimal octets) × (cause ≡ BuildCause.BadForeign)
    × ((T : Tree) → IsTrue (is_foreign foreign_levels T) → octets ≡ encoding T → ⊥))

-- a name that no number of the row has; where none has a name, a string isn't due
abbrev pub IsNumberNameFault : List ℕ → List ℕ → BuildCause → Type 0
IsNumberNameFault row text cause =
    ((number_names row ≡ []) × (cause ≡ BuildCause.WrongType))
    ⊎ ((number_names row ≢ []) × (cause ≡ BuildCause.UnknownName) × ((n : ℤ) → number_name row n ≡ Some text → ⊥))

-- ---- values

-- another type of JSON is due
abbrev pub IsWrongType : {A : Type 0} → Option A → BuildCause → List Step → Type 0
IsWrongType found cause path = (found ≡ None) × (cause ≡ BuildCause.WrongType) × (path ≡ [])

-- a text that isn't there, or has a fault
abbrev pub IsFaultOf : Option (List ℕ) → (List ℕ → BuildCause → Type 0) → BuildCause → List Step → Type 0
IsFaultOf found faulty cause path = IsWrongType found cause path ⊎ ((text : List ℕ) × (found ≡ Some text) × faulty text cause × (path ≡ []))

-- a member that may not be there
abbrev pub IsBadMember : Known → Members → BuildCause → List Step → Type 0
IsBadMember known ms cause path = (name : List ℕ) × (first_fault known [] ms ≡ Some (name, cause)) × (path ≡ named name ∷ [])

-- the fault of what is found for a row: it isn't there and has to be, or it has this fault
abbrev pub IsFoundFault : Option Json → Presence → (Json → Type 0) → BuildCause → List Step → Type 0
IsFoundFault (Some j) presence faulty cause path = faulty j
IsFoundFault None Presence.Must faulty cause path = (cause ≡ BuildCause.MissingMember) × (path ≡ [])
IsFoundFault None _ faulty cause path = ⊥

-- the fault of a member that has to be there
abbrev pub IsMemberFault : List ℕ → (Json → BuildCause → List Step → Type 0) → Json → BuildCause → List Step → Type 0
IsMemberFault name faulty j cause path =
    (rest : List Step) × (path ≡ named name ∷ rest) × IsFoundFault (get name j) Presence.Must (λ k. faulty k cause rest) cause rest

-- an object of these members has none that may not be there, and then another fault
abbrev pub IsObjectFault : Known → Json → BuildCause → List Step → Type 0 → Type 0
IsObjectFault known j cause path later =
    IsWrongType (as_object j) cause path
    ⊎ ((ms : Members) × (as_object j ≡ Some ms) × (IsBadMember known ms cause path ⊎ ((first_fault known [] ms ≡ None) × later)))

-- an object of one member, in hexadecimal
abbrev pub IsOctetsFault : List ℕ → (List ℕ → BuildCause → Type 0) → Json → BuildCause → List Step → Type 0
IsOctetsFault name faulty j cause path =
    IsObjectFault (of_names (name ∷ [])) j cause path (IsMemberFault name (λ k. IsFaultOf (as_str k) faulty) j cause path)

-- an object of the number of bits and of octets, where the bits are those of the octets
abbrev pub IsBitsFault : Profile → Json → BuildCause → List Step → Type 0
IsBitsFault p j cause path =
    IsObjectFault (of_names (codes "bits" ∷ codes "octets" ∷ [])) j cause path (
    IsMemberFault (codes "bits") (λ k. IsFaultOf (as_number k) IsCountFault) j cause path
    ⊎ ((n : ℕ) × (n < 2 ^ 63) × (get (codes "bits") j ≡ Some (number (decimal n))) × (
    IsMemberFault (codes "octets") (λ k. IsFaultOf (as_str k) IsHexadecimalFault) j cause path
    ⊎ ((octets : List ℕ) × IsTrue (are_octets octets) × (get (codes "octets") j ≡ Some (string (hexadecimal octets)))
    × (Holds p bit_string (bits n octets) (normal_content (bits n octets)) → ⊥) × (cause ≡ BuildCause.BadBits) × (path ≡ []))))
    )

-- a number by itself, by its name, or by both
abbrev pub IsWholeFault : List ℕ → Json → BuildCause → List Step → Type 0
IsWholeFault row (number text) cause path = IsNumberFault text cause × (path ≡ [])
IsWholeFault row (string text) cause path = IsNumberNameFault row text cause × (path ≡ [])
IsWholeFault row (object ms) cause path =
    ((number_names row ≡ []) × (cause ≡ BuildCause.WrongType) × (path ≡ []))
    ⊎ ((number_names row ≢ []) × IsObjectFault (of_names (codes "number" ∷ codes "name" ∷ [])) (object ms) cause path (
    IsMemberFault (codes "number") (λ k. IsFaultOf (as_number k) IsNumberFault) (object ms) cause path
    ⊎ ((n : ℤ) × FitsSigned w64 n × (get (codes "number") (object ms) ≡ Some (number (signed_decimal n)))
    × IsMemberFault (codes "name") (λ k. IsFaultOf (as_str k) (λ text c. (number_name row n ≢ Some text) × (c ≡ BuildCause.OtherName))) (object ms) cause path)
    ))
IsWholeFault row _ cause path = (cause ≡ BuildCause.WrongType) × (path ≡ [])

-- a string of this leaf, which is the one member of the object
abbrev pub IsAlternativeFault : Profile → List ℕ → Leaf → Json → BuildCause → List Step → Type 0
IsAlternativeFault p name leaf j cause path =
    (inner : Json) × (rest : List Step) × (j ≡ object (member name inner no_members)) × (path ≡ named name ∷ rest)
    × IsFaultOf (as_str inner) (IsTextFault p leaf) cause rest

-- an object of other than one member
abbrev pub IsNotOne : Json → Type 0
IsNotOne j = (name : List ℕ) (inner : Json) → j ≡ object (member name inner no_members) → ⊥

abbrev pub IsStringFault : Profile → Json → BuildCause → List Step → Type 0
IsStringFault p j cause path =
    IsObjectFault (of_names (codes "general" ∷ codes "visible" ∷ [])) j cause path (
    (IsNotOne j × (cause ≡ BuildCause.NotOneMember) × (path ≡ []))
    ⊎ IsAlternativeFault p (codes "general") general_string j cause path
    ⊎ IsAlternativeFault p (codes "visible") visible_string j cause path
    )

-- a leaf or an open type, in a row of this name
abbrev pub IsLeafFault : Profile → Kind → List ℕ → Json → BuildCause → List Step → Type 0
IsLeafFault p (Kind.Leaf LeafKind.Boolean) row j = IsWrongType (as_bool j)
IsLeafFault p (Kind.Leaf LeafKind.Integer) row j = IsWholeFault row j
IsLeafFault p (Kind.Leaf LeafKind.Enumerated) row j = IsWholeFault row j
IsLeafFault p (Kind.Leaf LeafKind.Date) row j = IsFaultOf (as_str j) (IsTextFault p iso_date)
IsLeafFault p (Kind.Leaf LeafKind.Time) row j = IsFaultOf (as_str j) (IsTextFault p iso_time)
IsLeafFault p (Kind.Leaf LeafKind.Printable) row j = IsFaultOf (as_str j) (IsTextFault p printable_string)
IsLeafFault p (Kind.Leaf LeafKind.ObjectDescriptor) row j = IsFaultOf (as_str j) (IsTextFault p object_descriptor)
IsLeafFault p (Kind.Leaf LeafKind.ObjectIdentifier) row j = IsFaultOf (as_str j) IsOidFault
IsLeafFault p (Kind.Leaf LeafKind.OctetString) row j = IsOctetsFault (codes "octets") IsHexadecimalFault j
IsLeafFault p (Kind.Leaf LeafKind.BitString) row j = IsBitsFault p j
IsLeafFault p (Kind.Leaf LeafKind.Null) row j = λ cause path. (is_null j ≡ false) × (cause ≡ BuildCause.WrongType) × (path ≡ [])
IsLeafFault p Kind.IllString row j = IsStringFault p j
IsLeafFault p Kind.Any row j = IsOctetsFault (codes "foreign") IsForeignFault j
IsLeafFault p _ row j = λ cause path. ⊥

-- ---- rows and items

-- a fault inside a member or an item, by its row's name and its type
abbrev pub Inside : Type 1
Inside = List ℕ → NodeId → Json → Type 0

-- a row that has no fault says an entry
abbrev pub IsRowSaid : Profile → NodeId → ℕ → Row → Json → Type 0
IsRowSaid p node i row j = (es : Entries) × EntriesSay node i (row ∷ []) j es × FitRows p es (row ∷ [])

-- the first of these rows that has a fault, of which the first is row i
abbrev pub AreRowsFaulty : Inside → Profile → NodeId → ℕ → List Row → Json → BuildCause → Step → List Step → Type 0
AreRowsFaulty inside p node i [] j cause step path = ⊥
AreRowsFaulty inside p node i (row ∷ rest) j cause step path =
    ((step ≡ named (row_name node i)) × IsFoundFault (get (row_name node i) j) row.presence (λ k. inside (row_name node i) row.node k) cause path)
    ⊎ (IsRowSaid p node i row j × AreRowsFaulty inside p node (suc i) rest j cause step path)

-- the first item that has a fault, of which the first is item i
abbrev pub AreItemsFaulty : (Json → Type 0) → (Json → Type 0) → ℕ → json.Items → Step → Type 0
AreItemsFaulty inside says i json.no_items step = ⊥
AreItemsFaulty inside says i (json.item j js) step = ((step ≡ indexed i) × inside j) ⊎ (says j × AreItemsFaulty inside says (suc i) js step)

-- the one member of the object, of an alternative
abbrev pub IsChosenFaulty : Inside → NodeId → Json → Step → Type 0
IsChosenFaulty inside node j step =
    (n : ℕ) × (row : Row) × (inner : Json) × (slice_get (rows_of node) n ≡ Some row) × (j ≡ object (member (row_name node n) inner no_members))
    × (step ≡ named (row_name node n)) × inside (row_name node n) row.node inner

-- ---- types

-- the type of the value that is shown: under the tag of an EXTERNAL that of the EXTERNAL
abbrev pub shown_node : NodeId → NodeId
shown_node TaggedExternal = External
shown_node node = node

-- the value itself has the fault
abbrev pub IsFaultyHere : Profile → Kind → List ℕ → NodeId → Json → BuildCause → Type 0
IsFaultyHere p Kind.Seq row node j cause = (as_object j ≡ None) × (cause ≡ BuildCause.WrongType)
IsFaultyHere p Kind.SeqOf row node j cause = (as_array j ≡ None) × (cause ≡ BuildCause.WrongType)
IsFaultyHere p Kind.Choice row node j cause =
    IsObjectFault (of_type node) j cause [] (IsNotOne j × (cause ≡ BuildCause.NotOneMember))
IsFaultyHere p kind row node j cause = IsLeafFault p kind row j cause []

-- a fault at a step, where the first of a path is that step
abbrev pub IsFaultyAt : Inside → Profile → Kind → List ℕ → NodeId → Json → BuildCause → Step → List Step → Type 0
IsFaultyAt inside p Kind.Seq row node j cause step path =
    IsObjectFault (of_type node) j cause (step ∷ path) (AreRowsFaulty inside p node 0 (rows_of node) j cause step path)
IsFaultyAt inside p Kind.SeqOf row node j cause step path =
    (js : json.Items) × (as_array j ≡ Some js)
    × AreItemsFaulty (inside row (row_node node 0)) (λ k. (c : Content) × Says row (row_node node 0) k c × Fits p c (row_node node 0)) 0 js step
IsFaultyAt inside p Kind.Choice row node j cause step path =
    IsObjectFault (of_type node) j cause (step ∷ path) (IsChosenFaulty inside node j step)
IsFaultyAt inside p kind row node j cause step path = IsLeafFault p kind row j cause (step ∷ path)

-- the value, in a row of this name, has this fault at this path
abbrev pub IsFaulty : Profile → List ℕ → NodeId → Json → BuildCause → List Step → Type 0
IsFaulty p row node j cause [] = IsFaultyHere p (kind_of (shown_node node)) row (shown_node node) j cause
IsFaulty p row node j cause (step ∷ path) =
    IsFaultyAt (λ name inner k. IsFaulty p name inner k cause path) p (kind_of (shown_node node)) row (shown_node node) j cause step path
