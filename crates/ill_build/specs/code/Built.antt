-- What the builder appends: the octets of a content that a value of JSON says.
use Rattle.std.specs.Prelude.{◌≡◌, ◌++◌, ℕ, Bool, IsTrue, List, Option, Some, None}
use Rattle.json.specs.Json.{Json}
use Rattle.json.specs.Json as json
use Rattle.ber_core.specs.Der.{encoding, encodings}
use Rattle.ber_core.specs.Foreign.{is_foreign, foreign_levels}
use Rattle.ber_leaf.specs.Leaf.{Leaf, Holds, normal_content}
use Rattle.ber_leaf.specs.Profile.{Profile}
use Rattle.ber_leaf.specs.Simple.{Simple}
use Rattle.ber_tree.specs.declared.class.Class.{Class}
use Rattle.ber_tree.specs.Identifier.{HasIdentifier, Tag}
use Rattle.ber_tree.specs.Tree.{Tree, constructed}
use Rattle.ill_schema.specs.Content.{Content, Entries, Items}
use Rattle.ill_schema.specs.Elements.{element_tree, row_tree, tag_at, trees_unless}
use Rattle.ill_schema.specs.Fits.{Fits, FitItems, FitRows}
use Rattle.ill_schema.specs.Normal.{normal_items, normal_trees}
use Rattle.ill_schema.specs.Presence.{is_default}
use Rattle.ill_schema.specs.Tagging.{leaf_of, leaf_tag}
use Rattle.ill_tables.specs.Names.{row_node}
use Rattle.ill_tables.specs.Table.{rows_of}
use Rattle.ill_tables.specs.declared.node.Kind.{Kind}
use Rattle.ill_tables.specs.declared.node.NodeId.{NodeId}
use Rattle.ill_tables.specs.declared.part.Row.{Row}
use Rattle.ill_build.specs.Members.{IsObjectOf, of_type}
use Rattle.ill_build.specs.Said.{EntriesSay, ForeignSays, ItemsSay, LeafSays, Says}

-- the contents octets of a leaf that a value says, and the number of its universal tag
abbrev pub ReadsLeaf : Profile → Kind → List ℕ → Json → ℕ → List ℕ → Type 0
ReadsLeaf p kind row j number octets =
    (v : Simple) × (leaf : Leaf) × (leaf_of kind v ≡ Some leaf) × Holds p leaf v (normal_content v) × LeafSays row j v
    × (octets ≡ normal_content v) × (number ≡ (leaf_tag leaf).number)

-- the element of a content that the value says
abbrev pub Built : Profile → List ℕ → NodeId → Option (Class × ℕ) → Json → List ℕ → List ℕ → Type 0
Built p name node replaced j old new =
    (c : Content) × Says name node j c × Fits p c node × (new ≡ old ++ encoding (element_tree replaced node c))

abbrev pub BuiltRow : Profile → List ℕ → Row → Json → List ℕ → List ℕ → Type 0
BuiltRow p name row j old new =
    (c : Content) × Says name row.node j c × Fits p c row.node × (new ≡ old ++ encoding (row_tree row c))

-- nothing for the row's default
abbrev pub BuiltPresent : Profile → List ℕ → Row → Json → List ℕ → List ℕ → Type 0
BuiltPresent p name row j old new =
    (c : Content) × Says name row.node j c × Fits p c row.node × (new ≡ old ++ encodings (trees_unless (is_default row c) (row_tree row c)))

-- the entries of these rows, of which the first is row i
abbrev pub BuiltEntries : Profile → NodeId → ℕ → List Row → Json → List ℕ → List ℕ → Type 0
BuiltEntries p node i rows j old new =
    (es : Entries) × EntriesSay node i rows j es × FitRows p es rows × (new ≡ old ++ encodings (normal_trees es rows))

abbrev pub BuiltItems : Profile → List ℕ → NodeId → json.Items → List ℕ → List ℕ → Type 0
BuiltItems p name node js old new =
    (is : Items) × ItemsSay name (row_node node 0) js is × FitItems p is (rows_of node) × (new ≡ old ++ encodings (normal_items is (rows_of node)))

-- a tag, if there is one, that has an identifier in both forms
abbrev pub HasTag : Option (Class × ℕ) → Type 0
HasTag None = Unit {0}
HasTag (Some tag) = (form : Bool) → HasIdentifier (tag_at tag) form

-- a SEQUENCE and a SEQUENCE OF of this tag
abbrev pub BuiltSequence : Profile → NodeId → Tag → Json → List ℕ → List ℕ → Type 0
BuiltSequence p node tag j old new =
    IsObjectOf (of_type node) j × ((es : Entries) × EntriesSay node 0 (rows_of node) j es × FitRows p es (rows_of node)
    × (new ≡ old ++ encoding (constructed tag (normal_trees es (rows_of node)))))

abbrev pub BuiltList : Profile → List ℕ → NodeId → Tag → Json → List ℕ → List ℕ → Type 0
BuiltList p name node tag j old new =
    (js : json.Items) × (j ≡ json.array js) × ((is : Items) × ItemsSay name (row_node node 0) js is × FitItems p is (rows_of node)
    × (new ≡ old ++ encoding (constructed tag (normal_items is (rows_of node)))))

-- the kinds that have contents octets
abbrev pub IsLeafKind : Kind → Type 0
IsLeafKind (Kind.Leaf kind) = Unit {0}
IsLeafKind Kind.IllString = Unit {0}
IsLeafKind _ = ⊥

-- the octets of a foreign tree that the value says
abbrev pub ReadsForeign : Json → List ℕ → Type 0
ReadsForeign j octets =
    (T : Tree) × IsTrue (is_foreign foreign_levels T) × ForeignSays j T × (octets ≡ encoding T)
