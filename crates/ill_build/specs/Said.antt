-- Which content a value of JSON says: what `show --json` writes of it, where members may come in any order, a row that has its default may
-- have no member, and a number that has a name may be given by the number alone or by the name alone.
use Rattle.std.specs.Prelude.{◌≡◌, ◌⊎◌, ◌<◌, ◌^◌, ℕ, suc, ℤ, IsTrue, List, [], ◌∷◌, codes, decimal, Option, Some, None}
use Rattle.std.specs.Fmt.{signed_decimal}
use Rattle.json.specs.Find.{get}
use Rattle.json.specs.Json.{Json, number, string, array, object, no_members, member}
use Rattle.json.specs.Json as json
use Rattle.ber_tree.specs.Octets.{are_octets}
use Rattle.ber_tree.specs.Tree.{Tree}
use Rattle.ber_core.specs.Der.{encoding}
use Rattle.ber_leaf.specs.Simple.{Simple, whole, bits}
use Rattle.ill_schema.specs.Content.{Content, simple, sequence, list, alternative, foreign, Entries, no_entries, absent, present, Items, no_items, item}
use Rattle.ill_schema.specs.Presence.{default_value}
use Rattle.ill_schema.specs.Texts.{hexadecimal}
use Rattle.ill_tables.specs.Names.{row_name, row_node}
use Rattle.ill_tables.specs.Numbers.{number_name}
use Rattle.ill_tables.specs.Table.{kind_of, rows_of}
use Rattle.ill_tables.specs.declared.node.NodeId.{NodeId}
use Rattle.ill_tables.specs.declared.part.Presence.{Presence}
use Rattle.ill_tables.specs.declared.part.Row.{Row}
use Rattle.ill_build.specs.Members.{IsObjectOf, of_names, of_type}
use Rattle.ill_json.specs.Json.{leaf_json}

-- an object of these two members, in either order
abbrev pub IsPair : List ℕ → Json → List ℕ → Json → Json → Type 0
IsPair name i other j o = IsObjectOf (of_names (name ∷ other ∷ [])) o × (get name o ≡ Some i) × (get other o ≡ Some j)

-- the name of a number, or an object of the number and its name
abbrev pub NamedSays : List ℕ → ℤ → Json → Type 0
NamedSays name n j = (j ≡ string name) ⊎ IsPair (codes "number") (number (signed_decimal n)) (codes "name") (string name) j

abbrev pub NameSays : Option (List ℕ) → ℤ → Json → Type 0
NameSays None n j = ⊥
NameSays (Some name) n j = NamedSays name n j

-- a leaf, in a row of this name
abbrev pub LeafSays : List ℕ → Json → Simple → Type 0
LeafSays row j (whole n) = (j ≡ number (signed_decimal n)) ⊎ NameSays (number_name row n) n j
LeafSays row j (bits n octets) = (n < 2 ^ 63) × IsPair (codes "bits") (number (decimal n)) (codes "octets") (string (hexadecimal octets)) j
LeafSays row j v = j ≡ leaf_json row v

-- the octets of a foreign tree
abbrev pub ForeignSays : Json → Tree → Type 0
ForeignSays j T = IsTrue (are_octets (encoding T)) × (j ≡ object (member (codes "foreign") (string (hexadecimal (encoding T))) no_members))

abbrev pub IsDefaultAt : Presence → NodeId → Content → Type 0
IsDefaultAt (Presence.Default d) node c = c ≡ simple (default_value (kind_of node) d)
IsDefaultAt _ node c = ⊥

-- the content is the default of the row
abbrev pub IsDefaultOf : Row → Content → Type 0
IsDefaultOf row c = IsDefaultAt row.presence row.node c

-- a member that is there says it, or it is the default of a row that has no member
abbrev pub Given : Option Json → (Json → Type 0) → Type 0 → Type 0
Given (Some j) says default = says j
Given None says default = default

-- the value under the name of an alternative; alone where there is none, as under the tag of an EXTERNAL
abbrev pub Under : List ℕ → Json → (Json → Type 0) → Type 0
Under [] j says = says j
Under (letter ∷ name) j says = (inner : Json) × (j ≡ object (member (letter ∷ name) inner no_members)) × says inner

abbrev mutual
  -- a value of this type, in a row of this name
  pub Says : List ℕ → NodeId → Json → Content → Type 0
  Says row node j (simple v) = LeafSays row j v
  Says row node j (sequence es) = IsObjectOf (of_type node) j × EntriesSay node 0 (rows_of node) j es
  Says row node j (list is) = (js : json.Items) × (j ≡ array js) × ItemsSay row (row_node node 0) js is
  Says row node j (alternative n c) = Under (row_name node n) j (λ inner. Says (row_name node n) (row_node node n) inner c)
  Says row node j (foreign T) = ForeignSays j T

  -- the entries of these rows, of which the first is row i
  pub EntriesSay : NodeId → ℕ → List Row → Json → Entries → Type 0
  EntriesSay node i [] j no_entries = Unit {0}
  EntriesSay node i (row ∷ rest) j (absent es) = (get (row_name node i) j ≡ None) × EntriesSay node (suc i) rest j es
  EntriesSay node i (row ∷ rest) j (present c es) =
      Given (get (row_name node i) j) (λ inner. Says (row_name node i) row.node inner c) (IsDefaultOf row c) × EntriesSay node (suc i) rest j es
  EntriesSay _ _ _ _ _ = ⊥

  pub ItemsSay : List ℕ → NodeId → json.Items → Items → Type 0
  ItemsSay row node json.no_items no_items = Unit {0}
  ItemsSay row node (json.item j js) (item c is) = Says row node j c × ItemsSay row node js is
  ItemsSay _ _ _ _ = ⊥
