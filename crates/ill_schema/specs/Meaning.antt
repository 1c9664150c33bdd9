-- What trees mean (X.690, 8.2 to 8.4, 8.6, 8.7, 8.9, 8.10, 8.13, 8.14 and 8.23; the types are those of ISO 10161-1).
use Rattle.std.specs.Prelude.{◌≡◌, ◌⊎◌, ℕ, List, [], ◌∷◌, Some, IsTrue, slice_get}
use Rattle.ber_tree.specs.Identifier.{Tag}
use Rattle.ber_tree.specs.Tree.{Tree, Trees, primitive, constructed, none, more, tag_of, AreSegments}
use Rattle.ill_tables.specs.declared.{node.Kind.Kind, node.NodeId.NodeId, part.Row.Row}
use Rattle.ill_schema.specs.Content.{Content, simple, sequence, list, alternative, foreign, Entries, no_entries, absent, present, Items, no_items, item}
use Rattle.ber_leaf.specs.{Simple.Simple, Profile.Profile}
use Rattle.ber_leaf.specs.Leaf.{Leaf, is_string, Holds}
use Rattle.ber_leaf.specs.Segments.{segment_tag, leaf_content}
use Rattle.ill_schema.specs.Tagging.{Tagging, tagging, Tagged, leaf_tag, leaf_of, sequence_tag}
use Rattle.ber_core.specs.Foreign.{is_foreign, foreign_levels}
use Rattle.ill_schema.specs.Presence.{IsCarried, MayLack, is_default}
use Rattle.ill_tables.specs.Table.{kind_of, rows_of}

-- a primitive tree may be any leaf (8.2.1, 8.3.1, 8.4), a constructed one only a string in segments (8.6.4, 8.7.3, 8.23)
abbrev pub IsLeaf : Leaf → Tree → Type 0
IsLeaf leaf (primitive tag octets) = Unit {0}
IsLeaf leaf (constructed tag trees) = IsTrue (is_string leaf) × AreSegments (segment_tag leaf) trees

-- the tree has the tag, and its content holds the value
abbrev pub HoldsLeaf : Profile → Leaf → Simple → Tag → Tree → Type 0
HoldsLeaf p leaf v tag T = (tag_of T ≡ tag) × IsLeaf leaf T × Holds p leaf v (leaf_content leaf T)

-- the tree is the leaf of the node's kind, under a tagging, and holds the value
abbrev pub MeansSimple : Profile → Simple → NodeId → Tagging → Tree → Type 0
MeansSimple p v node g T = (leaf : Leaf) × (leaf_of (kind_of node) v ≡ Some leaf) × Tagged g (leaf_tag leaf) (HoldsLeaf p leaf v) T

-- a row that a choice may take (8.13)
abbrev pub IsAlternative : NodeId → ℕ → Row → Type 0
IsAlternative node n row = (kind_of node ≡ Kind.Choice) × (slice_get (rows_of node) n ≡ Some row) × IsCarried row.presence

abbrev mutual
  -- under a tagging, the tree means the value as the type of the node: a leaf, a SEQUENCE (8.9), a SEQUENCE OF (8.10), a CHOICE (8.13), an open type (8.15)
  pub Means : Profile → Content → NodeId → Tagging → Tree → Type 0
  Means p (simple v) node g T = MeansSimple p v node g T
  Means p (sequence es) node g T =
      (kind_of node ≡ Kind.Seq) × Tagged g sequence_tag (λ tag U. (ts : Trees) × (U ≡ constructed tag ts) × Matches p es (rows_of node) ts) T
  Means p (list is) node g T =
      (kind_of node ≡ Kind.SeqOf) × Tagged g sequence_tag (λ tag U. (ts : Trees) × (U ≡ constructed tag ts) × MatchItems p is (rows_of node) ts) T
  Means p (alternative n c) node g T =
      (row : Row) × IsAlternative node n row × Tagged g sequence_tag (λ _ U. Means p c row.node (tagging p row) U) T
  Means p (foreign V) node g T =
      (kind_of node ≡ Kind.Any) × Tagged g sequence_tag (λ _ U. (U ≡ V) × IsTrue (is_foreign foreign_levels U)) T

  -- the trees of a SEQUENCE's rows, in their order (8.9.2): none for an absent row, one for a present one, or none where it is the default (8.9.3)
  pub Matches : Profile → Entries → List Row → Trees → Type 0
  Matches p no_entries [] ts = ts ≡ none
  Matches p (absent es) (row ∷ rows) ts = MayLack row.presence × Matches p es rows ts
  Matches p (present c es) (row ∷ rows) ts = IsCarried row.presence × (
      ((T : Tree) × (us : Trees) × (ts ≡ more T us) × Means p c row.node (tagging p row) T × Matches p es rows us)
      ⊎ (IsTrue (is_default row c) × Matches p es rows ts))
  Matches _ _ _ _ = ⊥

  -- one tree for each item, in their order (8.10.2, 8.10.3)
  pub MatchItems : Profile → Items → List Row → Trees → Type 0
  MatchItems p no_items rows ts = ts ≡ none
  MatchItems p (item c is) rows ts = (row : Row) × (T : Tree) × (us : Trees)
      × (slice_get rows 0 ≡ Some row) × (ts ≡ more T us) × Means p c row.node (tagging p row) T × MatchItems p is rows us
