-- The parts of a content whose normal form isn't too long aren't too long: BIT STRINGs have numbers of bits that a line can say, and foreign trees are octets.
use Rattle.std.proofs.Common.{◌≡◌, ℕ, ◌+◌, ◌-◌, ◌*◌, ◌^◌, ◌<◌, ◌≤◌, Bool, true, false, IsTrue, ℤ, List, [], ◌∷◌, length, Option, Some, None, refl, sym, ap, subst, arith, lit≤, slice_get}
use Rattle.std.proofs.Math.Nat.{lt_of_lt_of_le}
use Rattle.ber_core.specs.Der.{encoding, size, sizes}
use Rattle.ber_core.specs.Foreign.{foreign_levels, is_foreign}
use Rattle.ber_core.proofs.Encodings.{encoding_spells, length-encoding}
use Rattle.ber_core.proofs.Foreign.{foreign_identified}
use Rattle.ill_refusals.proofs.SpelledOctets.{foreign_octets, spelled_octets}
use Rattle.ber_leaf.specs.Leaf.{Leaf, Holds, bit_string, normal_content, value}
use Rattle.ber_leaf.specs.Profile.{Profile, profile_two}
use Rattle.ber_leaf.specs.Simple.{Simple, bits}
use Rattle.ber_tree.specs.Identifier.{Tag}
use Rattle.ber_tree.specs.Octets.{are_octets}
use Rattle.ber_tree.specs.Tree.{Tree, Trees, constructed, more, none, primitive}
use Rattle.ill_schema.specs.Apdu.{Apdu, choice_of, normal_form_in, root}
use Rattle.ill_schema.specs.Content.{Content, simple, sequence, list, alternative, foreign, Entries, no_entries, absent, present, Items, no_items, item}
use Rattle.ill_schema.specs.Fits.{Fits, FitItems, FitRows, FitsApdu}
use Rattle.ill_schema.specs.Normal.{normal_items, normal_tree, normal_trees}
use Rattle.ill_schema.specs.Presence.{default_value, is_default}
use Rattle.ill_schema.specs.Tagging.{Tagging, explicit, explicit_or_bare, implicit, leaf_of, leaf_tag, sequence_tag, tag_tree, tagging, untagged}
use Rattle.ill_tables.specs.Table.{kind_of, rows_of}
use Rattle.ill_tables.specs.declared.node.Kind.{Kind}
use Rattle.ill_tables.specs.declared.node.LeafKind.{LeafKind}
use Rattle.ill_tables.specs.declared.node.NodeId.{NodeId}
use Rattle.ill_tables.specs.declared.part.Presence.{Presence}
use Rattle.ill_tables.specs.declared.part.Row.{Row}
use Rattle.ill_build.specs.Said.{IsDefaultAt}
use Rattle.ill_build.specs.Shown.{EachEntry, EachItem, EachPart, IsInOctets, IsSayable, IsShort}
use Rattle.ill_build.proofs.Rows.{default_is_the}

-- ---- sizes

-- a tagging makes no element smaller
tagged_size : (g : Tagging) (own : Tag) (element : Tag → Tree) (n : ℕ) → ((t : Tag) → n ≤ size (element t)) → n ≤ size (tag_tree g own element)
tagged_size untagged own element n h = h own
tagged_size (implicit t) own element n h = h t
tagged_size (explicit t) own element n h = let k = h own in omega (arith, k)
tagged_size (explicit_or_bare t) own element n h = let k = h own in omega (arith, k)

-- the sizes of an entry's tree, if it has one, and of those after it
entry_sizes : (row : Row) (rows : List Row) (c : Content) (es : Entries) → is_default row c ≡ false
    → sizes (normal_trees (present c es) (row ∷ rows)) ≡ size (normal_tree c row.node (tagging profile_two row)) + sizes (normal_trees es rows)
entry_sizes row rows c es e = ap (λ b. sizes (elim b as (λ _. Trees) [ true ↦ normal_trees es rows | false ↦ more (normal_tree c row.node (tagging profile_two row)) (normal_trees es rows) ])) e

-- the trees behind an entry are within those from it on
rest_sizes : (row : Row) (rows : List Row) (c : Content) (es : Entries) → sizes (normal_trees es rows) ≤ sizes (normal_trees (present c es) (row ∷ rows))
rest_sizes row rows c es = by (is_default row c)
  where
    by : (b : Bool) → sizes (normal_trees es rows) ≤ sizes (elim b as (λ _. Trees) [ true ↦ normal_trees es rows | false ↦ more (normal_tree c row.node (tagging profile_two row)) (normal_trees es rows) ])
    by true = omega arith
    by false = omega arith

-- an item's tree, and those after it
item_sizes : (rows : List Row) (row : Row) (c : Content) (is : Items) → slice_get rows 0 ≡ Some row
    → sizes (normal_items (item c is) rows) ≡ size (normal_tree c row.node (tagging profile_two row)) + sizes (normal_items is rows)
item_sizes [] row c is e = absurd cc
item_sizes (r ∷ rows) row c is e = let q : r ≡ row = cc in ap (λ x. size (normal_tree c x.node (tagging profile_two x)) + sizes (normal_items is (r ∷ rows))) q

-- the element of an alternative is that of its choice
chosen_size : (node : NodeId) (n : ℕ) (row : Row) (c : Content) (g : Tagging) → slice_get (rows_of node) n ≡ Some row → size (normal_tree c row.node (tagging profile_two row)) ≤ size (normal_tree (alternative n c) node g)
chosen_size node n row c g at =
    let inner : ℕ = size (normal_tree c row.node (tagging profile_two row)) in
    let tree : Tag → Option Row → Tree = λ t o. elim o as (λ _. Tree) [ Some x ↦ normal_tree c x.node (tagging profile_two x) | None ↦ constructed t none ] in
    tagged_size g sequence_tag (λ t. tree t (slice_get (rows_of node) n)) inner (λ t. subst (λ o. inner ≤ size (tree t o)) (sym at) (omega arith))

-- ---- parts

-- what holds of defaults, and of the leaves and foreign trees of fewer octets
record OfParts (p : Profile) (most : ℕ) (leaf : Simple → Type 0) (tree : Tree → Type 0) : Type 0 where
  of_leaf : (k : Kind) (v : Simple) (l : Leaf) → leaf_of k v ≡ Some l → Holds p l v (normal_content v) → length (normal_content v) < most → leaf v
  of_default : (k : Kind) (d : ℤ) → leaf (default_value k d)
  of_tree : (T : Tree) → IsTrue (is_foreign foreign_levels T) → size T < most → tree T

-- a row's default
of_default_at : (leaf : Simple → Type 0) (tree : Tree → Type 0) → ((k : Kind) (d : ℤ) → leaf (default_value k d)) → (presence : Presence) (node : NodeId) (c : Content) → IsDefaultAt presence node c → EachPart leaf tree c
of_default_at leaf tree h (Presence.Default d) node c e = subst (EachPart leaf tree) (sym e) (h (kind_of node) d)
of_default_at leaf tree h Presence.Must node c e = absurd e
of_default_at leaf tree h Presence.May node c e = absurd e
of_default_at leaf tree h Presence.LeftOut node c e = absurd e

-- an entry is the default, or has a tree
of_entry : (leaf : Simple → Type 0) (tree : Tree → Type 0) → ((k : Kind) (d : ℤ) → leaf (default_value k d)) → (c : Content) (row : Row) (n most : ℕ)
    → (is_default row c ≡ false → size (normal_tree c row.node (tagging profile_two row)) + n < most) → (size (normal_tree c row.node (tagging profile_two row)) < most → EachPart leaf tree c) → EachPart leaf tree c
of_entry leaf tree h c row n most few inner = by (is_default row c) refl
  where
    by : (b : Bool) → is_default row c ≡ b → EachPart leaf tree c
    by true e = of_default_at leaf tree h row.presence row.node c (default_is_the row c e)
    by false e = let sum = few e in inner (omega (arith, sum))

-- so it holds of each part of a content of fewer octets
mutual
  of_content : (p : Profile) (most : ℕ) (leaf : Simple → Type 0) (tree : Tree → Type 0) → OfParts p most leaf tree → (c : Content) (node : NodeId) (g : Tagging) → Fits p c node → size (normal_tree c node g) < most → EachPart leaf tree c
  of_content p most leaf tree h (simple v) node g fit few =
      let own : Tag = elim (leaf_of (kind_of node) v) as (λ _. Tag) [ Some l ↦ leaf_tag l | None ↦ sequence_tag ] in
      let le : length (normal_content v) ≤ size (normal_tree (simple v) node g) = tagged_size g own (λ t. primitive t (normal_content v)) (length (normal_content v)) (λ t. omega arith) in
      h.of_leaf (kind_of node) v fit.0 fit.1 fit.2 (omega (arith, le, few))
  of_content p most leaf tree h (sequence es) node g fit few =
      let ts : Trees = normal_trees es (rows_of node) in
      let le : sizes ts ≤ size (normal_tree (sequence es) node g) = tagged_size g sequence_tag (λ t. constructed t ts) (sizes ts) (λ t. omega arith) in
      of_entries p most leaf tree h es (rows_of node) fit.1 (omega (arith, le, few))
  of_content p most leaf tree h (list is) node g fit few =
      let ts : Trees = normal_items is (rows_of node) in
      let le : sizes ts ≤ size (normal_tree (list is) node g) = tagged_size g sequence_tag (λ t. constructed t ts) (sizes ts) (λ t. omega arith) in
      of_items p most leaf tree h is (rows_of node) fit.1 (omega (arith, le, few))
  of_content p most leaf tree h (alternative n c) node g fit few =
      of_content p most leaf tree h c fit.0.node (tagging profile_two fit.0) fit.2 (omega (arith, chosen_size node n fit.0 c g fit.1.1, few))
  of_content p most leaf tree h (foreign T) node g fit few =
      let le : size T ≤ size (normal_tree (foreign T) node g) = tagged_size g sequence_tag (λ t. T) (size T) (λ t. omega arith) in
      h.of_tree T fit.1 (omega (arith, le, few))

  of_entries : (p : Profile) (most : ℕ) (leaf : Simple → Type 0) (tree : Tree → Type 0) → OfParts p most leaf tree → (es : Entries) (rows : List Row) → FitRows p es rows → sizes (normal_trees es rows) < most → EachEntry leaf tree es
  of_entries p most leaf tree h no_entries rows fit few = tt
  of_entries p most leaf tree h (absent es) [] fit few = absurd fit
  of_entries p most leaf tree h (absent es) (row ∷ rows) fit few = of_entries p most leaf tree h es rows fit.1 few
  of_entries p most leaf tree h (present c es) [] fit few = absurd fit
  of_entries p most leaf tree h (present c es) (row ∷ rows) fit few = (
    of_entry leaf tree h.of_default c row (sizes (normal_trees es rows)) most (λ e. subst (λ n. n < most) (entry_sizes row rows c es e) few) (of_content p most leaf tree h c row.node (tagging profile_two row) fit.1),
    of_entries p most leaf tree h es rows fit.2 (omega (arith, rest_sizes row rows c es, few)),
  )

  of_items : (p : Profile) (most : ℕ) (leaf : Simple → Type 0) (tree : Tree → Type 0) → OfParts p most leaf tree → (is : Items) (rows : List Row) → FitItems p is rows → sizes (normal_items is rows) < most → EachItem leaf tree is
  of_items p most leaf tree h no_items rows fit few = tt
  of_items p most leaf tree h (item c is) rows fit few =
      let sum = item_sizes rows fit.0 c is fit.1 in
      (of_content p most leaf tree h c fit.0.node (tagging profile_two fit.0) fit.2 (omega (arith, sum, few)), of_items p most leaf tree h is rows fit.3 (omega (arith, sum, few)))

-- ---- numbers of bits

-- the octets of a BIT STRING have eight bits each
leaf_short : (p : Profile) (k : Kind) (v : Simple) (l : Leaf) → leaf_of k v ≡ Some l → Holds p l v (normal_content v) → length (normal_content v) < 2 ^ 59 → IsShort v
leaf_short p (Kind.Leaf LeafKind.BitString) (bits n o) l e h few =
    let same : l ≡ bit_string = cc in
    let is : bits n o ≡ value bit_string (normal_content (bits n o)) = subst (λ x. bits n o ≡ value x (normal_content (bits n o))) same h.2 in
    let count : n ≡ 8 * length o - (8 * length o - n) = cc in
    omega (arith, count, few)
leaf_short p k (bits n o) l e h few = absurd cc
leaf_short p k v l e h few = tt

-- no default is a BIT STRING
default_short : (k : Kind) (d : ℤ) → IsShort (default_value k d)
default_short (Kind.Leaf LeafKind.Boolean) d = tt
default_short _ d = tt

-- ---- foreign trees

-- where a length can say its size, a foreign tree is encoded in octets
tree_octets : (T : Tree) → IsTrue (is_foreign foreign_levels T) → size T < 256 ^ 126 → IsTrue (are_octets (encoding T))
tree_octets T h few =
    spelled_octets T (encoding T) (encoding_spells T (foreign_identified foreign_levels T h) (subst (λ n. n < 256 ^ 126) (sym (length-encoding T)) few)) (foreign_octets foreign_levels T h)

-- ---- contents

-- a line can say a content whose normal form has fewer than 2 ^ 59 octets
pub few_octets_sayable : (p : Profile) (c : Content) (node : NodeId) (g : Tagging) → length (encoding (normal_tree c node g)) < 2 ^ 59 → Fits p c node → IsSayable c
few_octets_sayable p c node g few fit =
    of_content p (2 ^ 59) IsShort IsInOctets (record { of_leaf = leaf_short p; of_default = default_short; of_tree = λ T h s. tree_octets T h (lt_of_lt_of_le s (lit≤ tt)) }) c node g fit
    (subst (λ n. n < 2 ^ 59) (length-encoding (normal_tree c node g)) few)

-- the same of an APDU
pub apdu_sayable : (p : Profile) (a : Apdu) → FitsApdu p a → length (normal_form_in p a) < 2 ^ 59 → IsSayable a.body
apdu_sayable p a fit few = few_octets_sayable p (choice_of a) (root p) untagged few fit.1
