-- What a tree means fits.
use Rattle.std.proofs.Common.{◌≡◌, ℕ, ◌+◌, ℤ, pos, negsuc, Bool, true, false, nat_lt, List, [], ◌∷◌, Some, IsTrue, refl, sym, ap, subst, inl, inr, arith, slice_get}
use Rattle.std.specs.List.{list_all}
use Rattle.ber_tree.specs.Identifier.{Tag}
use Rattle.ber_tree.specs.Tree.{Tree, Trees}
use Rattle.ber_leaf.specs.Segments.{leaf_content}
use Rattle.ill_tables.specs.declared.node.Kind.{Kind}
use Rattle.ill_tables.specs.declared.node.LeafKind.{LeafKind}
use Rattle.ill_tables.specs.declared.node.NodeId.{NodeId}
use Rattle.ill_tables.specs.declared.node.NodeId.TheVariants.{Boolean}
use Rattle.ill_tables.specs.declared.part.Presence.{Presence}
use Rattle.ill_tables.specs.declared.part.Row.{Row}
use Rattle.ill_schema.specs.Apdu.{Apdu, MeansApdu, choice_of, root}
use Rattle.ill_schema.specs.Content.{Content, simple, sequence, list, alternative, foreign, Entries, no_entries, absent, present, Items, no_items, item}
use Rattle.ber_leaf.specs.Simple.{Simple, flag, whole}
use Rattle.ill_schema.specs.Fits.{Fits, FitRows, FitItems, FitsApdu}
use Rattle.ber_leaf.specs.Leaf.{Leaf, boolean, integer, enumerated, Holds, normal_content}
use Rattle.ber_leaf.specs.Profile.{Profile}
use Rattle.ill_schema.specs.Tagging.{Tagging, untagged, implicit, explicit, explicit_or_bare, tagging, Tagged, sequence_tag, leaf_tag, leaf_of}
use Rattle.ill_schema.specs.Presence.{is_default, is_default_of}
use Rattle.ber_core.specs.Foreign.{is_foreign, foreign_levels}
use Rattle.ill_schema.specs.Meaning.{Means, Matches, MatchItems, HoldsLeaf}
use Rattle.ill_tables.specs.Table.{kind_of, rows_of}
use Rattle.std.proofs.lemmas.Bool.{and_parts}
use Rattle.ber_leaf.proofs.Leaves.{flag_holds, normal_holds}
use Rattle.ill_schema.proofs.Tags.{at_row}
use Rattle.ill_schema.proofs.Unique.{same_value-is}

-- a number that one octet holds
abbrev is_small : ℤ → Bool
is_small (pos n) = nat_lt n 128
is_small (negsuc n) = false

abbrev is_held : Presence → Kind → Bool
is_held (Presence.Default d) (Kind.Leaf LeafKind.Boolean) = true
is_held (Presence.Default d) (Kind.Leaf LeafKind.Integer) = is_small d
is_held (Presence.Default d) (Kind.Leaf LeafKind.Enumerated) = is_small d
is_held (Presence.Default d) _ = false
is_held _ _ = true

-- some octets hold the row's default
abbrev has_held : Row → Bool
has_held row = is_held row.presence (kind_of row.node)

all_held : (node : NodeId) → IsTrue (list_all has_held (rows_of node))
all_held Boolean = refl
all_held _ = refl

-- what is inside a tagging
inside : {R : Type 0} (g : Tagging) (own : Tag) (E : Tag → Tree → Type 0) (T : Tree) → ((t : Tag) (U : Tree) → E t U → R) → Tagged g own E T → R
inside untagged own E T f h = f own T h
inside (implicit t) own E T f h = f t T h
inside (explicit t) own E T f h = f own h.0 h.2
inside (explicit_or_bare t) own E T f (inl h) = f own h.0 h.2
inside (explicit_or_bare t) own E T f (inr h) = f t T h

lt_256 : (n : ℕ) → nat_lt n 128 ≡ true → nat_lt n 256 ≡ true
lt_256 n h = grind arith

small_holds : (p : Profile) (n : ℕ) → nat_lt n 128 ≡ true → Holds p integer (whole (pos n)) (n ∷ [])
small_holds p n h =
    let e : n ≡ 0 + n = omega arith in
    (rw (lt_256 n h) refl, refl, rw h (ap (λ (k : ℕ). whole (pos k)) e))

-- as a value of the kind the default is held
kind_fits : (p : Profile) (pr : Presence) (k : Kind) (v : Simple) → IsTrue (is_held pr k) → IsTrue (is_default_of pr k (simple v))
    → (leaf : Leaf) × (leaf_of k v ≡ Some leaf) × Holds p leaf v (normal_content v)
kind_fits p (Presence.Default d) (Kind.Leaf LeafKind.Boolean) (flag b) h e = (boolean, refl, flag_holds p b)
kind_fits p (Presence.Default (pos n)) (Kind.Leaf LeafKind.Integer) v h e =
    let f = same_value-is v (whole (pos n)) e in subst (λ w. (leaf : Leaf) × (leaf_of (Kind.Leaf LeafKind.Integer) w ≡ Some leaf) × Holds p leaf w (normal_content w)) (sym f)
    (integer, refl, normal_holds p integer (whole (pos n)) (n ∷ []) (small_holds p n h))
kind_fits p (Presence.Default (pos n)) (Kind.Leaf LeafKind.Enumerated) v h e =
    let f = same_value-is v (whole (pos n)) e in subst (λ w. (leaf : Leaf) × (leaf_of (Kind.Leaf LeafKind.Enumerated) w ≡ Some leaf) × Holds p leaf w (normal_content w)) (sym f)
    (enumerated, refl, normal_holds p enumerated (whole (pos n)) (n ∷ []) (small_holds p n h))
kind_fits p pr k v h e = absurd cc

-- only a leaf's value is a default
pub default_simple : (pr : Presence) (k : Kind) (c : Content) → IsTrue (is_default_of pr k c) → (v : Simple) × (c ≡ simple v)
default_simple (Presence.Default d) k (simple v) e = (v, refl)
default_simple pr k c e = absurd cc

default_fits : (p : Profile) (c : Content) (row : Row) → IsTrue (has_held row) → IsTrue (is_default row c) → Fits p c row.node
default_fits p c row h e =
    let s = default_simple row.presence (kind_of row.node) c e in
    subst (λ x. Fits p x row.node) (sym s.1) (kind_fits p row.presence (kind_of row.node) s.0 h (subst (λ x. IsTrue (is_default_of row.presence (kind_of row.node) x)) s.1 e))

-- the default of a node's row fits
pub row_default_fits : (p : Profile) (c : Content) (node : NodeId) (i : ℕ) (row : Row) → slice_get (rows_of node) i ≡ Some row → IsTrue (is_default row c) → Fits p c row.node
row_default_fits p c node i row at e = default_fits p c row (at_row has_held (rows_of node) i row (all_held node) at) e

mutual
  pub means_fits : (p : Profile) (c : Content) (node : NodeId) (g : Tagging) (T : Tree) → Means p c node g T → Fits p c node
  means_fits p (simple v) node g T m =
      let o : (o : List ℕ) × Holds p m.0 v o = inside g (leaf_tag m.0) (HoldsLeaf p m.0 v) T (λ t U x. (leaf_content m.0 U, x.2)) m.2 in
      (m.0, m.1, normal_holds p m.0 v o.0 o.1)
  means_fits p (sequence es) node g T m =
      (m.0, inside g sequence_tag _ T (λ t U x. matches_fit p es (rows_of node) x.0 (all_held node) x.2) m.1)
  means_fits p (list is) node g T m =
      (m.0, inside g sequence_tag _ T (λ t U x. match_items_fit p is (rows_of node) x.0 x.2) m.1)
  means_fits p (alternative n c) node g T m =
      (m.0, m.1, inside g sequence_tag (λ _ U. Means p c m.0.node (tagging p m.0) U) T (λ t U x. means_fits p c m.0.node (tagging p m.0) U x) m.2)
  means_fits p (foreign V) node g T m = (m.0, inside g sequence_tag _ T (λ t U x. subst (λ z. IsTrue (is_foreign foreign_levels z)) x.0 x.1) m.1)

  matches_fit : (p : Profile) (es : Entries) (rows : List Row) (ts : Trees) → IsTrue (list_all has_held rows) → Matches p es rows ts → FitRows p es rows
  matches_fit p no_entries [] ts h m = tt
  matches_fit p no_entries (row ∷ rows) ts h m = absurd m
  matches_fit p (absent es) [] ts h m = absurd m
  matches_fit p (absent es) (row ∷ rows) ts h m = (m.0, matches_fit p es rows ts ((and_parts _ _ h).1) m.1)
  matches_fit p (present c es) [] ts h m = absurd m
  matches_fit p (present c es) (row ∷ rows) ts h m =
      let parts = and_parts (has_held row) (list_all has_held rows) h in
      elim m.1 [
        | inl x ↦ (m.0, means_fits p c row.node (tagging p row) x.0 x.3, matches_fit p es rows x.1 parts.1 x.4)
        | inr x ↦ (m.0, default_fits p c row parts.0 x.0, matches_fit p es rows ts parts.1 x.1)
      ]

  match_items_fit : (p : Profile) (is : Items) (rows : List Row) (ts : Trees) → MatchItems p is rows ts → FitItems p is rows
  match_items_fit p no_items rows ts m = tt
  match_items_fit p (item c is) rows ts m =
      (m.0, m.3, means_fits p c m.0.node (tagging p m.0) m.1 m.5, match_items_fit p is rows m.2 m.6)

-- what means an APDU fits
pub means_apdu_fits : (p : Profile) (a : Apdu) (T : Tree) → MeansApdu p a T → FitsApdu p a
means_apdu_fits p a T m = (m.0, means_fits p (choice_of a) (root p) untagged T m.1)
