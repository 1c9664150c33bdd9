-- What is spelled in profile one is spelled in profile two.
use Rattle.std.proofs.Common.{◌≡◌, ◌⊎◌, ℕ, ◌≤◌, List, [], ◌∷◌, Option, Some, None, IsTrue, refl, sym, subst, inl, inr, arith}
use Rattle.ber_tree.specs.declared.class.Class.{Class}
use Rattle.ber_tree.specs.Identifier.{Tag}
use Rattle.ber_tree.specs.Tree.{Tree, Trees, constructed, more, none}
use Rattle.ill_tables.specs.declared.part.Mode.{Mode}
use Rattle.ill_tables.specs.declared.node.NodeId.{NodeId}
use Rattle.ill_tables.specs.declared.node.NodeId.TheVariants.{IllApdu}
use Rattle.ill_tables.specs.declared.part.Presence.{Presence}
use Rattle.ill_tables.specs.declared.part.Row.{Row}
use Rattle.ill_schema.specs.Apdu.{Apdu, choice_of, Encodes, SpellsApdu}
use Rattle.ill_schema.specs.Content.{Content, simple, sequence, list, alternative, foreign, Entries, no_entries, absent, present, Items, no_items, item}
use Rattle.ber_leaf.specs.Profile.{profile_one, profile_two}
use Rattle.ill_schema.specs.Tagging.{Tagging, untagged, implicit, explicit, explicit_or_bare, tagging, Tagged, leaf_tag, sequence_tag}
use Rattle.ber_core.specs.Foreign.{is_foreign, foreign_levels}
use Rattle.ill_schema.specs.Meaning.{Means, Matches, MatchItems, HoldsLeaf}
use Rattle.ill_tables.specs.Table.{rows_of}
use Rattle.ber_leaf.proofs.Leaves.{wider_content}

Wider : Tagging → Tagging → Type 0
Wider g h = (g ≡ h) ⊎ ((t : Tag) × (g ≡ explicit t) × (h ≡ explicit_or_bare t))

row_wider : (limit : ℕ) (tag : Option (Class × ℕ)) (m : Mode) (pr : Presence) (node : NodeId)
    → Wider (tagging (profile_one limit) (record { tag = tag; mode = m; presence = pr; node = node })) (tagging profile_two (record { tag = tag; mode = m; presence = pr; node = node }))
unfolding Wider
row_wider limit None m pr node = inl refl
row_wider limit (Some t) Mode.Implicit pr node = inl refl
row_wider limit (Some t) Mode.Explicit pr node = inl refl
row_wider limit (Some t) Mode.Untagged pr node = inl refl
row_wider limit (Some t) Mode.ExplicitOrBare pr node = inr (record { class = t.0; number = t.1 }, refl, refl)

of_row : (limit : ℕ) (row : Row) → Wider (tagging (profile_one limit) row) (tagging profile_two row)
of_row limit row = row_wider limit row.tag row.mode row.presence row.node

same_wider : (g : Tagging) → Wider g g
unfolding Wider
same_wider g = inl refl

pub wider_part : (g : Tagging) (own : Tag) (E F : Tag → Tree → Type 0) (T : Tree) → ((t : Tag) (U : Tree) → E t U → F t U) → Tagged g own E T → Tagged g own F T
wider_part untagged own E F T f h = f own T h
wider_part (implicit t) own E F T f h = f t T h
wider_part (explicit t) own E F T f h = (h.0, h.1, f own h.0 h.2)
wider_part (explicit_or_bare t) own E F T f (inl h) = inl (h.0, h.1, f own h.0 h.2)
wider_part (explicit_or_bare t) own E F T f (inr h) = inr (f t T h)

wider_tagged : (g h : Tagging) (own : Tag) (E F : Tag → Tree → Type 0) (T : Tree) → Wider g h → ((t : Tag) (U : Tree) → E t U → F t U) → Tagged g own E T → Tagged h own F T
unfolding Wider
wider_tagged g h own E F T (inl e) f x = wider_part h own E F T f (subst (λ z. Tagged z own E T) e x)
wider_tagged g h own E F T (inr e) f x =
    let y : (U : Tree) × (T ≡ constructed e.0 (more U none)) × E own U = subst (λ z. Tagged z own E T) e.1 x in
    subst (λ z. Tagged z own F T) (sym e.2) (inl (y.0, y.1, f own y.0 y.2))

mutual
  wider : (limit : ℕ) (c : Content) (node : NodeId) (g h : Tagging) (T : Tree) → Wider g h → Means (profile_one limit) c node g T → Means profile_two c node h T
  wider limit (simple v) node g h T w m = (
    m.0,
    m.1,
    wider_tagged g h (leaf_tag m.0) (HoldsLeaf (profile_one limit) m.0 v) (HoldsLeaf profile_two m.0 v) T w
        (λ t U x. (x.0, x.1, (x.2.0, wider_content limit m.0 _ x.2.1, x.2.2))) m.2,
  )
  wider limit (sequence es) node g h T w m =
      (m.0, wider_tagged g h sequence_tag _ _ T w (λ t U x. (x.0, x.1, wider_rows limit es (rows_of node) x.0 x.2)) m.1)
  wider limit (list is) node g h T w m =
      (m.0, wider_tagged g h sequence_tag _ _ T w (λ t U x. (x.0, x.1, wider_items limit is (rows_of node) x.0 x.2)) m.1)
  wider limit (alternative n c) node g h T w m =
      (m.0, m.1, wider_tagged g h sequence_tag _ _ T w (λ t U x. wider limit c m.0.node _ _ U (of_row limit m.0) x) m.2)
  wider limit (foreign V) node g h T w m = (m.0, wider_tagged g h sequence_tag (λ _ U. (U ≡ V) × IsTrue (is_foreign foreign_levels U)) (λ _ U. (U ≡ V) × IsTrue (is_foreign foreign_levels U)) T w (λ t U x. x) m.1)

  wider_rows : (limit : ℕ) (es : Entries) (rows : List Row) (ts : Trees) → Matches (profile_one limit) es rows ts → Matches profile_two es rows ts
  wider_rows limit no_entries [] ts m = m
  wider_rows limit no_entries (row ∷ rows) ts m = m
  wider_rows limit (absent es) [] ts m = m
  wider_rows limit (absent es) (row ∷ rows) ts m = (m.0, wider_rows limit es rows ts m.1)
  wider_rows limit (present c es) [] ts m = m
  wider_rows limit (present c es) (row ∷ rows) ts m = (
    m.0,
    elim m.1 [
      | inl x ↦ inl (x.0, x.1, x.2, wider limit c row.node _ _ x.0 (of_row limit row) x.3, wider_rows limit es rows x.1 x.4)
      | inr x ↦ inr (x.0, wider_rows limit es rows ts x.1)
    ],
  )

  wider_items : (limit : ℕ) (is : Items) (rows : List Row) (ts : Trees) → MatchItems (profile_one limit) is rows ts → MatchItems profile_two is rows ts
  wider_items limit no_items rows ts m = m
  wider_items limit (item c is) rows ts m =
      (m.0, m.1, m.2, m.3, m.4, wider limit c m.0.node _ _ m.1 (of_row limit m.0) m.5, wider_items limit is rows m.2 m.6)

pub encodes_wider : (limit : ℕ) (a : Apdu) (b : List ℕ) → limit ≤ 1_048_576 → Encodes (profile_one limit) a b → Encodes profile_two a b
encodes_wider limit a b le h = record {
  tree = h.tree;
  means = (h.means.0, wider limit (choice_of a) IllApdu untagged untagged h.tree (same_wider untagged) h.means.1);
  spells = h.spells;
  shallow = h.shallow;
  short = let s = h.short in omega arith;
}

-- profile two spells what profile one spells; the normal form takes no profile
pub spells_wider : (limit : ℕ) (a : Apdu) (b : List ℕ) → limit ≤ 1_048_576 → SpellsApdu (profile_one limit) a b → SpellsApdu profile_two a b
spells_wider limit a b le h = record { encodes = encodes_wider limit a b le h.encodes; normal_short = let s = h.normal_short in omega arith }
