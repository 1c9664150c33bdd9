-- The normal tree of a value means it.
use Rattle.std.proofs.Common.{◌≡◌, ◌⊎◌, ℕ, Bool, true, false, List, [], ◌∷◌, Option, Some, None, IsTrue, refl, sym, subst, inl, inr}
use Rattle.ber_tree.specs.declared.class.Class.{Class}
use Rattle.ber_tree.specs.Identifier.{Tag}
use Rattle.ber_tree.specs.Tree.{Tree, Trees, primitive, constructed, none, more}
use Rattle.ill_tables.specs.declared.part.Mode.{Mode}
use Rattle.ill_tables.specs.declared.node.NodeId.{NodeId}
use Rattle.ill_tables.specs.declared.part.Presence.{Presence}
use Rattle.ill_tables.specs.declared.part.Row.{Row}
use Rattle.ill_schema.specs.Apdu.{Apdu, MeansApdu, choice_of, root}
use Rattle.ill_schema.specs.Content.{Content, simple, sequence, list, alternative, foreign, Entries, no_entries, absent, present, Items, no_items, item}
use Rattle.ber_leaf.specs.Simple.{Simple}
use Rattle.ill_schema.specs.Fits.{Fits, FitRows, FitItems, FitsApdu}
use Rattle.ber_leaf.specs.Leaf.{normal_content}
use Rattle.ber_leaf.specs.Profile.{Profile, profile_two}
use Rattle.ill_schema.specs.Tagging.{Tagging, untagged, implicit, explicit, explicit_or_bare, tagging, Tagged, tag_tree, sequence_tag, leaf_tag}
use Rattle.ill_schema.specs.Presence.{is_default}
use Rattle.ber_core.specs.Foreign.{is_foreign, foreign_levels}
use Rattle.ill_schema.specs.Meaning.{Means, Matches, MatchItems, MeansSimple, HoldsLeaf}
use Rattle.ill_schema.specs.Normal.{normal_tree, normal_trees, normal_items}
use Rattle.ill_tables.specs.Table.{rows_of}

-- the tree of an element is under its tagging
in_tagging : (g : Tagging) (own : Tag) (E : Tag → Tree → Type 0) (f : Tag → Tree) → ((t : Tag) → E t (f t)) → Tagged g own E (tag_tree g own f)
in_tagging untagged own E f h = h own
in_tagging (implicit t) own E f h = h t
in_tagging (explicit t) own E f h = (f own, refl, h own)
in_tagging (explicit_or_bare t) own E f h = inl (f own, refl, h own)

-- DER is the same in each profile
same_at : (tag : Option (Class × ℕ)) (m : Mode) (pr : Presence) (node : NodeId) (general : ℕ → Bool) (bare : Bool) (limit : ℕ) (full : Bool) (own : Tag) (f : Tag → Tree)
    → tag_tree (tagging profile_two (record { tag = tag; mode = m; presence = pr; node = node })) own f
    ≡ tag_tree (tagging (record { general = general; bare = bare; limit = limit; full = full }) (record { tag = tag; mode = m; presence = pr; node = node })) own f
same_at None m pr node general bare limit full own f = refl
same_at (Some t) Mode.Implicit pr node general bare limit full own f = refl
same_at (Some t) Mode.Explicit pr node general bare limit full own f = refl
same_at (Some t) Mode.Untagged pr node general bare limit full own f = refl
same_at (Some t) Mode.ExplicitOrBare pr node general true limit full own f = refl
same_at (Some t) Mode.ExplicitOrBare pr node general false limit full own f = refl

same_tagged : (p : Profile) (row : Row) (own : Tag) (f : Tag → Tree) → tag_tree (tagging profile_two row) own f ≡ tag_tree (tagging p row) own f
same_tagged p row own f = same_at row.tag row.mode row.presence row.node p.general p.bare p.limit p.full own f

pub same_tree : (p : Profile) (c : Content) (row : Row) → normal_tree c row.node (tagging profile_two row) ≡ normal_tree c row.node (tagging p row)
same_tree p (simple v) row = same_tagged p row _ _
same_tree p (sequence es) row = same_tagged p row _ _
same_tree p (list is) row = same_tagged p row _ _
same_tree p (alternative n c) row = same_tagged p row _ _
same_tree p (foreign V) row = same_tagged p row _ _

simple_means : (p : Profile) (v : Simple) (node : NodeId) (g : Tagging) → Fits p (simple v) node → MeansSimple p v node g (normal_tree (simple v) node g)
simple_means p v node g fit = (
  fit.0,
  fit.1,
  subst (λ o. Tagged g (leaf_tag fit.0) (HoldsLeaf p fit.0 v)
      (tag_tree g (elim o as (λ _. Tag) [ Some l ↦ leaf_tag l | None ↦ sequence_tag ]) (λ t. primitive t (normal_content v)))) (sym fit.1)
      (in_tagging g (leaf_tag fit.0) (HoldsLeaf p fit.0 v) (λ t. primitive t (normal_content v)) (λ t. (refl, tt, fit.2))),
)

-- an entry that is its row's default has no tree, and any other has one
one : (p : Profile) (c : Content) (row : Row) (es : Entries) (rows : List Row) → Means p c row.node (tagging p row) (normal_tree c row.node (tagging profile_two row))
    → Matches p es rows (normal_trees es rows) → (b : Bool) → is_default row c ≡ b
    → let ts = elim b as (λ _. Trees) [ true ↦ normal_trees es rows | false ↦ more (normal_tree c row.node (tagging profile_two row)) (normal_trees es rows) ] in
    ((T : Tree) × (us : Trees) × (ts ≡ more T us) × Means p c row.node (tagging p row) T × Matches p es rows us) ⊎ (IsTrue (is_default row c) × Matches p es rows ts)
one p c row es rows m rest true e = inr (e, rest)
one p c row es rows m rest false e = inl (_, _, refl, m, rest)

mutual
  pub normal_means : (p : Profile) (c : Content) (node : NodeId) (g : Tagging) → Fits p c node → Means p c node g (normal_tree c node g)
  normal_means p (simple v) node g fit = simple_means p v node g fit
  normal_means p (sequence es) node g fit =
      (fit.0, in_tagging g sequence_tag _ _ (λ t. (normal_trees es (rows_of node), refl, normal_matches p es (rows_of node) fit.1)))
  normal_means p (list is) node g fit =
      (fit.0, in_tagging g sequence_tag _ _ (λ t. (normal_items is (rows_of node), refl, normal_match_items p is (rows_of node) fit.1)))
  normal_means p (alternative n c) node g fit =
      let row = fit.0 in
      let m : Means p c row.node (tagging p row) (normal_tree c row.node (tagging profile_two row)) =
      subst (λ T. Means p c row.node (tagging p row) T) (sym (same_tree p c row)) (normal_means p c row.node (tagging p row) fit.2) in (
        row,
        fit.1,
        in_tagging g sequence_tag (λ _ U. Means p c row.node (tagging p row) U) _ (λ t.
            subst (λ o. Means p c row.node (tagging p row)
            (elim o as (λ _. Tree) [ Some r ↦ normal_tree c r.node (tagging profile_two r) | None ↦ constructed t none ])) (sym fit.1.1) m),
      )
  normal_means p (foreign V) node g fit = (fit.0, in_tagging g sequence_tag (λ _ U. (U ≡ V) × IsTrue (is_foreign foreign_levels U)) _ (λ t. (refl, fit.1)))

  pub normal_matches : (p : Profile) (es : Entries) (rows : List Row) → FitRows p es rows → Matches p es rows (normal_trees es rows)
  normal_matches p no_entries [] fit = refl
  normal_matches p no_entries (row ∷ rows) fit = absurd fit
  normal_matches p (absent es) [] fit = absurd fit
  normal_matches p (absent es) (row ∷ rows) fit = (fit.0, normal_matches p es rows fit.1)
  normal_matches p (present c es) [] fit = absurd fit
  normal_matches p (present c es) (row ∷ rows) fit =
      let m : Means p c row.node (tagging p row) (normal_tree c row.node (tagging profile_two row)) =
      subst (λ T. Means p c row.node (tagging p row) T) (sym (same_tree p c row)) (normal_means p c row.node (tagging p row) fit.1) in
      (fit.0, one p c row es rows m (normal_matches p es rows fit.2) (is_default row c) refl)

  normal_match_items : (p : Profile) (is : Items) (rows : List Row) → FitItems p is rows → MatchItems p is rows (normal_items is rows)
  normal_match_items p no_items rows fit = refl
  normal_match_items p (item c is) [] fit = absurd (let e : None ≡ Some fit.0 = fit.1 in cc)
  normal_match_items p (item c is) (row ∷ rows) fit =
      let e : Some row ≡ Some fit.0 = fit.1 in
      let r : fit.0 ≡ row = cc in
      let m : Means p c row.node (tagging p row) (normal_tree c row.node (tagging profile_two row)) =
      subst (λ T. Means p c row.node (tagging p row) T) (sym (same_tree p c row)) (normal_means p c row.node (tagging p row) (subst (λ x. Fits p c x.node) r fit.2)) in
      (row, _, _, refl, refl, m, normal_match_items p is (row ∷ rows) fit.3)

-- the normal tree of an APDU that fits means the APDU
pub normal_apdu_means : (p : Profile) (a : Apdu) → FitsApdu p a → MeansApdu p a (normal_tree (choice_of a) (root p) untagged)
normal_apdu_means p a fit = (fit.0, normal_means p (choice_of a) (root p) untagged fit.1)
