-- What is spelled in profile 2 is spelled in the module profile, too, but for the types whose tags are explicit there.
use Rattle.std.proofs.Common.{◌≡◌, ℕ, ◌≤◌, Bool, true, false, not, List, [], ◌∷◌, length, Option, Some, None, IsTrue, refl, sym, ap, ap₂, subst, ◌∙◌, inl, inr, slice_get}
use Rattle.std.specs.List.{list_all}
use Rattle.std.specs.Prelude.{if◌then◌else◌}
use Rattle.std.proofs.lemmas.Bool.{and_parts}
use Rattle.ber_core.specs.Der.{encoding}
use Rattle.ber_tree.specs.Identifier.{Tag}
use Rattle.ber_tree.specs.Tree.{Tree, Trees, primitive, constructed, more, none}
use Rattle.ber_leaf.specs.declared.fault.LeafFault.{LeafFault}
use Rattle.ber_leaf.specs.Leaf.{Leaf, general_string, content_fault, normal_content}
use Rattle.ber_leaf.specs.Profile.{profile_two, profile_three}
use Rattle.ill_tables.specs.declared.node.Kind.{Kind}
use Rattle.ill_tables.specs.declared.node.NodeId.{NodeId}
use Rattle.ill_tables.specs.declared.node.NodeId.TheVariants.{Conditional, IllApdu, UnitsPerMedium, WillSupply}
use Rattle.ill_tables.specs.declared.part.Presence.{Presence}
use Rattle.ill_tables.specs.declared.part.Row.{Row}
use Rattle.ill_schema.specs.Apdu.{Apdu, choice_of, normal_form, normal_form_in, SpellsApdu}
use Rattle.ill_schema.specs.Content.{Content, simple, sequence, list, alternative, foreign, Entries, no_entries, absent, present, Items, no_items, item}
use Rattle.ill_schema.specs.Fits.{Fits, FitRows, FitItems, FitsApdu}
use Rattle.ill_schema.specs.Lift.{added_entries, are_plain, is_plain, is_plain_apdu, is_retagged, items_plain, lift, lift_apdu, lift_entries, lift_items}
use Rattle.ill_schema.specs.Meaning.{Means, Matches, MatchItems, HoldsLeaf}
use Rattle.ill_schema.specs.Normal.{normal_tree, normal_trees, normal_items}
use Rattle.ill_schema.specs.Presence.{IsCarried, is_default, is_default_of}
use Rattle.ill_tables.specs.Table.{kind_of, rows_of, twin}
use Rattle.ill_schema.specs.TableFacts.{standing}
use Rattle.ill_schema.specs.Tagging.{Tagging, Tagged, untagged, leaf_of, leaf_tag, sequence_tag, tag_tree, tagging}
use Rattle.ill_schema.proofs.MeansFits.{means_apdu_fits}
use Rattle.ill_schema.proofs.Twins.{Stand, Stands, after, all_stand, are_optional, item_carried, kinds_stay, lacks-at, mode_of, modes, modes_at, more_fit, more_match, optional, same_modes, same_tagging, stand_at, stands}
use Rattle.ill_schema.proofs.Wider.{wider_part}

-- any octet may stand in a GeneralString
all_general : (octets : List ℕ) → list_all (λ (octet : ℕ). true) octets ≡ true
all_general [] = refl
all_general (octet ∷ octets) = all_general octets

module_content : (l : Leaf) (octets : List ℕ) → content_fault profile_two l octets ≡ None → content_fault profile_three l octets ≡ None
module_content general_string octets e = ap (λ (b : Bool). if b then None else Some LeafFault.BadText) (all_general octets)
module_content _ octets e = e

-- an entry is the default of a row exactly if it was
same_default : (pr : Presence) (k : Kind) (c : Content) (node : NodeId) → is_default_of pr k (lift c node) ≡ is_default_of pr k c
same_default (Presence.Default d) k (simple v) node = refl
same_default (Presence.Default d) k (sequence es) node = refl
same_default (Presence.Default d) k (list is) node = refl
same_default (Presence.Default d) k (alternative n c) node = refl
same_default (Presence.Default d) k (foreign V) node = refl
same_default Presence.Must k c node = refl
same_default Presence.May k c node = refl
same_default Presence.LeftOut k c node = refl

default_stays : (r s : Row) (c : Content) → Stands r s → is_default s (lift c r.node) ≡ is_default r c
default_stays r s c h =
    ap₂ (λ (pr : Presence) (k : Kind). is_default_of pr k (lift c r.node)) h.presence (ap kind_of h.node ∙ kinds_stay r.node)
    ∙ same_default r.presence (kind_of r.node) c r.node

pub first_stands : (r : Row) (rs : List Row) (s : Row) (ss : List Row) → Stand (r ∷ rs) (s ∷ ss) → s ≡ standing r.presence r s
first_stands r rs s ss h = cc

pub rest_stand : (r : Row) (rs : List Row) (s : Row) (ss : List Row) → Stand (r ∷ rs) (s ∷ ss) → Stand rs ss
rest_stand r rs s ss h = cc

row_means : (c : Content) (r s : Row) (T : Tree) → Stands r s → tagging profile_three s ≡ tagging profile_two r → Means profile_three (lift c r.node) (twin r.node) (tagging profile_two r) T
    → Means profile_three (lift c r.node) s.node (tagging profile_three s) T
row_means c r s T k g m =
    subst (λ y. Means profile_three (lift c r.node) y (tagging profile_three s) T) (sym k.node)
    (subst (λ y. Means profile_three (lift c r.node) (twin r.node) y T) (sym g) m)

row_normal : (c : Content) (r s : Row) → Stands r s → tagging profile_three s ≡ tagging profile_two r → normal_tree (lift c r.node) (twin r.node) (tagging profile_two r) ≡ normal_tree c r.node (tagging profile_two r)
    → normal_tree (lift c r.node) s.node (tagging profile_two s) ≡ normal_tree c r.node (tagging profile_two r)
row_normal c r s k g e = ap₂ (λ (x : NodeId) (y : Tagging). normal_tree (lift c r.node) x y) k.node g ∙ e

-- the entries that the module has more have no trees
more_normal : (node : NodeId) → normal_trees (added_entries node) (after (rows_of node) (rows_of (twin node))) ≡ none
more_normal Conditional = refl
more_normal _ = refl

-- only sequences have other tags in the module
not_retagged : (k : Kind) (node : NodeId) → kind_of node ≡ k → (k ≡ Kind.Seq → ⊥) → IsTrue (not (is_retagged node))
not_retagged k UnitsPerMedium e n = absurd (n (sym e))
not_retagged k WillSupply e n = absurd (n (sym e))
not_retagged k _ e n = refl

pub list_plain : (node : NodeId) → kind_of node ≡ Kind.SeqOf → IsTrue (not (is_retagged node))
list_plain node e = not_retagged Kind.SeqOf node e (λ q. cc)

pub choice_plain : (node : NodeId) → kind_of node ≡ Kind.Choice → IsTrue (not (is_retagged node))
choice_plain node e = not_retagged Kind.Choice node e (λ q. cc)

-- ---- the lifted value fits

mutual
  pub lift_fits : (c : Content) (node : NodeId) → Fits profile_two c node → Fits profile_three (lift c node) (twin node)
  lift_fits (simple v) node f = (f.0, ap (λ k. leaf_of k v) (kinds_stay node) ∙ f.1, (f.2.0, module_content f.0 _ f.2.1, f.2.2))
  lift_fits (sequence es) node f = (
    kinds_stay node ∙ f.0,
    rows_fit es (rows_of node) (rows_of (twin node)) (added_entries node) (all_stand node) (optional node f.0) (more_fit node) f.1,
  )
  lift_fits (list is) node f = (kinds_stay node ∙ f.0, items_fit is (rows_of node) (rows_of (twin node)) (all_stand node) (λ row e. item_carried node row f.0 e) f.1)
  lift_fits (alternative n c) node f =
      let r = f.0 in
      let at = stand_at (rows_of node) (rows_of (twin node)) n r (all_stand node) f.1.1 in
      let s = at.0 in
      let h = stands r s at.2 f.1.2 in
      let inner : Fits profile_three (lift c r.node) s.node = subst (λ x. Fits profile_three (lift c r.node) x) (sym h.node) (lift_fits c r.node f.2) in (
        s,
        (kinds_stay node ∙ f.1.0, at.1, subst IsCarried (sym h.presence) f.1.2),
        subst (λ o. Fits profile_three (elim o as (λ _. Content) [ Some row ↦ lift c row.node | None ↦ c ]) s.node) (sym f.1.1) inner,
      )
  lift_fits (foreign V) node f = (kinds_stay node ∙ f.0, f.1)

  rows_fit : (es : Entries) (rs ss : List Row) (others : Entries) → Stand rs ss → IsTrue (are_optional rs ss) → FitRows profile_three others (after rs ss)
      → FitRows profile_two es rs → FitRows profile_three (lift_entries es rs others) ss
  rows_fit no_entries [] ss others h o m f = m
  rows_fit no_entries (r ∷ rs) ss others h o m f = absurd f
  rows_fit (absent es) [] ss others h o m f = absurd f
  rows_fit (absent es) (r ∷ rs) [] others h o m f = absurd cc
  rows_fit (absent es) (r ∷ rs) (s ∷ ss) others h o m f =
      let p = and_parts _ (are_optional rs ss) o in
      (lacks-at r.presence r s (first_stands r rs s ss h) p.0 f.0, rows_fit es rs ss others (rest_stand r rs s ss h) p.1 m f.1)
  rows_fit (present c es) [] ss others h o m f = absurd f
  rows_fit (present c es) (r ∷ rs) [] others h o m f = absurd cc
  rows_fit (present c es) (r ∷ rs) (s ∷ ss) others h o m f =
      let p = and_parts _ (are_optional rs ss) o in
      let k = stands r s (first_stands r rs s ss h) f.0 in (
        subst IsCarried (sym k.presence) f.0,
        subst (λ x. Fits profile_three (lift c r.node) x) (sym k.node) (lift_fits c r.node f.1),
        rows_fit es rs ss others (rest_stand r rs s ss h) p.1 m f.2,
      )

  items_fit : (is : Items) (rs ss : List Row) → Stand rs ss → ((row : Row) → slice_get rs 0 ≡ Some row → IsCarried row.presence) → FitItems profile_two is rs → FitItems profile_three (lift_items is rs) ss
  items_fit no_items rs ss h carried f = tt
  items_fit (item c is) [] ss h carried f = absurd (let e : None ≡ Some f.0 = f.1 in cc)
  items_fit (item c is) (r ∷ rs) ss h carried f =
      let e : Some r ≡ Some f.0 = f.1 in
      let same : f.0 ≡ r = cc in
      let at = stand_at (r ∷ rs) ss 0 r h refl in
      let k = stands r at.0 at.2 (carried r refl) in (
        at.0,
        at.1,
        subst (λ x. Fits profile_three (lift c r.node) x) (sym k.node) (lift_fits c r.node (subst (λ x. Fits profile_two c x.node) same f.2)),
        items_fit is (r ∷ rs) ss h carried f.3,
      )

-- ---- and means what is written of it

mutual
  lift_means : (c : Content) (node : NodeId) (g : Tagging) (T : Tree) → IsTrue (is_plain c node) → Means profile_two c node g T → Means profile_three (lift c node) (twin node) g T
  lift_means (simple v) node g T p m = (
    m.0,
    ap (λ k. leaf_of k v) (kinds_stay node) ∙ m.1,
    wider_part g (leaf_tag m.0) (HoldsLeaf profile_two m.0 v) (HoldsLeaf profile_three m.0 v) T (λ t U x. (x.0, x.1, (x.2.0, module_content m.0 _ x.2.1, x.2.2))) m.2,
  )
  lift_means (sequence es) node g T p m =
      let q = and_parts (not (is_retagged node)) (are_plain es (rows_of node)) p in (
        kinds_stay node ∙ m.0,
        wider_part g sequence_tag _ _ T (λ t U x. (
          x.0,
          x.1,
          rows_match es (rows_of node) (rows_of (twin node)) (added_entries node) x.0
              (all_stand node) (optional node m.0) (modes node q.0) (more_match node) q.1 x.2,
        )) m.1,
      )
  lift_means (list is) node g T p m = (
    kinds_stay node ∙ m.0,
    wider_part g sequence_tag _ _ T (λ t U x. (
      x.0,
      x.1,
      items_match is (rows_of node) (rows_of (twin node)) x.0
          (all_stand node) (modes node (list_plain node m.0)) (λ row e. item_carried node row m.0 e) p x.2,
    )) m.1,
  )
  lift_means (alternative n c) node g T p m =
      let r = m.0 in
      let at = stand_at (rows_of node) (rows_of (twin node)) n r (all_stand node) m.1.1 in
      let s = at.0 in
      let h = stands r s at.2 m.1.2 in
      let mode = mode_of r s m.1.2 (modes_at (rows_of node) (rows_of (twin node)) n r s (modes node (choice_plain node m.1.0)) m.1.1 at.1) in
      let plain : IsTrue (is_plain c r.node) = subst (λ o. IsTrue (elim o as (λ _. Bool) [ Some row ↦ is_plain c row.node | None ↦ true ])) m.1.1 p in
      let inner : (U : Tree) → Means profile_two c r.node (tagging profile_two r) U → Means profile_three (lift c r.node) s.node (tagging profile_three s) U =
      λ U x. row_means c r s U h (same_tagging r s h.tag mode) (lift_means c r.node (tagging profile_two r) U plain x) in (
        s,
        (kinds_stay node ∙ m.1.0, at.1, subst IsCarried (sym h.presence) m.1.2),
        subst (λ o. Tagged g sequence_tag (λ _ U. Means profile_three (elim o as (λ _. Content) [ Some row ↦ lift c row.node | None ↦ c ]) s.node (tagging profile_three s) U) T) (sym m.1.1)
            (wider_part g sequence_tag (λ _ U. Means profile_two c r.node (tagging profile_two r) U) (λ _ U. Means profile_three (lift c r.node) s.node (tagging profile_three s) U) T (λ t U x. inner U x) m.2),
      )
  lift_means (foreign V) node g T p m = (kinds_stay node ∙ m.0, m.1)

  rows_match : (es : Entries) (rs ss : List Row) (others : Entries) (ts : Trees) → Stand rs ss → IsTrue (are_optional rs ss) → IsTrue (same_modes rs ss) → Matches profile_three others (after rs ss) none
      → IsTrue (are_plain es rs) → Matches profile_two es rs ts → Matches profile_three (lift_entries es rs others) ss ts
  rows_match no_entries [] ss others ts h o i m p f = subst (λ x. Matches profile_three others ss x) (sym f) m
  rows_match no_entries (r ∷ rs) ss others ts h o i m p f = absurd f
  rows_match (absent es) [] ss others ts h o i m p f = absurd f
  rows_match (absent es) (r ∷ rs) [] others ts h o i m p f = absurd cc
  rows_match (absent es) (r ∷ rs) (s ∷ ss) others ts h o i m p f =
      let a = and_parts _ (are_optional rs ss) o in
      let b = and_parts _ (same_modes rs ss) i in
      (lacks-at r.presence r s (first_stands r rs s ss h) a.0 f.0, rows_match es rs ss others ts (rest_stand r rs s ss h) a.1 b.1 m p f.1)
  rows_match (present c es) [] ss others ts h o i m p f = absurd f
  rows_match (present c es) (r ∷ rs) [] others ts h o i m p f = absurd cc
  rows_match (present c es) (r ∷ rs) (s ∷ ss) others ts h o i m p f =
      let a = and_parts _ (are_optional rs ss) o in
      let b = and_parts _ (same_modes rs ss) i in
      let q = and_parts (is_plain c r.node) (are_plain es rs) p in
      let k = stands r s (first_stands r rs s ss h) f.0 in
      let g = same_tagging r s k.tag (mode_of r s f.0 b.0) in
      let rest = rest_stand r rs s ss h in (
        subst IsCarried (sym k.presence) f.0,
        elim f.1 [
          | inl x ↦ inl (x.0, x.1, x.2, row_means c r s x.0 k g (lift_means c r.node (tagging profile_two r) x.0 q.0 x.3), rows_match es rs ss others x.1 rest a.1 b.1 m q.1 x.4)
          | inr x ↦ inr (default_stays r s c k ∙ x.0, rows_match es rs ss others ts rest a.1 b.1 m q.1 x.1)
        ],
      )

  items_match : (is : Items) (rs ss : List Row) (ts : Trees) → Stand rs ss → IsTrue (same_modes rs ss) → ((row : Row) → slice_get rs 0 ≡ Some row → IsCarried row.presence)
      → IsTrue (items_plain is rs) → MatchItems profile_two is rs ts → MatchItems profile_three (lift_items is rs) ss ts
  items_match no_items rs ss ts h i carried p f = f
  items_match (item c is) [] ss ts h i carried p f = absurd (let e : None ≡ Some f.0 = f.3 in cc)
  items_match (item c is) (r ∷ rs) ss ts h i carried p f =
      let e : Some r ≡ Some f.0 = f.3 in
      let same : f.0 ≡ r = cc in
      let at = stand_at (r ∷ rs) ss 0 r h refl in
      let k = stands r at.0 at.2 (carried r refl) in
      let g = same_tagging r at.0 k.tag (mode_of r at.0 (carried r refl) (modes_at (r ∷ rs) ss 0 r at.0 i refl at.1)) in
      let q = and_parts (is_plain c r.node) (items_plain is (r ∷ rs)) p in (
        at.0,
        f.1,
        f.2,
        at.1,
        f.4,
        row_means c r at.0 f.1 k g (lift_means c r.node (tagging profile_two r) f.1 q.0 (subst (λ x. Means profile_two c x.node (tagging profile_two x) f.1) same f.5)),
        items_match is (r ∷ rs) ss f.2 h i carried q.1 f.6,
      )

-- ---- with the same normal tree

mutual
  lift_normal : (c : Content) (node : NodeId) (g : Tagging) → IsTrue (is_plain c node) → Fits profile_two c node → normal_tree (lift c node) (twin node) g ≡ normal_tree c node g
  lift_normal (simple v) node g p f =
      ap (λ k. tag_tree g (elim (leaf_of k v) as (λ _. Tag) [ Some leaf ↦ leaf_tag leaf | None ↦ sequence_tag ]) (λ tag. primitive tag (normal_content v))) (kinds_stay node)
  lift_normal (sequence es) node g p f =
      let q = and_parts (not (is_retagged node)) (are_plain es (rows_of node)) p in
      ap (λ ts. tag_tree g sequence_tag (λ tag. constructed tag ts))
      (rows_normal es (rows_of node) (rows_of (twin node)) (added_entries node) (all_stand node) (modes node q.0) (more_normal node) q.1 f.1)
  lift_normal (list is) node g p f =
      ap (λ ts. tag_tree g sequence_tag (λ tag. constructed tag ts))
      (items_normal is (rows_of node) (rows_of (twin node)) (all_stand node) (modes node (list_plain node f.0)) (λ row e. item_carried node row f.0 e) p f.1)
  lift_normal (alternative n c) node g p f =
      let r = f.0 in
      let at = stand_at (rows_of node) (rows_of (twin node)) n r (all_stand node) f.1.1 in
      let s = at.0 in
      let h = stands r s at.2 f.1.2 in
      let mode = mode_of r s f.1.2 (modes_at (rows_of node) (rows_of (twin node)) n r s (modes node (choice_plain node f.1.0)) f.1.1 at.1) in
      let plain : IsTrue (is_plain c r.node) = subst (λ o. IsTrue (elim o as (λ _. Bool) [ Some row ↦ is_plain c row.node | None ↦ true ])) f.1.1 p in
      ap₂ (λ (o q : Option Row). tag_tree g sequence_tag (λ tag. elim o as (λ _. Tree) [
        | Some row ↦ normal_tree (elim q as (λ _. Content) [ Some x ↦ lift c x.node | None ↦ c ]) row.node (tagging profile_two row)
        | None ↦ constructed tag none
      ])) at.1 f.1.1
      ∙ ap (λ (T : Tree). tag_tree g sequence_tag (λ tag. T)) (row_normal c r s h (same_tagging r s h.tag mode) (lift_normal c r.node (tagging profile_two r) plain f.2))
      ∙ sym (ap (λ (o : Option Row). tag_tree g sequence_tag (λ tag. elim o as (λ _. Tree) [ Some row ↦ normal_tree c row.node (tagging profile_two row) | None ↦ constructed tag none ])) f.1.1)
  lift_normal (foreign V) node g p f = refl

  rows_normal : (es : Entries) (rs ss : List Row) (others : Entries) → Stand rs ss → IsTrue (same_modes rs ss) → normal_trees others (after rs ss) ≡ none → IsTrue (are_plain es rs) → FitRows profile_two es rs
      → normal_trees (lift_entries es rs others) ss ≡ normal_trees es rs
  rows_normal no_entries [] ss others h i m p f = m
  rows_normal no_entries (r ∷ rs) ss others h i m p f = absurd f
  rows_normal (absent es) [] ss others h i m p f = absurd f
  rows_normal (absent es) (r ∷ rs) [] others h i m p f = absurd cc
  rows_normal (absent es) (r ∷ rs) (s ∷ ss) others h i m p f =
      rows_normal es rs ss others (rest_stand r rs s ss h) (and_parts _ (same_modes rs ss) i).1 m p f.1
  rows_normal (present c es) [] ss others h i m p f = absurd f
  rows_normal (present c es) (r ∷ rs) [] others h i m p f = absurd cc
  rows_normal (present c es) (r ∷ rs) (s ∷ ss) others h i m p f =
      let b = and_parts _ (same_modes rs ss) i in
      let q = and_parts (is_plain c r.node) (are_plain es rs) p in
      let k = stands r s (first_stands r rs s ss h) f.0 in
      let tree = row_normal c r s k (same_tagging r s k.tag (mode_of r s f.0 b.0)) (lift_normal c r.node (tagging profile_two r) q.0 f.1) in
      let rest = rows_normal es rs ss others (rest_stand r rs s ss h) b.1 m q.1 f.2 in
      ap (λ (b : Bool). elim b as (λ _. Trees) [
        | true ↦ normal_trees (lift_entries es rs others) ss
        | false ↦ more (normal_tree (lift c r.node) s.node (tagging profile_two s)) (normal_trees (lift_entries es rs others) ss)
      ]) (default_stays r s c k)
      ∙ ap₂ (λ (T : Tree) (ts : Trees). elim (is_default r c) as (λ _. Trees) [ true ↦ ts | false ↦ more T ts ]) tree rest

  items_normal : (is : Items) (rs ss : List Row) → Stand rs ss → IsTrue (same_modes rs ss) → ((row : Row) → slice_get rs 0 ≡ Some row → IsCarried row.presence) → IsTrue (items_plain is rs) → FitItems profile_two is rs
      → normal_items (lift_items is rs) ss ≡ normal_items is rs
  items_normal no_items rs ss h i carried p f = refl
  items_normal (item c is) [] ss h i carried p f = absurd (let e : None ≡ Some f.0 = f.1 in cc)
  items_normal (item c is) (r ∷ rs) [] h i carried p f = absurd cc
  items_normal (item c is) (r ∷ rs) (s ∷ ss) h i carried p f =
      let e : Some r ≡ Some f.0 = f.1 in
      let same : f.0 ≡ r = cc in
      let k = stands r s (first_stands r rs s ss h) (carried r refl) in
      let g = same_tagging r s k.tag (mode_of r s (carried r refl) (and_parts _ (same_modes rs ss) i).0) in
      let q = and_parts (is_plain c r.node) (items_plain is (r ∷ rs)) p in
      ap₂ more (row_normal c r s k g (lift_normal c r.node (tagging profile_two r) q.0 (subst (λ x. Fits profile_two c x.node) same f.2)))
      (items_normal is (r ∷ rs) (s ∷ ss) h i carried q.1 f.3)

-- ---- and is the lifted value of one value alone

mutual
  lift_once : (c d : Content) (node : NodeId) → Fits profile_two c node → Fits profile_two d node → lift c node ≡ lift d node → c ≡ d
  lift_once (simple v) (simple w) node f g e = cc
  lift_once (sequence es) (sequence fs) node f g e =
      ap sequence (entries_once es fs (rows_of node) (added_entries node) f.1 g.1 (let q : lift_entries es (rows_of node) (added_entries node) ≡ lift_entries fs (rows_of node) (added_entries node) = cc in q))
  lift_once (list is) (list js) node f g e = ap list (items_once is js (rows_of node) f.1 g.1 (let q : lift_items is (rows_of node) ≡ lift_items js (rows_of node) = cc in q))
  lift_once (alternative n c) (alternative m d) node f g e =
      let number : n ≡ m = cc in
      let into : Content → Option Row → Content = λ (x : Content) (o : Option Row). elim o as (λ _. Content) [ Some row ↦ lift x row.node | None ↦ x ] in
      let inner : into c (slice_get (rows_of node) n) ≡ into d (slice_get (rows_of node) m) = cc in
      let row : Some f.0 ≡ Some g.0 = sym f.1.1 ∙ ap (slice_get (rows_of node)) number ∙ g.1.1 in
      let same : g.0 ≡ f.0 = cc in
      let both : lift c f.0.node ≡ lift d f.0.node = sym (ap (into c) f.1.1) ∙ inner ∙ ap (into d) g.1.1 ∙ ap (λ (x : Row). lift d x.node) same in
      ap₂ alternative number (lift_once c d f.0.node f.2 (subst (λ (x : Row). Fits profile_two d x.node) same g.2) both)
  lift_once (foreign T) (foreign U) node f g e = cc
  lift_once (simple v) (sequence fs) node f g e = absurd cc
  lift_once (simple v) (list js) node f g e = absurd cc
  lift_once (simple v) (alternative m d) node f g e = absurd cc
  lift_once (simple v) (foreign U) node f g e = absurd cc
  lift_once (sequence es) (simple w) node f g e = absurd cc
  lift_once (sequence es) (list js) node f g e = absurd cc
  lift_once (sequence es) (alternative m d) node f g e = absurd cc
  lift_once (sequence es) (foreign U) node f g e = absurd cc
  lift_once (list is) (simple w) node f g e = absurd cc
  lift_once (list is) (sequence fs) node f g e = absurd cc
  lift_once (list is) (alternative m d) node f g e = absurd cc
  lift_once (list is) (foreign U) node f g e = absurd cc
  lift_once (alternative n c) (simple w) node f g e = absurd cc
  lift_once (alternative n c) (sequence fs) node f g e = absurd cc
  lift_once (alternative n c) (list js) node f g e = absurd cc
  lift_once (alternative n c) (foreign U) node f g e = absurd cc
  lift_once (foreign T) (simple w) node f g e = absurd cc
  lift_once (foreign T) (sequence fs) node f g e = absurd cc
  lift_once (foreign T) (list js) node f g e = absurd cc
  lift_once (foreign T) (alternative m d) node f g e = absurd cc

  entries_once : (es fs : Entries) (rows : List Row) (others : Entries) → FitRows profile_two es rows → FitRows profile_two fs rows → lift_entries es rows others ≡ lift_entries fs rows others → es ≡ fs
  entries_once no_entries no_entries [] others f g e = refl
  entries_once no_entries (absent fs) [] others f g e = absurd g
  entries_once no_entries (present d fs) [] others f g e = absurd g
  entries_once (absent es) fs [] others f g e = absurd f
  entries_once (present c es) fs [] others f g e = absurd f
  entries_once no_entries fs (row ∷ rows) others f g e = absurd f
  entries_once (absent es) no_entries (row ∷ rows) others f g e = absurd g
  entries_once (present c es) no_entries (row ∷ rows) others f g e = absurd g
  entries_once (absent es) (absent fs) (row ∷ rows) others f g e = ap absent (entries_once es fs rows others f.1 g.1 (let q : lift_entries es rows others ≡ lift_entries fs rows others = cc in q))
  entries_once (absent es) (present d fs) (row ∷ rows) others f g e = absurd cc
  entries_once (present c es) (absent fs) (row ∷ rows) others f g e = absurd cc
  entries_once (present c es) (present d fs) (row ∷ rows) others f g e =
      let a : lift c row.node ≡ lift d row.node = cc in
      let b : lift_entries es rows others ≡ lift_entries fs rows others = cc in
      ap₂ present (lift_once c d row.node f.1 g.1 a) (entries_once es fs rows others f.2 g.2 b)

  items_once : (is js : Items) (rows : List Row) → FitItems profile_two is rows → FitItems profile_two js rows → lift_items is rows ≡ lift_items js rows → is ≡ js
  items_once no_items no_items rows f g e = refl
  items_once no_items (item d js) [] f g e = absurd cc
  items_once no_items (item d js) (row ∷ rows) f g e = absurd cc
  items_once (item c is) no_items [] f g e = absurd cc
  items_once (item c is) no_items (row ∷ rows) f g e = absurd cc
  items_once (item c is) (item d js) [] f g e = absurd (let q : None ≡ Some f.0 = f.1 in cc)
  items_once (item c is) (item d js) (row ∷ rows) f g e =
      let p : Some row ≡ Some f.0 = f.1 in
      let q : Some row ≡ Some g.0 = g.1 in
      let first : f.0 ≡ row = cc in
      let second : g.0 ≡ row = cc in
      let a : lift c row.node ≡ lift d row.node = cc in
      let b : lift_items is (row ∷ rows) ≡ lift_items js (row ∷ rows) = cc in
      ap₂ item (lift_once c d row.node (subst (λ (x : Row). Fits profile_two c x.node) first f.2) (subst (λ (x : Row). Fits profile_two d x.node) second g.2) a)
      (items_once is js (row ∷ rows) f.3 g.3 b)

-- ---- APDUs

pub apdu_fits : (a : Apdu) → FitsApdu profile_two a → FitsApdu profile_three (lift_apdu a)
apdu_fits a f = (f.0, lift_fits (choice_of a) IllApdu f.1)

pub apdu_normal : (a : Apdu) → IsTrue (is_plain_apdu a) → FitsApdu profile_two a → normal_form_in profile_three (lift_apdu a) ≡ normal_form a
apdu_normal a p f = ap encoding (lift_normal (choice_of a) IllApdu untagged p f.1)

pub apdu_spelled : (a : Apdu) (b : List ℕ) → IsTrue (is_plain_apdu a) → SpellsApdu profile_two a b → SpellsApdu profile_three (lift_apdu a) b
apdu_spelled a b p h =
    let m = h.encodes.means in record {
      encodes = record {
        tree = h.encodes.tree;
        means = (m.0, lift_means (choice_of a) IllApdu untagged h.encodes.tree p m.1);
        spells = h.encodes.spells;
        shallow = h.encodes.shallow;
        short = h.encodes.short;
      };
      normal_short = subst (λ octets. length octets ≤ 1_048_576) (sym (apdu_normal a p (means_apdu_fits profile_two a h.encodes.tree m))) h.normal_short;
    }

pub apdu_once : (a b : Apdu) → FitsApdu profile_two a → FitsApdu profile_two b → lift_apdu a ≡ lift_apdu b → a ≡ b
apdu_once a b f g e =
    let number : a.number ≡ b.number = ap (λ (x : Apdu). x.number) e in
    let both : lift (choice_of a) IllApdu ≡ lift (choice_of b) IllApdu = ap choice_of e in
    let same = lift_once (choice_of a) (choice_of b) IllApdu f.1 g.1 both in
    let body : a.body ≡ b.body = cc in
    ap₂ (λ (n : ℕ) (c : Content). let x : Apdu = record { number = n; body = c } in x) number body
