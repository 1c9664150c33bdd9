-- What is spelled in profile 2 and in the module profile is plain, and one value: no octets change their meaning.
use Rattle.std.proofs.Common.{◌≡◌, ◌⊎◌, ℕ, ◌≤◌, Bool, true, false, ◌&&◌, not, List, [], ◌∷◌, ◌++◌, length, take, drop, Some, None, IsTrue, refl, sym, ap, subst, ◌∙◌, inl, inr, slice_get, arith}
use Rattle.std.specs.List.{list_all}
use Rattle.std.specs.Prelude.{flat_map}
use Rattle.std.proofs.lemmas.Bool.{and_parts}
use Rattle.std.proofs.lemmas.List.{length-take, take-append-drop}
use Rattle.ber_core.proofs.Trees.{one_reading}
use Rattle.ber_tree.specs.declared.class.Class.{Class}
use Rattle.ber_tree.specs.Identifier.{Tag}
use Rattle.ber_tree.specs.Tree.{Tree, Trees, constructed, more, none, tag_of}
use Rattle.ber_leaf.specs.Leaf.{enumerated, is_string}
use Rattle.ber_leaf.specs.Profile.{profile_two, profile_three}
use Rattle.ill_tables.specs.declared.node.Kind.{Kind}
use Rattle.ill_tables.specs.declared.node.LeafKind.{LeafKind}
use Rattle.ill_tables.specs.declared.node.NodeId.{NodeId}
use Rattle.ill_tables.specs.declared.node.NodeId.TheVariants.{Enumerated, IllApdu, UnitsPerMedium, WillSupply}
use Rattle.ill_tables.specs.declared.part.Mode.{Mode}
use Rattle.ill_tables.specs.declared.part.Presence.{Presence}
use Rattle.ill_tables.specs.declared.part.Row.{Row}
use Rattle.ill_schema.specs.Apdu.{Apdu, choice_of, Encodes, SpellsApdu}
use Rattle.ill_schema.specs.Content.{Content, simple, sequence, list, alternative, foreign, Entries, no_entries, absent, present, Items, no_items, item}
use Rattle.ill_schema.specs.Lift.{are_plain, is_plain, is_plain_apdu, is_retagged, items_plain, lift_apdu}
use Rattle.ill_schema.specs.Meaning.{IsLeaf, Means, Matches, MatchItems}
use Rattle.ill_schema.specs.Presence.{IsCarried, is_default}
use Rattle.ill_tables.specs.Table.{kind_of, rows_of, twin}
use Rattle.ill_schema.specs.TableFacts.{alternative_tags, row_tags}
use Rattle.ill_schema.specs.Tagging.{Tagging, implicit, explicit, tagging, sequence_tag, untagged}
use Rattle.ill_schema.proofs.Lifted.{apdu_spelled, choice_plain, first_stands, list_plain, rest_stand}
use Rattle.ill_schema.proofs.MeansFits.{default_simple}
use Rattle.ill_schema.proofs.OneMeaning.{one_apdu}
use Rattle.ill_schema.proofs.Tags.{is_proper, is_proper_row, is_tagged, tables_proper, Mem, Distinct, disjoint, distinct-right, same_place, at_row, mem-left, mem-right}
use Rattle.ill_schema.proofs.Twins.{SameTags, Stand, Stands, all_stand, all_tags, item_carried, kinds_stay, mode_of, modes, modes_at, same_modes, same_tagging, stand_at, stands, tags_at}
use Rattle.ill_schema.proofs.Unique.{bare_sequence, good_choice, leaf_at, leaf_is, matches_begins, means_begins, no_leaf, not_bare, same_constructed, same_tags, sequence_distinct, under}

both_true : (a b : Bool) → IsTrue a → IsTrue b → IsTrue (a && b)
both_true true b h k = k
both_true false b h k = absurd cc

-- ---- the tags of rows

mem_either : (t : Tag) (xs ys : List Tag) → Mem t (xs ++ ys) → Mem t xs ⊎ Mem t ys
mem_either t [] ys m = inr m
mem_either t (x ∷ xs) ys (inl e) = inl (inl e)
mem_either t (x ∷ xs) ys (inr m) = elim (mem_either t xs ys m) [ inl a ↦ inl (inr a) | inr b ↦ inr b ]

first_tags : (r : Row) (rs : List Row) (s : Row) (ss : List Row) → SameTags (r ∷ rs) (s ∷ ss) → row_tags profile_three s ≡ row_tags profile_two r
first_tags r rs s ss h = cc

rest_tags : (r : Row) (rs : List Row) (s : Row) (ss : List Row) → SameTags (r ∷ rs) (s ∷ ss) → SameTags rs ss
rest_tags r rs s ss h = cc

-- a tag of rows of profile 2 is one of the module's rows
more_tags : (t : Tag) (rs ss : List Row) → Stand rs ss → SameTags rs ss → Mem t (flat_map (row_tags profile_two) rs) → Mem t (flat_map (row_tags profile_three) ss)
more_tags t [] ss h k m = absurd m
more_tags t (r ∷ rs) [] h k m = absurd cc
more_tags t (r ∷ rs) (s ∷ ss) h k m = elim (mem_either t (row_tags profile_two r) (flat_map (row_tags profile_two) rs) m) [
  | inl a ↦ mem-left t (row_tags profile_three s) (flat_map (row_tags profile_three) ss) (subst (λ xs. Mem t xs) (sym (first_tags r rs s ss k)) a)
  | inr b ↦ mem-right t (row_tags profile_three s) (flat_map (row_tags profile_three) ss) (more_tags t rs ss (rest_stand r rs s ss h) (rest_tags r rs s ss k) b)
]

-- ---- the types whose tags are explicit in the module alone

abbrev first_row : Mode → Row
first_row mode = record { tag = Some (Class.Context, 0); mode = mode; presence = Presence.Must; node = Enumerated }

-- an ENUMERATED under an implicit tag is primitive, and under an explicit one constructed
not_both : (c d : Content) (t : Tag) (T : Tree) → Means profile_two c Enumerated (implicit t) T → Means profile_three d Enumerated (explicit t) T → ⊥
unfolding leaf_at
not_both (simple v) (simple w) t T h k =
    let is : h.0 ≡ enumerated = leaf_is (Kind.Leaf LeafKind.Enumerated) v h.0 h.1 in
    let leaf : IsLeaf h.0 (constructed t (more k.2.0 none)) = subst (λ z. IsLeaf h.0 z) k.2.1 h.2.1 in
    let string : IsTrue (is_string enumerated) = subst (λ l. IsTrue (is_string l)) is leaf.0 in
    absurd cc
not_both (simple v) (sequence fs) t T h k = absurd (let q = k.0 in cc)
not_both (simple v) (list js) t T h k = absurd (let q = k.0 in cc)
not_both (simple v) (alternative m d) t T h k = absurd (let q = k.1.0 in cc)
not_both (simple v) (foreign V) t T h k = absurd (let q = k.0 in cc)
not_both (sequence es) d t T h k = absurd (let q = h.0 in cc)
not_both (list is) d t T h k = absurd (let q = h.0 in cc)
not_both (alternative n c) d t T h k = absurd (let q = h.1.0 in cc)
not_both (foreign V) d t T h k = absurd (let q = h.0 in cc)

first_apart : (es fs : Entries) (rs ss : List Row) (ts : Trees) → Matches profile_two es (first_row Mode.Implicit ∷ rs) ts → Matches profile_three fs (first_row Mode.Explicit ∷ ss) ts → ⊥
first_apart no_entries fs rs ss ts m n = absurd m
first_apart (absent es) fs rs ss ts m n = absurd m.0
first_apart (present c es) no_entries rs ss ts m n = absurd n
first_apart (present c es) (absent fs) rs ss ts m n = absurd n.0
first_apart (present c es) (present d fs) rs ss ts m n = elim m.1 [
  | inl x ↦ elim n.1 [
    | inl y ↦
        let q : more x.0 x.1 ≡ more y.0 y.1 = sym x.2 ∙ y.2 in
        let t : y.0 ≡ x.0 = cc in
        not_both c d _ x.0 x.3 (subst (λ z. Means profile_three d Enumerated (tagging profile_three (first_row Mode.Explicit)) z) t y.3)
    | inr y ↦ absurd (let q = y.0 in cc)
  ]
  | inr x ↦ absurd (let q = x.0 in cc)
]

not_changed : (node : NodeId) (es fs : Entries) (ts : Trees) → Matches profile_two es (rows_of node) ts → Matches profile_three fs (rows_of (twin node)) ts → IsTrue (not (is_retagged node))
not_changed UnitsPerMedium es fs ts m n = absurd (first_apart es fs _ _ ts m n)
not_changed WillSupply es fs ts m n = absurd (first_apart es fs _ _ ts m n)
not_changed _ es fs ts m n = refl

-- ---- what means a value in both profiles

-- a row of the module as the row of profile 2
as_two : (d : Content) (r s : Row) (T : Tree) → Stands r s → tagging profile_three s ≡ tagging profile_two r → Means profile_three d s.node (tagging profile_three s) T
    → Means profile_three d (twin r.node) (tagging profile_two r) T
as_two d r s T k g m =
    subst (λ y. Means profile_three d (twin r.node) y T) g
    (subst (λ y. Means profile_three d y (tagging profile_three s) T) k.node m)

default_plain : (r : Row) (c : Content) → IsTrue (is_default r c) → IsTrue (is_plain c r.node)
default_plain r c h = let q = default_simple r.presence (kind_of r.node) c h in subst (λ z. IsTrue (is_plain z r.node)) (sym q.1) refl

-- an alternative is at one place in both
one_place : (node : NodeId) (n m : ℕ) (c d : Content) (r q : Row) (U : Tree) → kind_of node ≡ Kind.Choice → slice_get (rows_of node) n ≡ Some r → IsCarried r.presence
    → slice_get (rows_of (twin node)) m ≡ Some q → Means profile_two c r.node (tagging profile_two r) U → Means profile_three d q.node (tagging profile_three q) U
    → Stands r q × (tagging profile_three q ≡ tagging profile_two r)
one_place node n m c d r q U choice e carried f h k =
    let rows = rows_of node in
    let others = rows_of (twin node) in
    let at = stand_at rows others n r (all_stand node) e in
    let s = at.0 in
    let module_choice = kinds_stay node ∙ choice in
    let good = good_choice profile_three (twin node) module_choice in
    let is_s = same_tags (tagging profile_three s) _ _ (at_row (λ y. is_tagged (tagging profile_three y)) others n s good.0 at.1) in
    let is_q = same_tags (tagging profile_three q) _ _ (at_row (λ y. is_tagged (tagging profile_three y)) others m q good.0 f) in
    let begins = means_begins profile_two c r.node (tagging profile_two r) U (at_row (is_proper_row profile_two) rows n r (tables_proper profile_two node) e) h in
    let in_s : Mem (tag_of U) (row_tags profile_three s) = subst (λ xs. Mem (tag_of U) xs) (sym (tags_at rows others n r s (all_tags node) e at.1)) begins in
    let in_q : Mem (tag_of U) (row_tags profile_three q) = means_begins profile_three d q.node (tagging profile_three q) U (at_row (is_proper_row profile_three) others m q (tables_proper profile_three (twin node)) f) k in
    let place = same_place (alternative_tags profile_three) (tag_of U) others n m s q good.1 at.1 f (subst (λ xs. Mem (tag_of U) xs) is_s in_s) (subst (λ xs. Mem (tag_of U) xs) is_q in_q) in
    let stood = stands r s at.2 carried in
    let mode = mode_of r s carried (modes_at rows others n r s (modes node (choice_plain node choice)) e at.1) in
    (subst (Stands r) place.1 stood, subst (λ (x : Row). tagging profile_three x ≡ tagging profile_two r) place.1 (same_tagging r s stood.tag mode))

-- rows of profile 2 beside those of the module
record Beside (rs ss : List Row) : Type 0 where
  stand : Stand rs ss
  tags : SameTags rs ss
  modes : IsTrue (same_modes rs ss)
  proper_two : IsTrue (list_all (is_proper_row profile_two) rs)
  proper_three : IsTrue (list_all (is_proper_row profile_three) ss)
  distinct : Distinct (flat_map (row_tags profile_three) ss)

beside : (node : NodeId) → kind_of node ≡ Kind.Seq → IsTrue (not (is_retagged node)) → Beside (rows_of node) (rows_of (twin node))
beside node e stays = record {
  stand = all_stand node;
  tags = all_tags node;
  modes = modes node stays;
  proper_two = tables_proper profile_two node;
  proper_three = tables_proper profile_three (twin node);
  distinct = sequence_distinct profile_three (twin node) (kinds_stay node ∙ e);
}

rest_beside : (r : Row) (rs : List Row) (s : Row) (ss : List Row) → Beside (r ∷ rs) (s ∷ ss) → Beside rs ss
rest_beside r rs s ss b = record {
  stand = rest_stand r rs s ss b.stand;
  tags = rest_tags r rs s ss b.tags;
  modes = (and_parts _ (same_modes rs ss) b.modes).1;
  proper_two = (and_parts (is_proper_row profile_two r) _ b.proper_two).1;
  proper_three = (and_parts (is_proper_row profile_three s) _ b.proper_three).1;
  distinct = distinct-right (row_tags profile_three s) _ b.distinct;
}

-- the first tree is an element of the module's row, and no element of a later row in profile 2
module_first : (es : Entries) (d : Content) (r : Row) (rs : List Row) (s : Row) (ss : List Row) (T : Tree) (us ts : Trees) → Beside (r ∷ rs) (s ∷ ss) → ts ≡ more T us
    → Means profile_three d s.node (tagging profile_three s) T → Matches profile_two es rs ts → ⊥
module_first es d r rs s ss T us ts b e h m =
    let rest = rest_beside r rs s ss b in
    disjoint (tag_of T) (row_tags profile_three s) (flat_map (row_tags profile_three) ss) b.distinct
    (means_begins profile_three d s.node (tagging profile_three s) T (and_parts (is_proper_row profile_three s) _ b.proper_three).0 h)
    (more_tags (tag_of T) rs ss rest.stand rest.tags (matches_begins profile_two es rs T us rest.proper_two (subst (λ z. Matches profile_two es rs z) e m)))

-- and the other way round
two_first : (fs : Entries) (c : Content) (r : Row) (rs : List Row) (s : Row) (ss : List Row) (T : Tree) (us ts : Trees) → Beside (r ∷ rs) (s ∷ ss) → ts ≡ more T us
    → Means profile_two c r.node (tagging profile_two r) T → Matches profile_three fs ss ts → ⊥
two_first fs c r rs s ss T us ts b e h m =
    let rest = rest_beside r rs s ss b in
    disjoint (tag_of T) (row_tags profile_three s) (flat_map (row_tags profile_three) ss) b.distinct
    (subst (λ xs. Mem (tag_of T) xs) (sym (first_tags r rs s ss b.tags)) (means_begins profile_two c r.node (tagging profile_two r) T (and_parts (is_proper_row profile_two r) _ b.proper_two).0 h))
    (matches_begins profile_three fs ss T us rest.proper_three (subst (λ z. Matches profile_three fs ss z) e m))

first_plain : (c : Content) (is : Items) (rows : List Row) (r : Row) → slice_get rows 0 ≡ Some r → IsTrue (is_plain c r.node) → IsTrue (items_plain is rows) → IsTrue (items_plain (item c is) rows)
first_plain c is [] r e h k = absurd cc
first_plain c is (q ∷ rows) r e h k =
    let same : r ≡ q = cc in both_true (is_plain c q.node) (items_plain is (q ∷ rows)) (subst (λ (x : Row). IsTrue (is_plain c x.node)) same h) k

mutual
  plain_of : (c d : Content) (node : NodeId) (g : Tagging) (T : Tree) → IsTrue (is_proper g (kind_of node)) → Means profile_two c node g T → Means profile_three d (twin node) g T → IsTrue (is_plain c node)
  plain_of (simple v) d node g T ok h k = refl
  plain_of (foreign V) d node g T ok h k = refl
  plain_of (sequence es) (sequence fs) node g T ok h k =
      under g sequence_tag _ _ T
      (λ t U x y.
      let matched = subst (λ z. Matches profile_three fs (rows_of (twin node)) z) (same_constructed t U x.0 y.0 x.1 y.1) y.2 in
      let stays = not_changed node es fs x.0 x.2 matched in
      both_true (not (is_retagged node)) (are_plain es (rows_of node)) stays
      (rows_plain es fs (rows_of node) (rows_of (twin node)) x.0 (beside node h.0 stays) x.2 matched))
      (λ t e U f x y. absurd (not_bare profile_three fs (twin node) t T U (kinds_stay node ∙ h.0) (ap tag_of x.1) f y))
      (λ t e U f y x. absurd (not_bare profile_two es node t T U h.0 (ap tag_of y.1) f x))
      h.1 k.1
  plain_of (list is) (list js) node g T ok h k =
      under g sequence_tag _ _ T
      (λ t U x y. items_plain_of is js node x.0 h.0 x.2 (subst (λ z. MatchItems profile_three js (rows_of (twin node)) z) (same_constructed t U x.0 y.0 x.1 y.1) y.2))
      (λ t e U f x y. absurd (let s = bare_sequence t g (kind_of node) ok e in let q : Kind.Seq ≡ Kind.SeqOf = sym s ∙ h.0 in cc))
      (λ t e U f y x. absurd (let s = bare_sequence t g (kind_of node) ok e in let q : Kind.Seq ≡ Kind.SeqOf = sym s ∙ h.0 in cc))
      h.1 k.1
  plain_of (alternative n c) (alternative m d) node g T ok h k =
      subst (λ o. IsTrue (elim o as (λ _. Bool) [ Some row ↦ is_plain c row.node | None ↦ true ])) (sym h.1.1)
      (under g sequence_tag _ _ T
      (λ t U x y.
      let one = one_place node n m c d h.0 k.0 U h.1.0 h.1.1 h.1.2 k.1.1 x y in
      plain_of c d h.0.node (tagging profile_two h.0) U (at_row (is_proper_row profile_two) (rows_of node) n h.0 (tables_proper profile_two node) h.1.1) x (as_two d h.0 k.0 U one.0 one.1 y))
      (λ t e U f x y. absurd (let s = bare_sequence t g (kind_of node) ok e in let q : Kind.Seq ≡ Kind.Choice = sym s ∙ h.1.0 in cc))
      (λ t e U f y x. absurd (let s = bare_sequence t g (kind_of node) ok e in let q : Kind.Seq ≡ Kind.Choice = sym s ∙ h.1.0 in cc))
      h.2 k.2)
  plain_of (sequence es) (simple w) node g T ok h k = absurd (no_leaf (kind_of (twin node)) w k.0 k.1 (inl (kinds_stay node ∙ h.0)))
  plain_of (list is) (simple w) node g T ok h k = absurd (no_leaf (kind_of (twin node)) w k.0 k.1 (inr (inl (kinds_stay node ∙ h.0))))
  plain_of (alternative n c) (simple w) node g T ok h k = absurd (no_leaf (kind_of (twin node)) w k.0 k.1 (inr (inr (kinds_stay node ∙ h.1.0))))
  plain_of (sequence es) (list js) node g T ok h k = absurd (let q : Kind.Seq ≡ Kind.SeqOf = sym (kinds_stay node ∙ h.0) ∙ k.0 in cc)
  plain_of (sequence es) (alternative m d) node g T ok h k = absurd (let q : Kind.Seq ≡ Kind.Choice = sym (kinds_stay node ∙ h.0) ∙ k.1.0 in cc)
  plain_of (sequence es) (foreign V) node g T ok h k = absurd (let q : Kind.Seq ≡ Kind.Any = sym (kinds_stay node ∙ h.0) ∙ k.0 in cc)
  plain_of (list is) (sequence fs) node g T ok h k = absurd (let q : Kind.SeqOf ≡ Kind.Seq = sym (kinds_stay node ∙ h.0) ∙ k.0 in cc)
  plain_of (list is) (alternative m d) node g T ok h k = absurd (let q : Kind.SeqOf ≡ Kind.Choice = sym (kinds_stay node ∙ h.0) ∙ k.1.0 in cc)
  plain_of (list is) (foreign V) node g T ok h k = absurd (let q : Kind.SeqOf ≡ Kind.Any = sym (kinds_stay node ∙ h.0) ∙ k.0 in cc)
  plain_of (alternative n c) (sequence fs) node g T ok h k = absurd (let q : Kind.Choice ≡ Kind.Seq = sym (kinds_stay node ∙ h.1.0) ∙ k.0 in cc)
  plain_of (alternative n c) (list js) node g T ok h k = absurd (let q : Kind.Choice ≡ Kind.SeqOf = sym (kinds_stay node ∙ h.1.0) ∙ k.0 in cc)
  plain_of (alternative n c) (foreign V) node g T ok h k = absurd (let q : Kind.Choice ≡ Kind.Any = sym (kinds_stay node ∙ h.1.0) ∙ k.0 in cc)

  rows_plain : (es fs : Entries) (rs ss : List Row) (ts : Trees) → Beside rs ss → Matches profile_two es rs ts → Matches profile_three fs ss ts → IsTrue (are_plain es rs)
  rows_plain no_entries fs rs ss ts b h k = refl
  rows_plain (absent es) fs [] ss ts b h k = refl
  rows_plain (present c es) fs [] ss ts b h k = refl
  rows_plain (absent es) fs (r ∷ rs) [] ts b h k = absurd (let q = b.stand in cc)
  rows_plain (present c es) fs (r ∷ rs) [] ts b h k = absurd (let q = b.stand in cc)
  rows_plain (absent es) no_entries (r ∷ rs) (s ∷ ss) ts b h k = absurd k
  rows_plain (present c es) no_entries (r ∷ rs) (s ∷ ss) ts b h k = absurd k
  rows_plain (absent es) (absent fs) (r ∷ rs) (s ∷ ss) ts b h k = rows_plain es fs rs ss ts (rest_beside r rs s ss b) h.1 k.1
  rows_plain (absent es) (present d fs) (r ∷ rs) (s ∷ ss) ts b h k = elim k.1 [
    | inl y ↦ absurd (module_first es d r rs s ss y.0 y.1 ts b y.2 y.3 h.1)
    | inr y ↦ rows_plain es fs rs ss ts (rest_beside r rs s ss b) h.1 y.1
  ]
  rows_plain (present c es) (absent fs) (r ∷ rs) (s ∷ ss) ts b h k = elim h.1 [
    | inl x ↦ absurd (two_first fs c r rs s ss x.0 x.1 ts b x.2 x.3 k.1)
    | inr x ↦ both_true (is_plain c r.node) (are_plain es rs) (default_plain r c x.0) (rows_plain es fs rs ss ts (rest_beside r rs s ss b) x.1 k.1)
  ]
  rows_plain (present c es) (present d fs) (r ∷ rs) (s ∷ ss) ts b h k = elim h.1 [
    | inl x ↦ elim k.1 [
      | inl y ↦
          let q : more x.0 x.1 ≡ more y.0 y.1 = sym x.2 ∙ y.2 in
          let t : y.0 ≡ x.0 = cc in
          let u : y.1 ≡ x.1 = cc in
          let stood = stands r s (first_stands r rs s ss b.stand) h.0 in
          let g = same_tagging r s stood.tag (mode_of r s h.0 (and_parts _ (same_modes rs ss) b.modes).0) in
          both_true (is_plain c r.node) (are_plain es rs)
          (plain_of c d r.node (tagging profile_two r) x.0 (and_parts (is_proper_row profile_two r) (list_all (is_proper_row profile_two) rs) b.proper_two).0 x.3
          (as_two d r s x.0 stood g (subst (λ z. Means profile_three d s.node (tagging profile_three s) z) t y.3)))
          (rows_plain es fs rs ss x.1 (rest_beside r rs s ss b) x.4 (subst (λ z. Matches profile_three fs ss z) u y.4))
      | inr y ↦ absurd (two_first fs c r rs s ss x.0 x.1 ts b x.2 x.3 y.1)
    ]
    | inr x ↦ both_true (is_plain c r.node) (are_plain es rs) (default_plain r c x.0) (elim k.1 [
      | inl y ↦ absurd (module_first es d r rs s ss y.0 y.1 ts b y.2 y.3 x.1)
      | inr y ↦ rows_plain es fs rs ss ts (rest_beside r rs s ss b) x.1 y.1
    ])
  ]

  items_plain_of : (is js : Items) (node : NodeId) (ts : Trees) → kind_of node ≡ Kind.SeqOf → MatchItems profile_two is (rows_of node) ts → MatchItems profile_three js (rows_of (twin node)) ts → IsTrue (items_plain is (rows_of node))
  items_plain_of no_items js node ts seq h k = refl
  items_plain_of (item c is) no_items node ts seq h k = absurd (let q : none ≡ more h.1 h.2 = sym k ∙ h.4 in cc)
  items_plain_of (item c is) (item d js) node ts seq h k =
      let r = h.0 in
      let rows = rows_of node in
      let others = rows_of (twin node) in
      let at = stand_at rows others 0 r (all_stand node) h.3 in
      let a : Some at.0 ≡ Some k.0 = sym at.1 ∙ k.3 in
      let same : at.0 ≡ k.0 = cc in
      let carried = item_carried node r seq h.3 in
      let stood = stands r at.0 at.2 carried in
      let g = same_tagging r at.0 stood.tag (mode_of r at.0 carried (modes_at rows others 0 r at.0 (modes node (list_plain node seq)) h.3 at.1)) in
      let e : more h.1 h.2 ≡ more k.1 k.2 = sym h.4 ∙ k.4 in
      let t : k.1 ≡ h.1 = cc in
      let u : k.2 ≡ h.2 = cc in
      let one = plain_of c d r.node (tagging profile_two r) h.1 (at_row (is_proper_row profile_two) rows 0 r (tables_proper profile_two node) h.3) h.5
      (as_two d r at.0 h.1 stood g (subst (λ z. Means profile_three d at.0.node (tagging profile_three at.0) z) t (subst (λ (z : Row). Means profile_three d z.node (tagging profile_three z) k.1) (sym same) k.5))) in
      let rest = items_plain_of is js node h.2 seq h.6 (subst (λ z. MatchItems profile_three js others z) u k.6) in
      first_plain c is rows r h.3 one rest

-- ---- APDUs

-- octets that begin with one spelling in each begin with one tree
pub both_encode : (a c : Apdu) (b d x y : List ℕ) → Encodes profile_two a b → Encodes profile_three c d → b ++ x ≡ d ++ y → IsTrue (is_plain_apdu a) × (b ≡ d)
both_encode a c b d x y h k e =
    let u = one_reading h.tree k.tree b d x y h.spells k.spells e in
    let m = h.means in
    let n = k.means in
    (plain_of (choice_of a) (choice_of c) IllApdu untagged h.tree refl m.1 (subst (λ T. Means profile_three (choice_of c) (twin IllApdu) untagged T) (sym u.0) n.1), u.1)

pub both_plain : (a c : Apdu) (b : List ℕ) → SpellsApdu profile_two a b → SpellsApdu profile_three c b → IsTrue (is_plain_apdu a)
both_plain a c b h k = (both_encode a c b b [] [] h.encodes k.encodes refl).0

pub both_one : (a c : Apdu) (b : List ℕ) → SpellsApdu profile_two a b → SpellsApdu profile_three c b → c ≡ lift_apdu a
both_one a c b h k = one_apdu profile_three c (lift_apdu a) b k (apdu_spelled a b (both_plain a c b h k) h)

pub both_prefix : (a c : Apdu) (m n : ℕ) (s : List ℕ) → (m ≤ length s) × SpellsApdu profile_two a (take m s) → (n ≤ length s) × SpellsApdu profile_three c (take n s) → m ≡ n
both_prefix a c m n s h k =
    let same = (both_encode a c (take m s) (take n s) (drop m s) (drop n s) h.1.encodes k.1.encodes (take-append-drop m s ∙ sym (take-append-drop n s))).1 in
    let le = h.0 in let lf = k.0 in
    omega (arith, ap length same, length-take m s, length-take n s)
