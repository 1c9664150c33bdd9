-- The normal form of a value is an encoding of its normal tree.
use Rattle.std.proofs.Common.{◌≡◌, ℕ, ◌<◌, ◌≤◌, ◌^◌, Bool, true, false, ◌&&◌, not, List, [], ◌∷◌, ◌++◌, length, Option, Some, None, IsTrue, refl, sym, ap, subst, arith, slice_get, lit≤, ltb-true, nat_lt, ◌||◌}
use Rattle.ber_core.specs.Foreign.{foreign_levels}
use Rattle.ber_core.proofs.Foreign.{foreign_identified}
use Rattle.std.specs.Prelude.{nat_le}
use Rattle.std.specs.List.{list_all}
use Rattle.ber_tree.specs.declared.class.Class.{Class}
use Rattle.ber_tree.specs.Identifier.{Tag, HasIdentifier}
use Rattle.ber_tree.specs.Tree.{Tree, Trees, primitive, constructed, none, more, Spells}
use Rattle.ber_core.proofs.Encodings.{encoding_spells}
use Rattle.ber_core.proofs.Trees.{one_reading}
use Rattle.ill_tables.specs.declared.part.Mode.{Mode}
use Rattle.ill_tables.specs.declared.node.NodeId.{NodeId}
use Rattle.ill_tables.specs.declared.node.NodeId.TheVariants.{Boolean}
use Rattle.ill_tables.specs.declared.part.Presence.{Presence}
use Rattle.ill_tables.specs.declared.part.Row.{Row}
use Rattle.ill_schema.specs.Apdu.{Apdu, choice_of, normal_form_in, root, MeansApdu, SpellsApdu}
use Rattle.ill_schema.specs.Content.{Content, simple, sequence, list, alternative, foreign, Entries, no_entries, absent, present, Items, no_items, item}
use Rattle.ill_schema.specs.Fits.{Fits, FitRows, FitItems, FitsApdu}
use Rattle.ber_leaf.specs.Leaf.{Leaf, boolean, integer, enumerated, general_string, visible_string, printable_string, iso_date, iso_time, null_type, object_identifier, octet_string, bit_string, object_descriptor, normal_content}
use Rattle.ber_leaf.specs.Profile.{Profile, profile_two}
use Rattle.ill_schema.specs.Tagging.{Tagging, untagged, implicit, explicit, explicit_or_bare, tagging, tag_tree, sequence_tag, leaf_tag}
use Rattle.ill_schema.specs.Presence.{is_default}
use Rattle.ill_schema.specs.Normal.{normal_tree, normal_trees, normal_items}
use Rattle.ber_core.specs.Der.{HasIdentifiers, HaveIdentifiers}
use Rattle.ill_tables.specs.Table.{rows_of}
use Rattle.ill_schema.specs.TableFacts.{deepest}
use Rattle.std.proofs.lemmas.Bool.{and_parts}
use Rattle.ill_schema.proofs.Tags.{at_row}
use Rattle.ill_schema.proofs.Normal.{normal_apdu_means}
use Rattle.ill_schema.proofs.Depths.{normal_depth}
use Rattle.ill_schema.proofs.OneMeaning.{apdu_unique}

-- a tagging's tag has identifiers in both forms
abbrev ValidTagging : Tagging → Type 0
ValidTagging untagged = Unit {0}
ValidTagging (implicit t) = (f : Bool) → HasIdentifier t f
ValidTagging (explicit t) = (f : Bool) → HasIdentifier t f
ValidTagging (explicit_or_bare t) = (f : Bool) → HasIdentifier t f

pub universal_id : (n : ℕ) (f : Bool) → n ≤ 268_435_455 → (n ≡ 0 → ⊥) → HasIdentifier (record { class = Class.Universal; number = n }) f
universal_id n f le ne = record { number = le; not_end = λ _ e. absurd (ne e) }

pub leaf_id : (l : Leaf) (f : Bool) → HasIdentifier (leaf_tag l) f
leaf_id boolean f = universal_id 1 f (lit≤ tt) (λ e. cc)
leaf_id integer f = universal_id 2 f (lit≤ tt) (λ e. cc)
leaf_id enumerated f = universal_id 10 f (lit≤ tt) (λ e. cc)
leaf_id general_string f = universal_id 27 f (lit≤ tt) (λ e. cc)
leaf_id visible_string f = universal_id 26 f (lit≤ tt) (λ e. cc)
leaf_id printable_string f = universal_id 19 f (lit≤ tt) (λ e. cc)
leaf_id iso_date f = universal_id 26 f (lit≤ tt) (λ e. cc)
leaf_id iso_time f = universal_id 26 f (lit≤ tt) (λ e. cc)
leaf_id null_type f = universal_id 5 f (lit≤ tt) (λ e. cc)
leaf_id object_identifier f = universal_id 6 f (lit≤ tt) (λ e. cc)
leaf_id octet_string f = universal_id 4 f (lit≤ tt) (λ e. cc)
leaf_id bit_string f = universal_id 3 f (lit≤ tt) (λ e. cc)
leaf_id object_descriptor f = universal_id 7 f (lit≤ tt) (λ e. cc)

sequence_id : (f : Bool) → HasIdentifier sequence_tag f
sequence_id f = universal_id 16 f (lit≤ tt) (λ e. cc)

abbrev pub is_universal : Class → Bool
is_universal Class.Universal = true
is_universal _ = false

-- the tag of the row, if it has one, has an identifier in both forms
abbrev pub is_valid : Row → Bool
is_valid row = elim row.tag as (λ _. Bool) [ None ↦ true | Some t ↦ (not (is_universal t.0) || nat_lt 0 t.1) && nat_le t.1 268_435_455 ]

pub all_valid : (node : NodeId) → IsTrue (list_all is_valid (rows_of node))
all_valid Boolean = refl
all_valid _ = refl

pub class_id : (c : Class) (n : ℕ) (f : Bool) → IsTrue ((not (is_universal c) || nat_lt 0 n) && nat_le n 268_435_455) → HasIdentifier (record { class = c; number = n }) f
class_id Class.Universal n f h =
    let p = and_parts (nat_lt 0 n) (nat_le n 268_435_455) h in
    universal_id n f (let q : nat_le n 268_435_455 ≡ true = p.1 in grind (arith, q)) (λ e. let q : nat_lt 0 n ≡ true = p.0 in absurd (omega (arith, ltb-true 0 n q, e)))
class_id Class.Application n f h = record { number = let q : nat_le n 268_435_455 ≡ true = h in grind (arith, q); not_end = λ e _. cc }
class_id Class.Context n f h = record { number = let q : nat_le n 268_435_455 ≡ true = h in grind (arith, q); not_end = λ e _. cc }
class_id Class.Private n f h = record { number = let q : nat_le n 268_435_455 ≡ true = h in grind (arith, q); not_end = λ e _. cc }

valid_at : (tag : Option (Class × ℕ)) (m : Mode) (pr : Presence) (node : NodeId) → IsTrue (is_valid (record { tag = tag; mode = m; presence = pr; node = node }))
    → ValidTagging (tagging profile_two (record { tag = tag; mode = m; presence = pr; node = node }))
valid_at None m pr node h = tt
valid_at (Some t) Mode.Implicit pr node h = λ f. class_id t.0 t.1 f h
valid_at (Some t) Mode.Explicit pr node h = λ f. class_id t.0 t.1 f h
valid_at (Some t) Mode.ExplicitOrBare pr node h = λ f. class_id t.0 t.1 f h
valid_at (Some t) Mode.Untagged pr node h = tt

valid_row : (row : Row) → IsTrue (is_valid row) → ValidTagging (tagging profile_two row)
valid_row row h = valid_at row.tag row.mode row.presence row.node h

tag_valid : (g : Tagging) (t : Tag) (f : Tag → Tree) → ValidTagging g → HasIdentifiers (f t) → ((s : Tag) → ((b : Bool) → HasIdentifier s b) → HasIdentifiers (f s)) → HasIdentifiers (tag_tree g t f)
tag_valid untagged t f v h k = h
tag_valid (implicit s) t f v h k = k s v
tag_valid (explicit s) t f v h k = (v true, (h, tt))
tag_valid (explicit_or_bare s) t f v h k = (v true, (h, tt))

mutual
  pub normal_valid : (p : Profile) (c : Content) (node : NodeId) (g : Tagging) → ValidTagging g → Fits p c node → HasIdentifiers (normal_tree c node g)
  normal_valid p (simple v) node g ok fit =
      subst (λ o. HasIdentifiers (tag_tree g (elim o as (λ _. Tag) [ Some l ↦ leaf_tag l | None ↦ sequence_tag ]) (λ t. primitive t (normal_content v)))) (sym fit.1)
      (tag_valid g (leaf_tag fit.0) _ ok (leaf_id fit.0 false) (λ s h. h false))
  normal_valid p (sequence es) node g ok fit =
      let v = trees_valid p es (rows_of node) (all_valid node) fit.1 in
      tag_valid g sequence_tag _ ok (sequence_id true, v) (λ s h. (h true, v))
  normal_valid p (list is) node g ok fit =
      let v = items_valid p is (rows_of node) (all_valid node) fit.1 in
      tag_valid g sequence_tag _ ok (sequence_id true, v) (λ s h. (h true, v))
  normal_valid p (alternative n c) node g ok fit =
      let row = fit.0 in
      let v = normal_valid p c row.node (tagging profile_two row) (valid_row row (at_row is_valid (rows_of node) n row (all_valid node) fit.1.1)) fit.2 in
      let w : (t : Tag) → HasIdentifiers (elim (slice_get (rows_of node) n) as (λ _. Tree) [ Some x ↦ normal_tree c x.node (tagging profile_two x) | None ↦ constructed t none ]) =
      λ t. subst (λ o. HasIdentifiers (elim o as (λ _. Tree) [ Some x ↦ normal_tree c x.node (tagging profile_two x) | None ↦ constructed t none ])) (sym fit.1.1) v in
      tag_valid g sequence_tag _ ok (w sequence_tag) (λ s h. w s)
  normal_valid p (foreign V) node g ok fit =
      let v = foreign_identified foreign_levels V fit.1 in tag_valid g sequence_tag (λ _. V) ok v (λ s h. v)

  trees_valid : (p : Profile) (es : Entries) (rows : List Row) → IsTrue (list_all is_valid rows) → FitRows p es rows → HaveIdentifiers (normal_trees es rows)
  trees_valid p no_entries rows h fit = tt
  trees_valid p (absent es) [] h fit = tt
  trees_valid p (absent es) (row ∷ rows) h fit = trees_valid p es rows ((and_parts _ _ h).1) fit.1
  trees_valid p (present c es) [] h fit = tt
  trees_valid p (present c es) (row ∷ rows) h fit =
      let parts = and_parts (is_valid row) (list_all is_valid rows) h in
      either c row es rows (normal_valid p c row.node (tagging profile_two row) (valid_row row parts.0) fit.1) (trees_valid p es rows parts.1 fit.2) (is_default row c)
    where
      either : (c : Content) (row : Row) (es : Entries) (rows : List Row) → HasIdentifiers (normal_tree c row.node (tagging profile_two row)) → HaveIdentifiers (normal_trees es rows) → (b : Bool)
          → HaveIdentifiers (elim b as (λ _. Trees) [ true ↦ normal_trees es rows | false ↦ more (normal_tree c row.node (tagging profile_two row)) (normal_trees es rows) ])
      either c row es rows v w true = w
      either c row es rows v w false = (v, w)

  items_valid : (p : Profile) (is : Items) (rows : List Row) → IsTrue (list_all is_valid rows) → FitItems p is rows → HaveIdentifiers (normal_items is rows)
  items_valid p no_items rows h fit = tt
  items_valid p (item c is) [] h fit = tt
  items_valid p (item c is) (row ∷ rows) h fit =
      let e : Some row ≡ Some fit.0 = fit.1 in
      let r : fit.0 ≡ row = cc in (
        normal_valid p c row.node (tagging profile_two row) (valid_row row ((and_parts (is_valid row) (list_all is_valid rows) h).0)) (subst (λ x. Fits p c x.node) r fit.2),
        items_valid p is (row ∷ rows) h fit.3,
      )

le_lt : (a b c : ℕ) → a ≤ b → b < c → a < c
le_lt a b c h k = omega arith

-- a normal form is an encoding of the normal tree
spelled : (p : Profile) (a : Apdu) → FitsApdu p a → length (normal_form_in p a) < 256 ^ 126 → Spells (normal_tree (choice_of a) (root p) untagged) (normal_form_in p a)
spelled p a fit h = encoding_spells (normal_tree (choice_of a) (root p) untagged) (normal_valid p (choice_of a) (root p) untagged tt fit.1) h

deep_enough : (full : Bool) → deepest full ≤ 32
deep_enough false = lit≤ tt
deep_enough true = lit≤ tt

-- the normal form of an APDU that fits spells it, where the limit allows it
pub normal_spells : (p : Profile) (a : Apdu) → FitsApdu p a → p.limit < 256 ^ 126 → length (normal_form_in p a) ≤ p.limit → SpellsApdu p a (normal_form_in p a)
normal_spells p a fit big le = record {
  encodes = record {
    tree = normal_tree (choice_of a) (root p) untagged;
    means = normal_apdu_means p a fit;
    spells = spelled p a fit (le_lt _ _ _ le big);
    shallow = let d = normal_depth p a fit in let e = deep_enough p.full in omega arith;
    short = le;
  };
  normal_short = le;
}

-- two APDUs with one normal form are one
pub normal_unique : (p : Profile) (a b : Apdu) → FitsApdu p a → FitsApdu p b → length (normal_form_in p a) < 256 ^ 126 → length (normal_form_in p b) < 256 ^ 126 → normal_form_in p a ≡ normal_form_in p b → a ≡ b
normal_unique p a b f g s t e =
    let u = one_reading _ _ (normal_form_in p a) (normal_form_in p b) [] [] (spelled p a f s) (spelled p b g t) (ap (λ z. z ++ []) e) in
    apdu_unique p a b _ (normal_apdu_means p a f) (subst (λ T. MeansApdu p b T) (sym u.0) (normal_apdu_means p b g))
