-- Without bare wrappers the normal form is no longer than a spelling.
use Rattle.std.proofs.Common.{◌≡◌, ℕ, ◌+◌, ◌<◌, ◌≤◌, ◌^◌, Bool, true, false, nat_lt, List, [], ◌∷◌, ◌++◌, length, Option, Some, None, IsTrue, refl, sym, ap, subst, ◌∙◌, inl, inr, arith, length-append, lit≤, ltb-true, ltb-false}
use Rattle.std.specs.Int.Digits.{digits_of, number_from_digits}
use Rattle.std.proofs.lemmas.Bool.{and_parts}
use Rattle.std.proofs.lemmas.Int.Digits.{number_lt, length-digits_of-le, all_below_base_digits_of, number_digits_of}
use Rattle.ber_tree.specs.declared.class.Class.{Class}
use Rattle.ber_tree.specs.Identifier.{Tag, identifier}
use Rattle.ber_tree.specs.Length.{shortest_length}
use Rattle.ber_tree.specs.Tree.{Tree, Trees, primitive, constructed, none, more, tag_of, text, text_all, IsDefinite, IsIndefinite, Spells, SpellsAll}
use Rattle.ber_core.proofs.Identifiers.{cases}
use Rattle.ber_core.proofs.Shortest.{shortest_least}
use Rattle.ill_tables.specs.declared.part.Mode.{Mode}
use Rattle.ill_tables.specs.declared.node.NodeId.{NodeId}
use Rattle.ill_tables.specs.declared.node.NodeId.TheVariants.{IllApdu}
use Rattle.ill_tables.specs.declared.part.Presence.{Presence}
use Rattle.ill_tables.specs.declared.part.Row.{Row}
use Rattle.ill_schema.specs.Apdu.{Apdu, MeansApdu, Encodes, SpellsApdu, choice_of, normal_form}
use Rattle.ill_schema.specs.Content.{Content, simple, sequence, list, alternative, foreign, Entries, no_entries, absent, present, Items, no_items, item}
use Rattle.ber_leaf.specs.Simple.{Simple}
use Rattle.ber_leaf.specs.Leaf.{Holds, normal_content}
use Rattle.ber_leaf.specs.Profile.{profile_one, profile_two}
use Rattle.ill_schema.specs.Tagging.{Tagging, untagged, implicit, explicit, explicit_or_bare, tagging, Tagged, tag_tree, sequence_tag, leaf_tag}
use Rattle.ill_schema.specs.Presence.{is_default}
use Rattle.ber_core.specs.Foreign.{is_foreign, foreign_levels}
use Rattle.ill_schema.specs.Meaning.{Means, Matches, MatchItems, HoldsLeaf}
use Rattle.ill_schema.specs.Normal.{normal_tree, normal_trees, normal_items}
use Rattle.ber_core.specs.Der.{size, sizes, header_size}
use Rattle.ill_tables.specs.Table.{rows_of}
use Rattle.ill_schema.specs.TableFacts.{are_of_two, is_of_two}
use Rattle.ill_schema.proofs.KnownLeaves.{known_content, known_leaf}
use Rattle.ill_schema.proofs.Tags.{row_of_two, rows_of_two}
use Rattle.ber_leaf.proofs.Leaves.{content_least}
use Rattle.ill_schema.proofs.Normal.{same_tree}
use Rattle.ber_core.proofs.Encodings.{length-encoding, three_parts}
use Rattle.ill_schema.proofs.Wider.{encodes_wider}

-- a smaller length takes no more octets
digits_grow : (m n : ℕ) → m ≤ n → length (digits_of 256 m) ≤ length (digits_of 256 n)
digits_grow m n le =
    let below : number_from_digits 256 (digits_of 256 n) < 256 ^ length (digits_of 256 n) = number_lt 256 (digits_of 256 n) (all_below_base_digits_of 256 n (lit≤ tt)) in
    let same : number_from_digits 256 (digits_of 256 n) ≡ n = number_digits_of 256 n (lit≤ tt) in
    let lt : n < 256 ^ length (digits_of 256 n) = subst (λ x. x < 256 ^ length (digits_of 256 n)) same below in
    length-digits_of-le 256 (length (digits_of 256 n)) m (lit≤ tt) (le_lt m n _ le lt)
  where
    le_lt : (a b c : ℕ) → a ≤ b → b < c → a < c
    le_lt a b c h k = omega arith

length_grows : (m n : ℕ) → m ≤ n → length (shortest_length m) ≤ length (shortest_length n)
length_grows m n le = elim (cases (nat_lt m 128)) [
  | inl h ↦ elim (cases (nat_lt n 128)) [
    | inl k ↦ rw (h, k) (lit≤ tt)
    | inr k ↦ rw (h, k) (omega arith)
  ]
  | inr h ↦ elim (cases (nat_lt n 128)) [
    | inl k ↦ absurd (omega (arith, ltb-false _ _ h, ltb-true _ _ k, le))
    | inr k ↦ rw (h, k) (omega (arith, digits_grow m n le))
  ]
]

-- a length of at most 65,535 takes at most three octets
length_at_most_three : (n : ℕ) → n ≤ 65_535 → length (shortest_length n) ≤ 3
length_at_most_three n le = elim (cases (nat_lt n 128)) [
  | inl h ↦ rw h (lit≤ tt)
  | inr h ↦ rw h (omega (arith, length-digits_of-le 256 2 n (lit≤ tt) (omega (arith, le))))
]

definite_size : (t : Tag) (f : Bool) (os b : List ℕ) → (h : IsDefinite t f os b) → length b ≡ length (identifier t f) + length h.octets + length os
definite_size t f os b h = ap length h.joined ∙ three_parts (identifier t f) h.octets os

indefinite_size : (t : Tag) (os b : List ℕ) → (h : IsIndefinite t os b) → length b ≡ length (identifier t true) + 1 + length os + 2
indefinite_size t os b h =
    let e = ap length h.joined in
    omega (arith, e, length-append (identifier t true) (128 ∷ os ++ 0 ∷ 0 ∷ []), length-append os (0 ∷ 0 ∷ []))

-- the shortest definite form of a tree is no longer than a spelling of it
mutual
  size_least : (T : Tree) (b : List ℕ) → Spells T b → length b ≤ 65_535 → size T ≤ length b
  size_least (primitive tag octets) b h le =
      let l = shortest_least (length octets) h.octets h.spell_length in
      let s = definite_size tag false octets b h in
      omega arith
  size_least (constructed tag trees) b h le = elim h.2 [
    | inl d ↦
        let s = definite_size tag true h.0 b d in
        let r : sizes trees ≤ length h.0 = sizes_least trees h.0 h.1 (omega arith) in
        let g = length_grows (sizes trees) (length h.0) r in
        let l = shortest_least (length h.0) d.octets d.spell_length in
        omega arith
    | inr i ↦
        let s = indefinite_size tag h.0 b i in
        let r : sizes trees ≤ length h.0 = sizes_least trees h.0 h.1 (omega arith) in
        let g = length_at_most_three (sizes trees) (omega arith) in
        omega arith
  ]

  sizes_least : (ts : Trees) (b : List ℕ) → SpellsAll ts b → length b ≤ 65_535 → sizes ts ≤ length b
  sizes_least none b h le = omega arith
  sizes_least (more T ts) b h le =
      let s : length b ≡ length h.0 + length h.1 = ap length h.4 ∙ length-append h.0 h.1 in
      let x : size T ≤ length h.0 = size_least T h.0 h.2 (omega arith) in
      let y : sizes ts ≤ length h.1 = sizes_least ts h.1 h.3 (omega arith) in
      omega arith

-- the form takes no octets
form_free : (t : Tag) (f g : Bool) → length (identifier t f) ≡ length (identifier t g)
form_free t f g = elim (cases (nat_lt t.number 31)) [
  | inl h ↦ rw h refl
  | inr h ↦ rw h refl
]

-- what is shorter inside is shorter
wrap_grows : (t : Tag) (f g : Bool) (m n : ℕ) → m ≤ n → header_size t f m + m ≤ header_size t g n + n
wrap_grows t f g m n le = omega (arith, form_free t f g, length_grows m n le)

-- segments only add
mutual
  text_least : (T : Tree) → length (text T) ≤ size T
  text_least (primitive tag octets) = omega arith
  text_least (constructed tag trees) = omega (arith, texts_least trees)

  texts_least : (ts : Trees) → length (text_all ts) ≤ sizes ts
  texts_least none = omega arith
  texts_least (more T ts) =
      let a = text_least T in
      let b = texts_least ts in
      omega (arith, length-append (text T) (text_all ts))

joined_least : (t : Tag) (n : ℕ) (T : Tree) → tag_of T ≡ t → n ≤ length (text T) → header_size t false n + n ≤ size T
joined_least t n (primitive tag octets) e le =
    subst (λ s. header_size s false n + n ≤ size (primitive tag octets)) e (wrap_grows tag false false n (length octets) le)
joined_least t n (constructed tag trees) e le =
    subst (λ s. header_size s false n + n ≤ size (constructed tag trees)) e
    (wrap_grows tag false true n (sizes trees) (let a = texts_least trees in omega arith))

-- no wrapper may be left out
abbrev IsPlain : Tagging → Type 0
IsPlain (explicit_or_bare t) = ⊥
IsPlain _ = Unit {0}

plain_at : (limit : ℕ) (tag : Option (Class × ℕ)) (m : Mode) (pr : Presence) (node : NodeId)
    → IsPlain (tagging (profile_one limit) (record { tag = tag; mode = m; presence = pr; node = node }))
plain_at limit None m pr node = tt
plain_at limit (Some t) Mode.Implicit pr node = tt
plain_at limit (Some t) Mode.Explicit pr node = tt
plain_at limit (Some t) Mode.ExplicitOrBare pr node = tt
plain_at limit (Some t) Mode.Untagged pr node = tt

plain_row : (limit : ℕ) (row : Row) → IsPlain (tagging (profile_one limit) row)
plain_row limit row = plain_at limit row.tag row.mode row.presence row.node

tagged_least : (g : Tagging) (own : Tag) (E : Tag → Tree → Type 0) (f : Tag → Tree) (T : Tree) → IsPlain g → ((t : Tag) (U : Tree) → E t U → size (f t) ≤ size U)
    → Tagged g own E T → size (tag_tree g own f) ≤ size T
tagged_least untagged own E f T ok least h = least own T h
tagged_least (implicit t) own E f T ok least h = least t T h
tagged_least (explicit t) own E f T ok least h =
    let l = least own h.0 h.2 in
    subst (λ U. size (constructed t (more (f own) none)) ≤ size U) (sym h.1)
    (wrap_grows t true true (size (f own) + 0) (size h.0 + 0) (omega arith))
tagged_least (explicit_or_bare t) own E f T ok least h = absurd ok

constructed_least : (t : Tag) (us ts : Trees) (U : Tree) → U ≡ constructed t ts → sizes us ≤ sizes ts → size (constructed t us) ≤ size U
constructed_least t us ts U e le = subst (λ V. size (constructed t us) ≤ size V) (sym e) (wrap_grows t true true (sizes us) (sizes ts) le)

simple_least : (limit : ℕ) (v : Simple) (node : NodeId) (g : Tagging) (T : Tree) → IsTrue (is_of_two node) → IsPlain g → Means (profile_one limit) (simple v) node g T → size (normal_tree (simple v) node g) ≤ size T
simple_least limit v node g T two ok m =
    subst (λ o. size (tag_tree g (elim o as (λ _. Tag) [ Some l ↦ leaf_tag l | None ↦ sequence_tag ]) (λ t. primitive t (normal_content v))) ≤ size T) (sym m.1)
    (tagged_least g (leaf_tag m.0) (HoldsLeaf (profile_one limit) m.0 v) (λ t. primitive t (normal_content v)) T ok
    (λ t U x. joined_least t (length (normal_content v)) U x.0
    (let same = known_content (profile_one limit) m.0 v U (known_leaf node v m.0 two m.1) x.2 in
    content_least (profile_one limit) m.0 v (text U) (subst (λ o. Holds (profile_one limit) m.0 v o) same x.2))) m.2)

-- an entry that is its row's default has no tree, and a tree of it only adds
one_least : (c : Content) (row : Row) (es : Entries) (rows : List Row) (T : Tree) (us : Trees) → size (normal_tree c row.node (tagging profile_two row)) ≤ size T
    → sizes (normal_trees es rows) ≤ sizes us → (b : Bool)
    → sizes (elim b as (λ _. Trees) [ true ↦ normal_trees es rows | false ↦ more (normal_tree c row.node (tagging profile_two row)) (normal_trees es rows) ]) ≤ sizes (more T us)
one_least c row es rows T us h k true = omega arith
one_least c row es rows T us h k false = omega arith

none_least : (c : Content) (row : Row) (es : Entries) (rows : List Row) (n : ℕ) → sizes (normal_trees es rows) ≤ n → (b : Bool) → IsTrue b
    → sizes (elim b as (λ _. Trees) [ true ↦ normal_trees es rows | false ↦ more (normal_tree c row.node (tagging profile_two row)) (normal_trees es rows) ]) ≤ n
none_least c row es rows n h true e = h
none_least c row es rows n h false e = absurd cc

mutual
  normal_least : (limit : ℕ) (c : Content) (node : NodeId) (g : Tagging) (T : Tree) → IsTrue (is_of_two node) → IsPlain g → Means (profile_one limit) c node g T → size (normal_tree c node g) ≤ size T
  normal_least limit (simple v) node g T two ok m = simple_least limit v node g T two ok m
  normal_least limit (sequence es) node g T two ok m =
      tagged_least g sequence_tag _ (λ t. constructed t (normal_trees es (rows_of node))) T ok
      (λ t U x. constructed_least t (normal_trees es (rows_of node)) x.0 U x.1 (matches_least limit es (rows_of node) x.0 (rows_of_two node two) x.2)) m.1
  normal_least limit (list is) node g T two ok m =
      tagged_least g sequence_tag _ (λ t. constructed t (normal_items is (rows_of node))) T ok
      (λ t U x. constructed_least t (normal_items is (rows_of node)) x.0 U x.1 (items_least limit is (rows_of node) x.0 (rows_of_two node two) x.2)) m.1
  normal_least limit (alternative n c) node g T two ok m =
      let row = m.0 in
      tagged_least g sequence_tag (λ _ U. Means (profile_one limit) c row.node (tagging (profile_one limit) row) U) _ T ok
      (λ t U x. subst (λ o. size (elim o as (λ _. Tree) [ Some r ↦ normal_tree c r.node (tagging profile_two r) | None ↦ constructed t none ]) ≤ size U) (sym m.1.1)
      (subst (λ V. size V ≤ size U) (sym (same_tree (profile_one limit) c row)) (normal_least limit c row.node (tagging (profile_one limit) row) U (row_of_two node n row two m.1.1) (plain_row limit row) x))) m.2
  normal_least limit (foreign V) node g T two ok m =
      tagged_least g sequence_tag (λ _ U. (U ≡ V) × IsTrue (is_foreign foreign_levels U)) (λ _. V) T ok (λ t U x. let e = ap size x.0 in omega (arith, e)) m.1

  matches_least : (limit : ℕ) (es : Entries) (rows : List Row) (ts : Trees) → IsTrue (are_of_two rows) → Matches (profile_one limit) es rows ts → sizes (normal_trees es rows) ≤ sizes ts
  matches_least limit no_entries rows ts two m = omega arith
  matches_least limit (absent es) [] ts two m = absurd m
  matches_least limit (absent es) (row ∷ rows) ts two m = matches_least limit es rows ts ((and_parts _ _ two).1) m.1
  matches_least limit (present c es) [] ts two m = absurd m
  matches_least limit (present c es) (row ∷ rows) ts two m = (let parts = and_parts (is_of_two row.node) (are_of_two rows) two in elim m.1 [
    | inl x ↦
        subst (λ z. sizes (normal_trees (present c es) (row ∷ rows)) ≤ sizes z) (sym x.2)
        (one_least c row es rows x.0 x.1
        (subst (λ V. size V ≤ size x.0) (sym (same_tree (profile_one limit) c row)) (normal_least limit c row.node (tagging (profile_one limit) row) x.0 parts.0 (plain_row limit row) x.3))
        (matches_least limit es rows x.1 parts.1 x.4) (is_default row c))
    | inr x ↦ none_least c row es rows (sizes ts) (matches_least limit es rows ts parts.1 x.1) (is_default row c) x.0
  ])

  items_least : (limit : ℕ) (is : Items) (rows : List Row) (ts : Trees) → IsTrue (are_of_two rows) → MatchItems (profile_one limit) is rows ts → sizes (normal_items is rows) ≤ sizes ts
  items_least limit no_items rows ts two m = omega arith
  items_least limit (item c is) [] ts two m = absurd (let e : None ≡ Some m.0 = m.3 in cc)
  items_least limit (item c is) (row ∷ rows) ts two m =
      let e : Some row ≡ Some m.0 = m.3 in
      let r : m.0 ≡ row = cc in
      let means : Means (profile_one limit) c row.node (tagging (profile_one limit) row) m.1 = subst (λ x. Means (profile_one limit) c x.node (tagging (profile_one limit) x) m.1) r m.5 in
      let first : size (normal_tree c row.node (tagging profile_two row)) ≤ size m.1 =
      subst (λ V. size V ≤ size m.1) (sym (same_tree (profile_one limit) c row)) (normal_least limit c row.node (tagging (profile_one limit) row) m.1 ((and_parts _ _ two).0) (plain_row limit row) means) in
      let rest : sizes (normal_items is (row ∷ rows)) ≤ sizes m.2 = items_least limit is (row ∷ rows) m.2 two m.6 in
      subst (λ z. sizes (normal_items (item c is) (row ∷ rows)) ≤ sizes z) (sym m.4) (omega arith)

-- a normal form is no longer than an encoding of at most 65,535 octets
pub normal_no_longer : (limit : ℕ) (a : Apdu) (T : Tree) (b : List ℕ) → MeansApdu (profile_one limit) a T → Spells T b → length b ≤ 65_535 → length (normal_form a) ≤ length b
normal_no_longer limit a T b m s le =
    let x = length-encoding (normal_tree (choice_of a) IllApdu untagged) in
    let y = normal_least limit (choice_of a) IllApdu untagged T refl tt m.1 in
    let z = size_least T b s le in
    omega arith

-- what encodes an APDU in profile 1 within 65,535 octets spells it in profile 2
pub small_wider : (a : Apdu) (b : List ℕ) → Encodes (profile_one 65_535) a b → SpellsApdu profile_two a b
small_wider a b h = record {
  encodes = encodes_wider 65_535 a b (lit≤ tt) h;
  normal_short = let s = h.short in let n = normal_no_longer 65_535 a h.tree b h.means h.spells h.short in omega arith;
}
