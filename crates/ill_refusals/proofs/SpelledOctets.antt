-- What spells a value is octets.
use Rattle.std.proofs.Common.{◌≡◌, ℕ, zero, suc, ◌+◌, ◌/◌, ◌%◌, ◌<◌, ◌≤◌, Bool, true, false, ◌&&◌, List, [], ◌∷◌, ◌++◌, length, Some, None, IsTrue, refl, sym, ap, subst, ◌∙◌, inl, inr, arith, if◌then◌else◌, ltb-true}
use Rattle.std.specs.Prelude.{nat_eq, nat_lt}
use Rattle.std.specs.Int.Digits.{AllBelowBase}
use Rattle.std.proofs.lemmas.Bool.{and_parts}
use Rattle.ber_tree.specs.declared.class.Class.{Class}
use Rattle.ber_tree.specs.Identifier.{Tag, class_bits, form_bit, base_128, identifier}
use Rattle.ber_tree.specs.Length.{IsLength, short, long}
use Rattle.ber_tree.specs.Octets.{are_octets}
use Rattle.ber_tree.specs.Tree.{Tree, Trees, primitive, constructed, none, more, Spells, SpellsAll, text, text_all}
use Rattle.ber_tree.proofs.Lists.{two_cases}
use Rattle.ber_core.proofs.ReadOctets.{octets_left, octets_right, octets_join}
use Rattle.ber_core.specs.Foreign.{is_foreign, are_foreign, is_identified, foreign_levels}
use Rattle.ber_leaf.specs.declared.fault.LeafFault.{LeafFault}
use Rattle.ber_leaf.specs.Leaf.{Leaf, boolean, integer, enumerated, general_string, visible_string, printable_string, iso_date, iso_time, null_type, object_identifier, octet_string, bit_string, object_descriptor, content_fault, is_bits}
use Rattle.ber_leaf.specs.Profile.{Profile}
use Rattle.ber_leaf.specs.Segments.{no_bits, join_bits, tree_bits, bits_after, leaf_content}
use Rattle.ill_tables.specs.declared.node.NodeId.{NodeId}
use Rattle.ill_tables.specs.declared.part.Row.{Row}
use Rattle.ill_tables.specs.Table.{rows_of}
use Rattle.ill_schema.specs.Apdu.{Apdu, choice_of, root, Encodes}
use Rattle.ill_schema.specs.Content.{Content, simple, sequence, list, alternative, foreign, Entries, no_entries, absent, present, Items, no_items, item}
use Rattle.ill_schema.specs.Meaning.{Means, Matches, MatchItems}
use Rattle.ill_schema.specs.Tagging.{Tagging, untagged, implicit, explicit, explicit_or_bare, tagging, Tagged}

-- ---- headers

octet_before : (x : ℕ) (a : List ℕ) → x < 256 → IsTrue (are_octets a) → IsTrue (are_octets (x ∷ a))
octet_before x a l h = let q : nat_lt x 256 ≡ true = grind arith in rw q h

below_octets : (a : List ℕ) → AllBelowBase 256 a → IsTrue (are_octets a)
below_octets [] h = refl
below_octets (x ∷ a) h = octet_before x a h.0 (below_octets a h.1)

length_octets : (n : ℕ) (os : List ℕ) → IsLength n os → IsTrue (are_octets os)
length_octets n _ (short l) = octet_before n [] (omega arith) refl
length_octets n _ (long {octets = os} a b o e) = octet_before (128 + length os) os (omega arith) (below_octets os o)

class_small : (c : Class) → class_bits c ≤ 192
class_small Class.Universal = omega arith
class_small Class.Application = omega arith
class_small Class.Context = omega arith
class_small Class.Private = omega arith

form_small : (f : Bool) → form_bit f ≤ 32
form_small false = omega arith
form_small true = omega arith

digits_octets : (n : ℕ) → n ≤ 268_435_455 → IsTrue (are_octets (base_128 n))
digits_octets n l = elim (two_cases (nat_lt n 128)) [
  | inl a ↦ rw a (octet_before n [] (let x : n < 128 = ltb-true _ _ a in omega arith) refl)
  | inr a ↦ elim (two_cases (nat_lt n 16_384)) [
    | inl b ↦ let x : n < 16_384 = ltb-true _ _ b in rw (a, b) (octet_before (128 + n / 128) (n % 128 ∷ []) (omega arith) (octet_before (n % 128) [] (omega arith) refl))
    | inr b ↦ elim (two_cases (nat_lt n 2_097_152)) [
      | inl c ↦
          let x : n < 2_097_152 = ltb-true _ _ c in
          rw (a, b, c) (octet_before (128 + n / 16_384) ((128 + n / 128 % 128) ∷ n % 128 ∷ []) (omega arith) (octet_before (128 + n / 128 % 128) (n % 128 ∷ []) (omega arith) (octet_before (n % 128) [] (omega arith) refl)))
      | inr c ↦
          rw (a, b, c) (octet_before (128 + n / 2_097_152) ((128 + n / 16_384 % 128) ∷ (128 + n / 128 % 128) ∷ n % 128 ∷ []) (omega arith)
          (octet_before (128 + n / 16_384 % 128) ((128 + n / 128 % 128) ∷ n % 128 ∷ []) (omega arith) (octet_before (128 + n / 128 % 128) (n % 128 ∷ []) (omega arith) (octet_before (n % 128) [] (omega arith) refl))))
    ]
  ]
]

identifier_octets : (t : Tag) (f : Bool) → t.number ≤ 268_435_455 → IsTrue (are_octets (identifier t f))
identifier_octets t f l =
    let c = class_small t.class in
    let b = form_small f in
    elim (two_cases (nat_lt t.number 31)) [
      | inl a ↦ let x : t.number < 31 = ltb-true _ _ a in rw a (octet_before (class_bits t.class + form_bit f + t.number) [] (omega (arith, c, b, x)) refl)
      | inr a ↦ rw a (octet_before (class_bits t.class + form_bit f + 31) (base_128 t.number) (omega (arith, c, b)) (digits_octets t.number l))
    ]

mutual
  -- what spells a tree with octets in it is octets
  pub spelled_octets : (T : Tree) (b : List ℕ) → Spells T b → IsTrue (are_octets (text T)) → IsTrue (are_octets b)
  spelled_octets (primitive t octets) b h o =
      subst (λ z. IsTrue (are_octets z)) (sym h.joined)
      (octets_join (identifier t false) (h.octets ++ octets) (identifier_octets t false h.has_identifier.number) (octets_join h.octets octets (length_octets (length octets) h.octets h.spell_length) o))
  spelled_octets (constructed t ts) b h o =
      let contents = all_spelled ts h.0 h.1 o in
      elim h.2 [
        | inl i ↦
            subst (λ z. IsTrue (are_octets z)) (sym i.joined)
            (octets_join (identifier t true) (i.octets ++ h.0) (identifier_octets t true i.has_identifier.number) (octets_join i.octets h.0 (length_octets (length h.0) i.octets i.spell_length) contents))
        | inr i ↦
            subst (λ z. IsTrue (are_octets z)) (sym i.joined)
            (octets_join (identifier t true) (128 ∷ h.0 ++ 0 ∷ 0 ∷ []) (identifier_octets t true i.has_identifier.number) (octets_join (128 ∷ h.0) (0 ∷ 0 ∷ []) (octet_before 128 h.0 (omega arith) contents) refl))
      ]

  all_spelled : (ts : Trees) (b : List ℕ) → SpellsAll ts b → IsTrue (are_octets (text_all ts)) → IsTrue (are_octets b)
  all_spelled none b h o = subst (λ z. IsTrue (are_octets z)) (sym h) refl
  all_spelled (more T ts) b h o =
      subst (λ z. IsTrue (are_octets z)) (sym h.4)
      (octets_join h.0 h.1 (spelled_octets T h.0 h.2 (octets_left (text T) (text_all ts) o)) (all_spelled ts h.1 h.3 (octets_right (text T) (text_all ts) o)))

-- ---- strings in segments

-- bits, and octets
abbrev IsGood : List ℕ → Type 0
IsGood w = IsTrue (is_bits w) × IsTrue (are_octets w)

no_good : IsGood no_bits → ⊥
no_good g = let q : false ≡ true = g.0 in cc

unused_none : (a : List ℕ) → IsTrue (is_bits (0 ∷ a))
unused_none [] = refl
unused_none (x ∷ a) = refl

join_back : (a b : List ℕ) → IsGood (join_bits a b) → IsGood a × IsGood b
join_back [] b g = absurd (no_good g)
join_back (u ∷ a) [] g = absurd (no_good g)
join_back (u ∷ a) (v ∷ b) g = go (nat_eq u 0 && is_bits (v ∷ b)) refl g
  where
    go : (x : Bool) → nat_eq u 0 && is_bits (v ∷ b) ≡ x → IsGood (if x then v ∷ a ++ b else no_bits) → IsGood (u ∷ a) × IsGood (v ∷ b)
    go false e h = absurd (no_good h)
    go true e h =
        let p = and_parts (nat_eq u 0) (is_bits (v ∷ b)) e in
        let z : u ≡ 0 = grind (arith, p.0) in
        let o = octets_right (v ∷ []) (a ++ b) h.1 in (
          subst (λ n. IsGood (n ∷ a)) (sym z) (unused_none a, octet_before 0 a (omega arith) (octets_left a b o)),
          (p.1, octets_join (v ∷ []) b (octets_left (v ∷ []) (a ++ b) h.1) (octets_right a b o)),
        )

mutual
  bits_back : (c : List ℕ) (ts : Trees) → IsGood (bits_after c ts) → IsGood c × IsTrue (are_octets (text_all ts))
  bits_back c none g = (g, refl)
  bits_back c (more T ts) g =
      let r = bits_back (join_bits c (tree_bits T)) ts g in
      let j = join_back c (tree_bits T) r.0 in
      (j.0, octets_join (text T) (text_all ts) (tree_back T j.1) r.1)

  tree_back : (T : Tree) → IsGood (tree_bits T) → IsTrue (are_octets (text T))
  tree_back (primitive t octets) g = g.1
  tree_back (constructed t ts) g = (bits_back (0 ∷ []) ts g).1

bits_fault : (p : Profile) (w : List ℕ) → content_fault p bit_string w ≡ None → IsTrue (is_bits w)
bits_fault p w h = elim (two_cases (is_bits w)) [
  | inl e ↦ e
  | inr e ↦
      let q : content_fault p bit_string w ≡ Some LeafFault.BadBits = ap (λ (b : Bool). if b then None else Some LeafFault.BadBits) e in
      absurd (let r : None ≡ Some LeafFault.BadBits = sym h ∙ q in cc)
]

leaf_octets : (p : Profile) (l : Leaf) (T : Tree) → IsTrue (are_octets (leaf_content l T)) → content_fault p l (leaf_content l T) ≡ None → IsTrue (are_octets (text T))
leaf_octets p l (primitive t octets) o h = o
leaf_octets p bit_string (constructed t ts) o h = (bits_back (0 ∷ []) ts (bits_fault p (bits_after (0 ∷ []) ts) h, o)).1
leaf_octets p boolean (constructed t ts) o h = o
leaf_octets p integer (constructed t ts) o h = o
leaf_octets p enumerated (constructed t ts) o h = o
leaf_octets p general_string (constructed t ts) o h = o
leaf_octets p visible_string (constructed t ts) o h = o
leaf_octets p printable_string (constructed t ts) o h = o
leaf_octets p iso_date (constructed t ts) o h = o
leaf_octets p iso_time (constructed t ts) o h = o
leaf_octets p null_type (constructed t ts) o h = o
leaf_octets p object_identifier (constructed t ts) o h = o
leaf_octets p octet_string (constructed t ts) o h = o
leaf_octets p object_descriptor (constructed t ts) o h = o

-- ---- foreign trees, and values

mutual
  pub foreign_octets : (n : ℕ) (T : Tree) → IsTrue (is_foreign n T) → IsTrue (are_octets (text T))
  foreign_octets zero T h = absurd cc
  foreign_octets (suc n) (primitive t octets) h = (and_parts (is_identified t false) (are_octets octets) h).1
  foreign_octets (suc n) (constructed t ts) h = foreigns_octets n ts (and_parts (is_identified t true) (are_foreign n ts) h).1

  foreigns_octets : (n : ℕ) (ts : Trees) → IsTrue (are_foreign n ts) → IsTrue (are_octets (text_all ts))
  foreigns_octets n none h = refl
  foreigns_octets n (more T ts) h =
      let q = and_parts (is_foreign n T) (are_foreign n ts) h in octets_join (text T) (text_all ts) (foreign_octets n T q.0) (foreigns_octets n ts q.1)

abbrev HasOctets : Tree → Type 0
HasOctets T = IsTrue (are_octets (text T))

wrapped : (t : Tag) (U T : Tree) → T ≡ constructed t (more U none) → HasOctets U → HasOctets T
wrapped t U T e h = subst HasOctets (sym e) (octets_join (text U) [] h refl)

tagged : (g : Tagging) (own : Tag) (E : Tag → Tree → Type 0) (T : Tree) → ((t : Tag) (U : Tree) → E t U → HasOctets U) → Tagged g own E T → HasOctets T
tagged untagged own E T f h = f own T h
tagged (implicit t) own E T f h = f t T h
tagged (explicit t) own E T f h = wrapped t h.0 T h.1 (f own h.0 h.2)
tagged (explicit_or_bare t) own E T f (inl h) = wrapped t h.0 T h.1 (f own h.0 h.2)
tagged (explicit_or_bare t) own E T f (inr h) = f t T h

mutual
  means_octets : (p : Profile) (c : Content) (node : NodeId) (g : Tagging) (T : Tree) → Means p c node g T → HasOctets T
  means_octets p (simple v) node g T h = tagged g _ _ T (λ t U e. leaf_octets p h.0 U e.2.0 e.2.1) h.2
  means_octets p (sequence es) node g T h = tagged g _ _ T (λ t U e. subst HasOctets (sym e.1) (matches_octets p es (rows_of node) e.0 e.2)) h.1
  means_octets p (list is) node g T h = tagged g _ _ T (λ t U e. subst HasOctets (sym e.1) (items_octets p is (rows_of node) e.0 e.2)) h.1
  means_octets p (alternative n c) node g T h = tagged g _ _ T (λ t U e. means_octets p c h.0.node (tagging p h.0) U e) h.2
  means_octets p (foreign V) node g T h = tagged g _ _ T (λ t U e. foreign_octets foreign_levels U e.1) h.1

  matches_octets : (p : Profile) (es : Entries) (rows : List Row) (ts : Trees) → Matches p es rows ts → IsTrue (are_octets (text_all ts))
  matches_octets p no_entries [] ts h = subst (λ z. IsTrue (are_octets (text_all z))) (sym h) refl
  matches_octets p no_entries (row ∷ rows) ts h = absurd h
  matches_octets p (absent es) [] ts h = absurd h
  matches_octets p (absent es) (row ∷ rows) ts h = matches_octets p es rows ts h.1
  matches_octets p (present c es) [] ts h = absurd h
  matches_octets p (present c es) (row ∷ rows) ts h = elim h.1 [
    | inl x ↦
        subst (λ z. IsTrue (are_octets (text_all z))) (sym x.2)
        (octets_join (text x.0) (text_all x.1) (means_octets p c row.node (tagging p row) x.0 x.3) (matches_octets p es rows x.1 x.4))
    | inr x ↦ matches_octets p es rows ts x.1
  ]

  items_octets : (p : Profile) (is : Items) (rows : List Row) (ts : Trees) → MatchItems p is rows ts → IsTrue (are_octets (text_all ts))
  items_octets p no_items rows ts h = subst (λ z. IsTrue (are_octets (text_all z))) (sym h) refl
  items_octets p (item c is) rows ts h =
      subst (λ z. IsTrue (are_octets (text_all z))) (sym h.4)
      (octets_join (text h.1) (text_all h.2) (means_octets p c h.0.node (tagging p h.0) h.1 h.5) (items_octets p is rows h.2 h.6))

-- an encoding is octets
pub encoding_octets : (p : Profile) (a : Apdu) (b : List ℕ) → Encodes p a b → IsTrue (are_octets b)
encoding_octets p a b h = spelled_octets h.tree b h.spells (means_octets p (choice_of a) (root p) untagged h.tree h.means.1)
