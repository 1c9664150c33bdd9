-- A value holds no more text than its encoding has octets, and no more list items than half of them.
use Rattle.std.proofs.Common.{◌≡◌, ℕ, ℤ, ◌+◌, ◌-◌, ◌*◌, ◌≤◌, true, false, List, [], ◌∷◌, ◌++◌, length, length-append, IsTrue, refl, sym, ap, subst, ◌∙◌, inl, inr, arith}
use Rattle.ber_core.specs.Foreign.{is_foreign, foreign_levels}
use Rattle.ber_tree.specs.Identifier.{Tag, identifier}
use Rattle.ber_tree.specs.Tree.{Tree, Trees, primitive, constructed, none, more, text, text_all, Spells, SpellsAll}
use Rattle.ber_leaf.specs.Leaf.{Leaf, boolean, integer, enumerated, general_string, visible_string, printable_string, iso_date, iso_time, null_type, object_identifier, octet_string, bit_string, object_descriptor, value}
use Rattle.ber_leaf.specs.Profile.{Profile}
use Rattle.ber_leaf.specs.Segments.{bits_after, leaf_content}
use Rattle.ber_leaf.proofs.Bits.{length-cleared}
use Rattle.ber_leaf.specs.Simple.{Simple, flag, whole, date, time, printable, general, visible, null, oid, binary, bits, descriptor}
use Rattle.ill_tables.specs.declared.node.Kind.{Kind}
use Rattle.ill_tables.specs.declared.node.NodeId.{NodeId}
use Rattle.ill_tables.specs.declared.part.Presence.{Presence}
use Rattle.ill_tables.specs.declared.part.Row.{Row}
use Rattle.ill_schema.specs.Apdu.{choice_of, root}
use Rattle.ill_schema.specs.Content.{Content, simple, sequence, list, alternative, foreign, Entries, no_entries, absent, present, Items, no_items, item}
use Rattle.ill_schema.specs.Meaning.{Means, Matches, MatchItems}
use Rattle.ill_schema.specs.Presence.{is_default_of, default_value, same_value}
use Rattle.ill_tables.specs.Table.{kind_of, rows_of}
use Rattle.ill_schema.proofs.Tags.{at_row, is_proper, is_proper_row, root_untagged, tables_proper}
use Rattle.ill_schema.proofs.Unique.{any_proper}
use Rattle.std.proofs.lemmas.Bool.{and_parts}
use Rattle.std.specs.List.{list_all}
use Rattle.ill_schema.specs.Tagging.{Tagging, Tagged, tagging, sequence_tag, untagged, implicit, explicit, explicit_or_bare}
use Rattle.ill_refusals.specs.Bounds.{elements, elements_all, text_size, text_octets, entries_text, items_text, items_and_elements, entries_items, items_items, ValuesAreSmall}
use Rattle.ill_refusals.proofs.Judgements.{id_size, length_size}
use Rattle.ill_refusals.proofs.Segments.{length-bits_after}

-- what is held is within what the tree has
record IsWithin (c : Content) (T : Tree) : Type 0 where
  texts : text_octets c ≤ length (text T)
  items : items_and_elements c + 1 ≤ elements T

record AreWithin (octets count : ℕ) (ts : Trees) : Type 0 where
  texts : octets ≤ length (text_all ts)
  items : count ≤ elements_all ts

mutual
  spelled_text : (T : Tree) (b : List ℕ) → Spells T b → (length (text T) ≤ length b) × (2 * elements T ≤ length b)
  spelled_text (primitive tag octets) b h =
      let i = id_size tag false h.has_identifier in let l = length_size (length octets) h.octets h.spell_length in
      let size : length b ≡ length (identifier tag false) + (length h.octets + length octets) =
      omega (arith, ap length h.joined, length-append (identifier tag false) (h.octets ++ octets), length-append h.octets octets) in
      (omega (arith, size), omega (arith, size, i, l))
  spelled_text (constructed tag ts) b h =
      let r = spelled_texts ts h.0 h.1 in let r0 = r.0 in let r1 = r.1 in
      elim h.2 [
        | inl i ↦
            let k = id_size tag true i.has_identifier in let l = length_size (length h.0) i.octets i.spell_length in
            let size : length b ≡ length (identifier tag true) + (length i.octets + length h.0) =
            omega (arith, ap length i.joined, length-append (identifier tag true) (i.octets ++ h.0), length-append i.octets h.0) in
            (omega (arith, size, r0), omega (arith, size, r1, k, l))
        | inr i ↦
            let size : length b ≡ length (identifier tag true) + (length h.0 + 3) =
            omega (arith, ap length i.joined, length-append (identifier tag true) (128 ∷ h.0 ++ 0 ∷ 0 ∷ []), length-append h.0 (0 ∷ 0 ∷ [])) in
            (omega (arith, size, r0), omega (arith, size, r1))
      ]

  spelled_texts : (ts : Trees) (b : List ℕ) → SpellsAll ts b → (length (text_all ts) ≤ length b) × (2 * elements_all ts ≤ length b)
  spelled_texts none b h = (omega arith, omega arith)
  spelled_texts (more T ts) b h =
      let r = spelled_text T h.0 h.2 in let s = spelled_texts ts h.1 h.3 in
      let r0 = r.0 in let r1 = r.1 in let s0 = s.0 in let s1 = s.1 in
      let size : length b ≡ length h.0 + length h.1 = ap length h.4 ∙ length-append h.0 h.1 in
      (omega (arith, size, r0, s0, length-append (text T) (text_all ts)), omega (arith, size, r1, s1))

one_element : (T : Tree) → 1 ≤ elements T
one_element (primitive tag octets) = omega arith
one_element (constructed tag ts) = omega arith

leaf_text : (l : Leaf) (octets : List ℕ) → text_size (value l octets) ≤ length octets
leaf_text boolean octets = omega arith
leaf_text integer octets = omega arith
leaf_text enumerated octets = omega arith
leaf_text general_string octets = omega arith
leaf_text visible_string octets = omega arith
leaf_text printable_string octets = omega arith
leaf_text iso_date octets = omega arith
leaf_text iso_time octets = omega arith
leaf_text null_type octets = omega arith
leaf_text object_identifier octets = omega arith
leaf_text octet_string octets = omega arith
leaf_text bit_string [] = omega arith
leaf_text bit_string (u ∷ octets) = omega (arith, length-cleared u octets)
leaf_text object_descriptor octets = omega arith

-- one octet of a content is no bits
bits_text : (octets : List ℕ) → text_size (value bit_string octets) ≤ length octets - 1
bits_text [] = omega arith
bits_text (u ∷ octets) = omega (arith, length-cleared u octets)

tree_text : (l : Leaf) (T : Tree) → text_size (value l (leaf_content l T)) ≤ length (text T)
tree_text l (primitive tag octets) = leaf_text l octets
tree_text bit_string (constructed tag ts) =
    let b = bits_text (bits_after (0 ∷ []) ts) in
    let n = length-bits_after (0 ∷ []) ts (omega arith) in
    omega (arith, b, n)
tree_text boolean (constructed tag ts) = leaf_text boolean (text_all ts)
tree_text integer (constructed tag ts) = leaf_text integer (text_all ts)
tree_text enumerated (constructed tag ts) = leaf_text enumerated (text_all ts)
tree_text general_string (constructed tag ts) = leaf_text general_string (text_all ts)
tree_text visible_string (constructed tag ts) = leaf_text visible_string (text_all ts)
tree_text printable_string (constructed tag ts) = leaf_text printable_string (text_all ts)
tree_text iso_date (constructed tag ts) = leaf_text iso_date (text_all ts)
tree_text iso_time (constructed tag ts) = leaf_text iso_time (text_all ts)
tree_text null_type (constructed tag ts) = leaf_text null_type (text_all ts)
tree_text object_identifier (constructed tag ts) = leaf_text object_identifier (text_all ts)
tree_text octet_string (constructed tag ts) = leaf_text octet_string (text_all ts)
tree_text object_descriptor (constructed tag ts) = leaf_text object_descriptor (text_all ts)

wrapped : (c : Content) (t : Tag) (U T : Tree) → T ≡ constructed t (more U none) → IsWithin c U → IsWithin c T
wrapped c t U T e h =
    let x = h.texts in let y = h.items in
    subst (IsWithin c) (sym e) (record { texts = omega (arith, x, length-append (text U) []); items = omega (arith, y) })

tagged : (g : Tagging) (own : Tag) (E : Tag → Tree → Type 0) (c : Content) (T : Tree) → ((t : Tag) (U : Tree) → E t U → IsWithin c U) → Tagged g own E T → IsWithin c T
tagged untagged own E c T f h = f own T h
tagged (implicit t) own E c T f h = f t T h
tagged (explicit t) own E c T f h = wrapped c t h.0 T h.1 (f own h.0 h.2)
tagged (explicit_or_bare t) own E c T f (inl h) = wrapped c t h.0 T h.1 (f own h.0 h.2)
tagged (explicit_or_bare t) own E c T f (inr h) = f t T h

same_text : (k : Kind) (d : ℤ) (v : Simple) → IsTrue (same_value v (default_value k d)) → text_size v ≡ 0
same_text k d (flag b) h = refl
same_text k d (whole n) h = refl
same_text k d (date o) h = absurd cc
same_text k d (time o) h = absurd cc
same_text k d (printable o) h = absurd cc
same_text k d (general o) h = absurd cc
same_text k d (visible o) h = absurd cc
same_text k d null h = absurd cc
same_text k d (oid o) h = absurd cc
same_text k d (binary o) h = absurd cc
same_text k d (bits n o) h = absurd cc
same_text k d (descriptor o) h = absurd cc

default_text : (pr : Presence) (k : Kind) (c : Content) → IsTrue (is_default_of pr k c) → (text_octets c ≡ 0) × (items_and_elements c ≡ 0)
default_text (Presence.Default d) k (simple v) h = (same_text k d v h, refl)
default_text (Presence.Default d) k (sequence es) h = absurd cc
default_text (Presence.Default d) k (list is) h = absurd cc
default_text (Presence.Default d) k (alternative n c) h = absurd cc
default_text (Presence.Default d) k (foreign V) h = absurd cc
default_text Presence.Must k c h = absurd cc
default_text Presence.May k c h = absurd cc
default_text Presence.LeftOut k c h = absurd cc

within_constructed : (c : Content) (t : Tag) (ts : Trees) (U : Tree) (texts items : ℕ) → U ≡ constructed t ts → text_octets c ≡ texts → items_and_elements c ≡ items → AreWithin texts items ts → IsWithin c U
within_constructed c t ts U texts items e x y h =
    let p = h.texts in let q = h.items in
    subst (IsWithin c) (sym e) (record { texts = omega (arith, x, p); items = omega (arith, y, q) })

mutual
  means_within : (p : Profile) (c : Content) (node : NodeId) (g : Tagging) (T : Tree) → IsTrue (is_proper g (kind_of node)) → Means p c node g T → IsWithin c T
  means_within p (simple v) node g T ok h = tagged g _ _ (simple v) T (λ t U e. record {
    texts = subst (λ w. text_size w ≤ length (text U)) (sym e.2.2) (tree_text h.0 U);
    items = one_element U;
  }) h.2
  means_within p (sequence es) node g T ok h = tagged g _ _ (sequence es) T (λ t U e. within_constructed (sequence es) t e.0 U _ _ e.1 refl refl (matches_within p es (rows_of node) e.0 (tables_proper p node) e.2)) h.1
  means_within p (list is) node g T ok h = tagged g _ _ (list is) T (λ t U e. within_constructed (list is) t e.0 U _ _ e.1 refl refl (items_within p is (rows_of node) e.0 (tables_proper p node) e.2)) h.1
  means_within p (alternative n c) node g T ok h = tagged g _ _ (alternative n c) T (λ t U e. let r = means_within p c h.0.node (tagging p h.0) U (at_row (is_proper_row p) (rows_of node) n h.0 (tables_proper p node) h.1.1) e in record { texts = r.texts; items = r.items }) h.2
  means_within p (foreign V) node g T ok h =
      let a = any_proper g (kind_of node) h.0 ok in
      let x : (U : Tree) × (T ≡ constructed a.0 (more U none)) × ((U ≡ V) × IsTrue (is_foreign foreign_levels U)) = subst (λ z. Tagged z sequence_tag (λ _ U. (U ≡ V) × IsTrue (is_foreign foreign_levels U)) T) a.1 h.1 in
      let t = ap (λ z. length (text z)) x.2.0 in
      let e = ap elements x.2.0 in
      subst (IsWithin (foreign V)) (sym x.1) (record { texts = omega (arith, t, length-append (text x.0) []); items = omega (arith, e) })

  matches_within : (p : Profile) (es : Entries) (rows : List Row) (ts : Trees) → IsTrue (list_all (is_proper_row p) rows) → Matches p es rows ts → AreWithin (entries_text es) (entries_items es) ts
  matches_within p no_entries [] ts ok h = record { texts = omega arith; items = omega arith }
  matches_within p no_entries (row ∷ rows) ts ok h = absurd h
  matches_within p (absent es) [] ts ok h = absurd h
  matches_within p (absent es) (row ∷ rows) ts ok h = let r = matches_within p es rows ts (and_parts _ _ ok).1 h.1 in record { texts = r.texts; items = r.items }
  matches_within p (present c es) [] ts ok h = absurd h
  matches_within p (present c es) (row ∷ rows) ts ok h = elim h.1 [
    | inl x ↦
        let a = means_within p c row.node (tagging p row) x.0 (and_parts (is_proper_row p row) _ ok).0 x.3 in let r = matches_within p es rows x.1 (and_parts _ _ ok).1 x.4 in
        let a0 = a.texts in let a1 = a.items in let r0 = r.texts in let r1 = r.items in
        subst (AreWithin _ _) (sym x.2) (record { texts = omega (arith, a0, r0, length-append (text x.0) (text_all x.1)); items = omega (arith, a1, r1) })
    | inr x ↦
        let z = default_text row.presence (kind_of row.node) c x.0 in let r = matches_within p es rows ts (and_parts _ _ ok).1 x.1 in
        let z0 = z.0 in let z1 = z.1 in let r0 = r.texts in let r1 = r.items in
        record { texts = omega (arith, z0, r0); items = omega (arith, z1, r1) }
  ]

  items_within : (p : Profile) (is : Items) (rows : List Row) (ts : Trees) → IsTrue (list_all (is_proper_row p) rows) → MatchItems p is rows ts → AreWithin (items_text is) (items_items is) ts
  items_within p no_items rows ts ok h = record { texts = omega arith; items = omega arith }
  items_within p (item c is) rows ts ok h =
      let a = means_within p c h.0.node (tagging p h.0) h.1 (at_row (is_proper_row p) rows 0 h.0 ok h.3) h.5 in let r = items_within p is rows h.2 ok h.6 in
      let a0 = a.texts in let a1 = a.items in let r0 = r.texts in let r1 = r.items in
      subst (AreWithin _ _) (sym h.4) (record { texts = omega (arith, a0, r0, length-append (text h.1) (text_all h.2)); items = omega (arith, a1, r1) })

pub values_small : (p : Profile) → ValuesAreSmall p
values_small p a b h =
    let w = means_within p (choice_of a) (root p) untagged h.tree (root_untagged p.full) h.means.1 in
    let s = spelled_text h.tree b h.spells in
    let w0 : text_octets a.body ≤ length (text h.tree) = w.texts in let w1 : items_and_elements a.body + 1 ≤ elements h.tree = w.items in
    let s0 = s.0 in let s1 = s.1 in
    (omega (arith, w0, s0), omega (arith, w1, s1))
