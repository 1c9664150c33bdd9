-- The tags of elements have identifiers.
use Rattle.std.proofs.Common.{◌≡◌, ℕ, zero, suc, ◌≤◌, Bool, true, ◌&&◌, ◌||◌, not, List, [], ◌∷◌, Option, Some, None, IsTrue, refl, sym, subst, arith, slice_get, lit≤, ltb-true}
use Rattle.std.specs.Prelude.{nat_le, nat_lt}
use Rattle.std.specs.List.{list_all}
use Rattle.std.proofs.lemmas.Bool.{and_parts}
use Rattle.ber_tree.specs.declared.class.Class.{Class}
use Rattle.ber_tree.specs.Identifier.{HasIdentifier}
use Rattle.ber_leaf.specs.Leaf.{Leaf, boolean, integer, enumerated, general_string, visible_string, printable_string, iso_date, iso_time, null_type, object_identifier, octet_string, bit_string, object_descriptor}
use Rattle.ill_tables.specs.declared.node.Kind.{Kind}
use Rattle.ill_tables.specs.declared.node.NodeId.{NodeId}
use Rattle.ill_tables.specs.declared.node.NodeId.TheVariants.{Boolean}
use Rattle.ill_tables.specs.declared.part.Row.{Row}
use Rattle.ill_schema.specs.Content.{Content, simple, sequence, list, alternative, foreign}
use Rattle.ill_schema.specs.Elements.{element_tag, own_number}
use Rattle.ill_tables.specs.Table.{kind_of, rows_of}
use Rattle.ill_schema.specs.Tagging.{leaf_of, leaf_tag, universal}
use Rattle.ill_write.specs.code.Valid.{is_universal, is_valid, is_valid_tag, is_valid_place}

universal_id : (n : ℕ) (f : Bool) → n ≤ 268_435_455 → (n ≡ 0 → ⊥) → HasIdentifier (universal n) f
universal_id n f le ne = record { number = le; not_end = λ _ e. absurd (ne e) }

leaf_number_id : (o : Option Leaf) (f : Bool) → HasIdentifier (universal (elim o as (λ _. ℕ) [ Some l ↦ (leaf_tag l).number | None ↦ 16 ])) f
leaf_number_id None f = universal_id 16 f (lit≤ tt) (λ e. cc)
leaf_number_id (Some boolean) f = universal_id 1 f (lit≤ tt) (λ e. cc)
leaf_number_id (Some integer) f = universal_id 2 f (lit≤ tt) (λ e. cc)
leaf_number_id (Some enumerated) f = universal_id 10 f (lit≤ tt) (λ e. cc)
leaf_number_id (Some general_string) f = universal_id 27 f (lit≤ tt) (λ e. cc)
leaf_number_id (Some visible_string) f = universal_id 26 f (lit≤ tt) (λ e. cc)
leaf_number_id (Some printable_string) f = universal_id 19 f (lit≤ tt) (λ e. cc)
leaf_number_id (Some iso_date) f = universal_id 26 f (lit≤ tt) (λ e. cc)
leaf_number_id (Some iso_time) f = universal_id 26 f (lit≤ tt) (λ e. cc)
leaf_number_id (Some null_type) f = universal_id 5 f (lit≤ tt) (λ e. cc)
leaf_number_id (Some object_identifier) f = universal_id 6 f (lit≤ tt) (λ e. cc)
leaf_number_id (Some octet_string) f = universal_id 4 f (lit≤ tt) (λ e. cc)
leaf_number_id (Some bit_string) f = universal_id 3 f (lit≤ tt) (λ e. cc)
leaf_number_id (Some object_descriptor) f = universal_id 7 f (lit≤ tt) (λ e. cc)

own_id : (c : Content) (k : Kind) (f : Bool) → HasIdentifier (universal (own_number k c)) f
own_id (simple v) k f = leaf_number_id (leaf_of k v) f
own_id (sequence es) k f = universal_id 16 f (lit≤ tt) (λ e. cc)
own_id (list is) k f = universal_id 16 f (lit≤ tt) (λ e. cc)
own_id (alternative n c) k f = universal_id 16 f (lit≤ tt) (λ e. cc)
own_id (foreign V) k f = universal_id 16 f (lit≤ tt) (λ e. cc)

class_id : (c : Class) (n : ℕ) (f : Bool) → IsTrue ((not (is_universal c) || nat_lt 0 n) && nat_le n 268_435_455) → HasIdentifier (record { class = c; number = n }) f
class_id Class.Universal n f h =
    let p = and_parts (nat_lt 0 n) (nat_le n 268_435_455) h in
    universal_id n f (let q : nat_le n 268_435_455 ≡ true = p.1 in grind (arith, q)) (λ e. let q : nat_lt 0 n ≡ true = p.0 in absurd (omega (arith, ltb-true 0 n q, e)))
class_id Class.Application n f h = record { number = let q : nat_le n 268_435_455 ≡ true = h in grind (arith, q); not_end = λ e _. cc }
class_id Class.Context n f h = record { number = let q : nat_le n 268_435_455 ≡ true = h in grind (arith, q); not_end = λ e _. cc }
class_id Class.Private n f h = record { number = let q : nat_le n 268_435_455 ≡ true = h in grind (arith, q); not_end = λ e _. cc }

pub element_id : (r : Option (Class × ℕ)) (node : NodeId) (c : Content) (f : Bool) → IsTrue (is_valid_tag r) → HasIdentifier (element_tag r (kind_of node) c) f
element_id None node c f h = own_id c (kind_of node) f
element_id (Some t) node c f h = class_id t.0 t.1 f h

all_valid : (node : NodeId) → IsTrue (list_all is_valid (rows_of node))
all_valid Boolean = refl
all_valid _ = refl

list_valid : (rows : List Row) (i : ℕ) → IsTrue (list_all is_valid rows) → IsTrue (is_valid_place (slice_get rows i))
list_valid [] i h = refl
list_valid (row ∷ rows) zero h = (and_parts _ _ h).0
list_valid (row ∷ rows) (suc i) h = list_valid rows i ((and_parts _ _ h).1)

-- the rows of the tables have tags with identifiers
pub place_valid : (node : NodeId) (i : ℕ) → IsTrue (is_valid_place (slice_get (rows_of node) i))
place_valid node i = list_valid (rows_of node) i (all_valid node)

pub row_valid : (node : NodeId) (i : ℕ) (row : Row) → Some row ≡ slice_get (rows_of node) i → IsTrue (is_valid row)
row_valid node i row e = subst (λ o. IsTrue (is_valid_place o)) (sym e) (place_valid node i)
