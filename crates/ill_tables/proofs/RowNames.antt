-- Each row has a name, and each name a row.
use Rattle.std.proofs.Common.{◌≡◌, ℕ, zero, suc, ◌<◌, ◌≤◌, true, false, nat_lt, List, [], ◌∷◌, length, IsSome, refl, sym, arith, slice_get, ltb-true, ltb-false}
use Rattle.ill_tables.specs.declared.node.NodeId.{NodeId}
use Rattle.ill_tables.specs.declared.node.NodeId.TheVariants.{Boolean}
use Rattle.ill_tables.specs.declared.part.Row.{Row}
use Rattle.ill_tables.specs.Names.{names_of}
use Rattle.ill_tables.specs.Table.{rows_of}

as_many : (node : NodeId) → length (names_of node).1 ≡ length (rows_of node)
as_many Boolean = refl
as_many _ = refl

within : (rows : List Row) (i : ℕ) → i < length rows → IsSome (slice_get rows i)
within [] i h = absurd (omega (arith, h))
within (row ∷ rows) zero h = refl
within (row ∷ rows) (suc i) h = within rows i (omega (arith, h))

past : (rows : List Row) (i : ℕ) → length rows ≤ i → IsSome (slice_get rows i) → ⊥
past [] i h e = cc
past (row ∷ rows) zero h e = absurd (omega (arith, h))
past (row ∷ rows) (suc i) h e = past rows i (omega (arith, h)) e

pub named_row : (node : NodeId) (n i : ℕ) → n ≡ length (names_of node).1 → true ≡ nat_lt i n → IsSome (slice_get (rows_of node) i)
named_row node n i e h = let many = as_many node in let lt = ltb-true i n (sym h) in within (rows_of node) i (omega (arith, many, e, lt))

pub no_named_row : (node : NodeId) (n i : ℕ) → n ≡ length (names_of node).1 → false ≡ nat_lt i n → IsSome (slice_get (rows_of node) i) → ⊥
no_named_row node n i e h = let many = as_many node in let le = ltb-false i n (sym h) in past (rows_of node) i (omega (arith, many, e, le))
