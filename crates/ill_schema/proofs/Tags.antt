-- The tags by which the rows of the tables begin, and what they keep apart.
use Rattle.std.proofs.Common.{◌≡◌, ◌⊎◌, ℕ, zero, suc, Bool, true, false, not, ◌&&◌, ◌||◌, List, [], ◌∷◌, ◌++◌, Some, IsTrue, refl, ap, subst, inl, inr, arith, slice_get}
use Rattle.std.specs.Prelude.{flat_map}
use Rattle.std.specs.List.{list_all, list_any}
use Rattle.std.proofs.lemmas.Bool.{and_parts}
use Rattle.ber_tree.specs.Identifier.{Tag}
use Rattle.ill_tables.specs.declared.node.Kind.{Kind}
use Rattle.ill_tables.specs.declared.node.NodeId.{NodeId}
use Rattle.ill_tables.specs.declared.node.NodeId.TheVariants.{Boolean}
use Rattle.ill_tables.specs.declared.part.Row.{Row}
use Rattle.ber_leaf.specs.Profile.{Profile}
use Rattle.ill_schema.specs.Tagging.{Tagging, untagged, implicit, explicit, explicit_or_bare, tagging, sequence_tag, same_tag}
use Rattle.ill_schema.specs.Apdu.{root_of}
use Rattle.ill_tables.specs.Table.{kind_of, rows_of}
use Rattle.ill_schema.specs.TableFacts.{alternative_tags, row_tags, are_distinct, are_of_two, has_different_tags, is_of_two, names_below}

-- a tagging suits a kind: an open type is under an explicit tag
abbrev pub is_proper : Tagging → Kind → Bool
is_proper untagged Kind.Any = false
is_proper untagged kind = true
is_proper (explicit tag) kind = true
is_proper (explicit_or_bare tag) Kind.Seq = true
is_proper (explicit_or_bare tag) _ = false
is_proper (implicit tag) Kind.Choice = false
is_proper (implicit tag) Kind.IllString = false
is_proper (implicit tag) Kind.Any = false
is_proper (implicit tag) _ = true

abbrev pub is_proper_row : Profile → Row → Bool
is_proper_row p row = is_proper (tagging p row) (kind_of row.node)

abbrev pub is_tagged : Tagging → Bool
is_tagged untagged = false
is_tagged _ = true

-- the rows of a sequence begin by different tags, none of them SEQUENCE's
abbrev pub are_good : Profile → Kind → List Row → Bool
are_good p Kind.Seq rows = not (list_any (same_tag sequence_tag) (flat_map (row_tags p) rows)) && are_distinct (flat_map (row_tags p) rows)
are_good p Kind.Choice rows = list_all (λ row. is_tagged (tagging p row)) rows && are_distinct (flat_map (alternative_tags p) rows)
are_good p _ rows = true

at_good : (f : ℕ → Bool) (b : Bool) (l : ℕ) (full : Bool) (node : NodeId) → IsTrue (are_good (record { general = f; bare = b; limit = l; full = full }) (kind_of node) (rows_of node))
at_good f true l full Boolean = refl
at_good f true l full _ = refl
at_good f false l full Boolean = refl
at_good f false l full _ = refl

pub tables_good : (p : Profile) (node : NodeId) → IsTrue (are_good p (kind_of node) (rows_of node))
tables_good p node = at_good p.general p.bare p.limit p.full node

at_proper : (f : ℕ → Bool) (b : Bool) (l : ℕ) (full : Bool) (node : NodeId) → IsTrue (list_all (is_proper_row (record { general = f; bare = b; limit = l; full = full })) (rows_of node))
at_proper f true l full Boolean = refl
at_proper f true l full _ = refl
at_proper f false l full Boolean = refl
at_proper f false l full _ = refl

pub tables_proper : (p : Profile) (node : NodeId) → IsTrue (list_all (is_proper_row p) (rows_of node))
tables_proper p node = at_proper p.general p.bare p.limit p.full node

-- a message's type is a choice
pub root_choice : (full : Bool) → kind_of (root_of full) ≡ Kind.Choice
root_choice false = refl
root_choice true = refl

pub root_untagged : (full : Bool) → IsTrue (is_proper untagged (kind_of (root_of full)))
root_untagged false = refl
root_untagged true = refl

-- membership and difference
abbrev pub Mem : Tag → List Tag → Type 0
Mem t [] = ⊥
Mem t (x ∷ xs) = (t ≡ x) ⊎ Mem t xs

abbrev pub Distinct : List Tag → Type 0
Distinct [] = Unit {0}
Distinct (x ∷ xs) = (Mem x xs → ⊥) × Distinct xs

pub same_tag-refl : (t : Tag) → same_tag t t ≡ true
same_tag-refl t = grind arith

mem_any : (t : Tag) (xs : List Tag) → Mem t xs → list_any (same_tag t) xs ≡ true
mem_any t [] h = absurd h
mem_any t (x ∷ xs) (inl e) = subst (λ y. same_tag t y || list_any (same_tag t) xs ≡ true) e (rw (same_tag-refl t) refl)
mem_any t (x ∷ xs) (inr m) = rw (mem_any t xs m) (or_true (same_tag t x))
  where
    or_true : (a : Bool) → a || true ≡ true
    or_true true = refl
    or_true false = refl

not_both : (a : Bool) → IsTrue (not a) → a ≡ true → ⊥
not_both true h e = cc
not_both false h e = cc

pub not_mem : (t : Tag) (xs : List Tag) → IsTrue (not (list_any (same_tag t) xs)) → Mem t xs → ⊥
not_mem t xs h m = not_both (list_any (same_tag t) xs) h (mem_any t xs m)

pub distinct : (xs : List Tag) → IsTrue (are_distinct xs) → Distinct xs
distinct [] h = tt
distinct (x ∷ xs) h = let p = and_parts (not (list_any (same_tag x) xs)) (are_distinct xs) h in (not_mem x xs p.0, distinct xs p.1)

pub mem-left : (t : Tag) (xs ys : List Tag) → Mem t xs → Mem t (xs ++ ys)
mem-left t [] ys m = absurd m
mem-left t (x ∷ xs) ys (inl e) = inl e
mem-left t (x ∷ xs) ys (inr m) = inr (mem-left t xs ys m)

pub mem-right : (t : Tag) (xs ys : List Tag) → Mem t ys → Mem t (xs ++ ys)
mem-right t [] ys m = m
mem-right t (x ∷ xs) ys m = inr (mem-right t xs ys m)

pub distinct-right : (xs ys : List Tag) → Distinct (xs ++ ys) → Distinct ys
distinct-right [] ys d = d
distinct-right (x ∷ xs) ys d = distinct-right xs ys d.1

pub disjoint : (t : Tag) (xs ys : List Tag) → Distinct (xs ++ ys) → Mem t xs → Mem t ys → ⊥
disjoint t [] ys d m n = m
disjoint t (x ∷ xs) ys d (inl e) n = d.0 (subst (λ y. Mem y (xs ++ ys)) e (mem-right t xs ys n))
disjoint t (x ∷ xs) ys d (inr m) n = disjoint t xs ys d.1 m n

-- the row of a place begins by one of the tags of all rows
pub mem-rows : (f : Row → List Tag) (t : Tag) (rows : List Row) (n : ℕ) (row : Row) → slice_get rows n ≡ Some row → Mem t (f row) → Mem t (flat_map f rows)
mem-rows f t [] n row e m = absurd cc
mem-rows f t (r ∷ rows) zero row e m = mem-left t (f r) (flat_map f rows) (let h : row ≡ r = cc in subst (λ y. Mem t (f y)) h m)
mem-rows f t (r ∷ rows) (suc n) row e m = mem-right t (f r) (flat_map f rows) (mem-rows f t rows n row e m)

-- two rows that begin by one tag are at one place
pub same_place : (f : Row → List Tag) (t : Tag) (rows : List Row) (m n : ℕ) (q r : Row) → Distinct (flat_map f rows)
    → slice_get rows m ≡ Some q → slice_get rows n ≡ Some r → Mem t (f q) → Mem t (f r) → (m ≡ n) × (q ≡ r)
same_place f t [] m n q r d e g x y = absurd cc
same_place f t (s ∷ rows) zero zero q r d e g x y = (refl, cc)
same_place f t (s ∷ rows) zero (suc n) q r d e g x y =
    let h : q ≡ s = cc in absurd (disjoint t (f s) (flat_map f rows) d (subst (λ z. Mem t (f z)) h x) (mem-rows f t rows n r g y))
same_place f t (s ∷ rows) (suc m) zero q r d e g x y =
    let h : r ≡ s = cc in absurd (disjoint t (f s) (flat_map f rows) d (subst (λ z. Mem t (f z)) h y) (mem-rows f t rows m q e x))
same_place f t (s ∷ rows) (suc m) (suc n) q r d e g x y =
    let u = same_place f t rows m n q r (distinct-right (f s) (flat_map f rows) d) e g x y in (ap suc u.0, u.1)

-- what each of a list has, as the rows of a table
pub at_row : {A : Type 0} (test : A → Bool) (rows : List A) (n : ℕ) (row : A) → IsTrue (list_all test rows) → slice_get rows n ≡ Some row → IsTrue (test row)
at_row test [] n row h e = absurd cc
at_row test (r ∷ rows) zero row h e = let g : r ≡ row = cc in subst (λ y. IsTrue (test y)) g ((and_parts (test r) (list_all test rows) h).0)
at_row test (r ∷ rows) (suc n) row h e = at_row test rows n row ((and_parts (test r) (list_all test rows) h).1) e

-- an untagged row, and one under an implicit tag, is of no open type
pub untagged_any : (k : Kind) → IsTrue (is_proper untagged k) → k ≡ Kind.Any → ⊥
untagged_any k ok e = let q : IsTrue (is_proper untagged Kind.Any) = subst (λ z. IsTrue (is_proper untagged z)) e ok in cc

pub implicit_any : (t : Tag) (k : Kind) → IsTrue (is_proper (implicit t) k) → k ≡ Kind.Any → ⊥
implicit_any t k ok e = let q : IsTrue (is_proper (implicit t) Kind.Any) = subst (λ z. IsTrue (is_proper (implicit t) z)) e ok in cc

-- the rows of profile 2's nodes are of such nodes
abbrev unless : Bool → Bool → Bool
unless true b = b
unless false b = true

two_names_two : (node : NodeId) → IsTrue (unless (is_of_two node) (are_of_two (rows_of node)))
two_names_two Boolean = refl
two_names_two _ = refl

pub rows_of_two : (node : NodeId) → IsTrue (is_of_two node) → IsTrue (are_of_two (rows_of node))
rows_of_two node h = at (is_of_two node) (are_of_two (rows_of node)) h (two_names_two node)
  where
    at : (a b : Bool) → IsTrue a → IsTrue (unless a b) → IsTrue b
    at true b h k = k
    at false b h k = absurd cc

pub row_of_two : (node : NodeId) (n : ℕ) (row : Row) → IsTrue (is_of_two node) → slice_get (rows_of node) n ≡ Some row → IsTrue (is_of_two row.node)
row_of_two node n row h e = at_row (λ r. is_of_two r.node) (rows_of node) n row (rows_of_two node h) e

-- and none of them is an open type
abbrev is_any : Kind → Bool
is_any Kind.Any = true
is_any _ = false

any_not_two : (node : NodeId) → IsTrue (not (is_of_two node && is_any (kind_of node)))
any_not_two Boolean = refl
any_not_two _ = refl

pub two_not_any : (node : NodeId) → IsTrue (is_of_two node) → kind_of node ≡ Kind.Any → ⊥
two_not_any node h e = at (is_of_two node) (is_any (kind_of node)) h (ap is_any e) (any_not_two node)
  where
    at : (a b : Bool) → IsTrue a → b ≡ true → IsTrue (not (a && b)) → ⊥
    at true true h k n = cc
    at true false h k n = absurd cc
    at false b h k n = absurd cc

different_at : (f : ℕ → Bool) (b : Bool) (l : ℕ) (full : Bool) (node : NodeId) → IsTrue (has_different_tags (record { general = f; bare = b; limit = l; full = full }) node)
different_at f true l full Boolean = refl
different_at f true l full _ = refl
different_at f false l full Boolean = refl
different_at f false l full _ = refl

pub tags_differ : (p : Profile) (node : NodeId) → IsTrue (has_different_tags p node)
tags_differ p node = different_at p.general p.bare p.limit p.full node

pub rows_name_below : (node : NodeId) → IsTrue (names_below node)
rows_name_below Boolean = refl
rows_name_below _ = refl
