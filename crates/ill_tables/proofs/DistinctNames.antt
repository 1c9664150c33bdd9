-- The names of a type's rows: each is there once, and there are as many as rows.
use Rattle.std.proofs.Common.{◌≡◌, ℕ, zero, suc, ◌≤◌, Bool, true, false, not, ◌&&◌, ◌||◌, IsTrue, List, [], ◌∷◌, length, Some, refl, sym, ap, subst, ◌∙◌, arith, slice_get}
use Rattle.std.specs.Prelude.{nat_le}
use Rattle.std.specs.List.{list_any}
use Rattle.std.specs.Str.{bytes_eq}
use Rattle.std.proofs.lemmas.Bool.{and_parts}
use Rattle.std.proofs.lemmas.Bool.Decides.{nat_tests}
use Rattle.std.proofs.lemmas.Slice.Eq.{bytes_eq-Decides}
use Rattle.ill_tables.specs.Names.{name_or_none, names_of, row_name}
use Rattle.ill_tables.specs.Table.{rows_of}
use Rattle.ill_tables.specs.declared.node.NodeId.{NodeId}
use Rattle.ill_tables.specs.declared.node.NodeId.TheVariants.{Boolean}
use Rattle.ill_tables.specs.declared.part.Row.{Row}

-- no name comes twice
abbrev pub all_new : List (List ℕ) → Bool
all_new [] = true
all_new (name ∷ names) = not (list_any (bytes_eq name) names) && all_new names

-- nor among those of a type
pub names_new : (node : NodeId) → IsTrue (all_new (names_of node).1)
names_new Boolean = refl
names_new _ = refl

pub names_enough : (node : NodeId) → IsTrue (nat_le (length (rows_of node)) (length (names_of node).1))
names_enough Boolean = refl
names_enough _ = refl

pub same_bytes : (x : List ℕ) → bytes_eq x x ≡ true
same_bytes x = (bytes_eq-Decides x x).1 refl

pub any_at : (x : List ℕ) (names : List (List ℕ)) (i : ℕ) → slice_get names i ≡ Some x → list_any (bytes_eq x) names ≡ true
any_at x [] i e = absurd cc
any_at x (n ∷ names) zero e = let q : x ≡ n = cc in subst (λ y. bytes_eq x y || list_any (bytes_eq x) names ≡ true) q (rw (same_bytes x) refl)
any_at x (n ∷ names) (suc i) e = rw (any_at x names i e) (or_true (bytes_eq x n))
  where
    or_true : (a : Bool) → (a || true) ≡ true
    or_true true = refl
    or_true false = refl

not_new : (x : List ℕ) (names : List (List ℕ)) (i : ℕ) → IsTrue (all_new (x ∷ names)) → slice_get names i ≡ Some x → ⊥
not_new x names i h e =
    let p = (and_parts (not (list_any (bytes_eq x) names)) (all_new names) h).0 in
    absurd (let q : IsTrue (not true) = subst (λ (b : Bool). IsTrue (not b)) (any_at x names i e) p in cc)

-- a name has one place
pub name_once : (names : List (List ℕ)) (i j : ℕ) (x : List ℕ) → IsTrue (all_new names) → slice_get names i ≡ Some x → slice_get names j ≡ Some x → i ≡ j
name_once [] i j x h e f = absurd cc
name_once (n ∷ names) zero zero x h e f = refl
name_once (n ∷ names) zero (suc j) x h e f = let q : x ≡ n = cc in absurd (not_new n names j h (f ∙ ap (λ (y : List ℕ). Some y) q))
name_once (n ∷ names) (suc i) zero x h e f = let q : x ≡ n = cc in absurd (not_new n names i h (e ∙ ap (λ (y : List ℕ). Some y) q))
name_once (n ∷ names) (suc i) (suc j) x h e f = ap (λ (k : ℕ). suc k) (name_once names i j x (and_parts (not (list_any (bytes_eq n) names)) (all_new names) h).1 e f)

enough_after : (m n : ℕ) → IsTrue (nat_le (suc m) (suc n)) → IsTrue (nat_le m n)
enough_after m n h = grind (arith, nat_tests)

-- a row has a name
pub name_at : (names : List (List ℕ)) (rows : List Row) (i : ℕ) (row : Row) → IsTrue (nat_le (length rows) (length names)) → slice_get rows i ≡ Some row → slice_get names i ≡ Some (name_or_none (slice_get names i))
name_at names [] i row h e = absurd cc
name_at [] (r ∷ rows) i row h e = absurd (let q : length (r ∷ rows) ≤ 0 = grind (arith, nat_tests) in omega (arith, q))
name_at (n ∷ names) (r ∷ rows) zero row h e = refl
name_at (n ∷ names) (r ∷ rows) (suc i) row h e = name_at names rows i row (enough_after (length rows) (length names) h) e

-- and no other row has it
pub row_once : (node : NodeId) (i j : ℕ) (r s : Row) → slice_get (rows_of node) i ≡ Some r → slice_get (rows_of node) j ≡ Some s → row_name node i ≡ row_name node j → i ≡ j
row_once node i j r s h k e =
    name_once (names_of node).1 i j (row_name node i) (names_new node) (name_at (names_of node).1 (rows_of node) i r (names_enough node) h)
    (name_at (names_of node).1 (rows_of node) j s (names_enough node) k ∙ ap (λ (x : List ℕ). Some x) (sym e))
