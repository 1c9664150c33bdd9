-- The names of a type's rows: each is there once, and finds its row.
use Rattle.std.proofs.Common.{◌≡◌, ℕ, zero, suc, ◌<◌, Bool, true, false, IsTrue, List, [], ◌∷◌, length, get_or, Some, None, cond, refl, sym, ap, subst, ◌∙◌, arith, slice_get}
use Rattle.std.specs.Prelude.{nat_lt}
use Rattle.std.specs.List.{list_all, position, position_or_len}
use Rattle.std.specs.Str.{bytes_eq}
use Rattle.std.proofs.lemmas.Bool.Decides.{nat_tests}
use Rattle.std.proofs.lemmas.List.Quantifiers.{position-Some}
use Rattle.std.proofs.lemmas.List.Sums.{position_or_len_is}
use Rattle.std.proofs.lemmas.Option.{get_or_from_slice_get, slice_get-get_or, slice_get_within}
use Rattle.std.proofs.lemmas.Slice.Eq.{bytes_eq-Decides}
use Rattle.ill_tables.specs.Names.{name_or_none, names_of, row_name}
use Rattle.ill_tables.specs.Table.{rows_of}
use Rattle.ill_tables.specs.declared.node.NodeId.{NodeId}
use Rattle.ill_tables.specs.declared.node.NodeId.TheVariants.{Boolean, TaggedExternal}
use Rattle.ill_tables.specs.declared.part.Row.{Row}
use Rattle.ill_tables.proofs.DistinctNames.{all_new, name_at, name_once, names_enough, names_new, same_bytes}
use Rattle.ill_build.specs.Members.{place_of}

-- where a row has the empty name, it is the only one
abbrev pub is_named : List ℕ → Bool
is_named [] = false
is_named (letter ∷ name) = true

pub all_named : (names : List (List ℕ)) (i : ℕ) → IsTrue (list_all is_named names) → slice_get names i ≡ Some [] → ⊥
all_named [] i h e = absurd cc
all_named ([] ∷ names) i h e = absurd cc
all_named ((x ∷ name) ∷ names) zero h e = absurd cc
all_named ((x ∷ name) ∷ names) (suc i) h e = all_named names i h e

-- ---- the place of a name

not_same : (x y : List ℕ) → (x ≡ y → ⊥) → bytes_eq x y ≡ false
not_same x y differ = by (bytes_eq x y) refl
  where
    by : (b : Bool) → bytes_eq x y ≡ b → bytes_eq x y ≡ false
    by false e = e
    by true e = absurd (differ ((bytes_eq-Decides x y).0 e))

first_place : (names : List (List ℕ)) (x : List ℕ) (i : ℕ) → IsTrue (all_new names) → slice_get names i ≡ Some x → position (bytes_eq x) names ≡ Some i
first_place names x i new at =
    let within : i < length names = slice_get_within names i x at in
    let here : get_or names i [] ≡ x = get_or_from_slice_get names i x [] at in
    let earlier : (k : ℕ) → k < i → bytes_eq x (get_or names k []) ≡ false = λ k lt.
    not_same x (get_or names k []) (λ same.
    let there : slice_get names k ≡ Some x = slice_get-get_or names k [] (omega (arith, lt, within)) ∙ ap (λ (y : List ℕ). Some y) (sym same) in
    absurd (omega (arith, lt, name_once names k i x new there at))) in
    let place : position_or_len (bytes_eq x) names ≡ i = position_or_len_is (bytes_eq x) names i [] (omega (arith, within)) earlier (λ lt. subst (λ y. bytes_eq x y ≡ true) (sym here) (same_bytes x)) in
    let below : nat_lt i (length names) ≡ true = grind (arith, nat_tests) in
    ap (λ n. cond (nat_lt n (length names)) (Some n) None) place ∙ ap (λ b. cond b (Some i) None) below

-- a row is found by its name
pub row_place : (node : NodeId) (i : ℕ) (row : Row) → slice_get (rows_of node) i ≡ Some row → place_of node (row_name node i) ≡ Some i
row_place node i row at = first_place (names_of node).1 (row_name node i) i (names_new node) (name_at (names_of node).1 (rows_of node) i row (names_enough node) at)

found_name : (names : List (List ℕ)) (i : ℕ) (x : List ℕ) → i < length names → bytes_eq x (get_or names i []) ≡ true → name_or_none (slice_get names i) ≡ x
found_name names i x within same = ap name_or_none (slice_get-get_or names i [] within) ∙ sym ((bytes_eq-Decides x (get_or names i [])).0 same)

-- what is found by a name has it
pub place_name : (node : NodeId) (name : List ℕ) (i : ℕ) → place_of node name ≡ Some i → row_name node i ≡ name
place_name node name i at =
    let p = position-Some (bytes_eq name) (names_of node).1 i [] at in
    found_name (names_of node).1 i name p.0 p.1

-- but for the tag of an EXTERNAL, each row has a name
pub are_named : (node : NodeId) → (node ≡ TaggedExternal → ⊥) → IsTrue (list_all is_named (names_of node).1)
are_named TaggedExternal h = absurd (h refl)
are_named Boolean h = refl
are_named _ h = refl

pub row_named : (node : NodeId) (n : ℕ) (row : Row) → (node ≡ TaggedExternal → ⊥) → slice_get (rows_of node) n ≡ Some row → row_name node n ≡ [] → ⊥
row_named node n row other at none =
    all_named (names_of node).1 n (are_named node other) (name_at (names_of node).1 (rows_of node) n row (names_enough node) at ∙ ap (λ (x : List ℕ). Some x) none)
