-- The names of numbers: in a type each number has one name, and each name is of one number.
use Rattle.std.proofs.Common.{◌≡◌, ℕ, zero, suc, ℤ, pos, Bool, true, false, not, ◌&&◌, ◌||◌, if◌then◌else◌, IsTrue, List, [], ◌∷◌, map, Option, Some, None, refl, sym, ap, ◌∙◌, slice_get}
use Rattle.std.specs.List.{list_all, list_any}
use Rattle.std.specs.Ordering.{int_eq}
use Rattle.std.proofs.lemmas.Bool.{and_parts}
use Rattle.std.proofs.lemmas.Bool.Decides.{Decides-int_eq}
use Rattle.ill_tables.proofs.DistinctNames.{all_new, name_once}
use Rattle.ill_tables.specs.Names.{name_or_none}
use Rattle.ill_tables.specs.Numbers.{Named, enumeration_of, name_in, number_name, number_names, numbers_in, numbers_of}
use Rattle.ill_tables.specs.declared.number.Enumeration.{Enumeration}
use Rattle.ill_tables.specs.declared.number.Enumeration.TheVariants.{Conditions}

-- what holds of the numbers of each type holds of those of each row
at_each : (P : Named → Type 0) → P [] → ((type : Enumeration) → P (numbers_of type)) → (row : List ℕ) → P (number_names row)
unfolding number_names
at_each P none some row = by (enumeration_of row)
  where
    by : (o : Option Enumeration) → P (numbers_in o)
    by None = none
    by (Some type) = some type

-- what each of these names has, the name of a number has
name_has : (p : List ℕ → Bool) (ns : Named) (n : ℤ) → p [] ≡ true → list_all (λ m. p m.1) ns ≡ true → p (name_or_none (name_in n ns)) ≡ true
name_has p [] n none all = none
name_has p (m ∷ ns) n none all = by (int_eq m.0 n) (name_has p ns n none (and_parts (p m.1) _ all).1)
  where
    by : (b : Bool) → p (name_or_none (name_in n ns)) ≡ true → p (name_or_none (if b then Some m.1 else name_in n ns)) ≡ true
    by true rest = (and_parts (p m.1) _ all).0
    by false rest = rest

pub number_name_has : (p : List ℕ → Bool) → p [] ≡ true → ((type : Enumeration) → list_all (λ m. p m.1) (numbers_of type) ≡ true) → (row : List ℕ) (n : ℤ) → p (name_or_none (number_name row n)) ≡ true
unfolding number_name
number_name_has p none all row n = name_has p (number_names row) n none (at_each (λ ns. list_all (λ m. p m.1) ns ≡ true) refl all row)

-- no number comes twice
abbrev numbers_new : Named → Bool
numbers_new [] = true
numbers_new (n ∷ ns) = not (list_any (λ m. int_eq n.0 m.0) ns) && numbers_new ns

-- nor a name
abbrev all_once : Named → Bool
all_once ns = numbers_new ns && all_new (map (λ n. n.1) ns)

type_once : (type : Enumeration) → IsTrue (all_once (numbers_of type))
type_once Conditions = refl
type_once _ = refl

row_numbers_once : (row : List ℕ) → IsTrue (all_once (number_names row))
row_numbers_once = at_each (λ ns. IsTrue (all_once ns)) refl type_once

same_number : (n : ℤ) → int_eq n n ≡ true
same_number n = (Decides-int_eq n n).1 refl

true_not_false : {P : Type 0} (b : Bool) → b ≡ true → IsTrue (not b) → P
true_not_false true e h = absurd cc
true_not_false false e h = absurd cc

-- a number at a place is found
number_at : (n : ℤ) (name : List ℕ) (ns : Named) (k : ℕ) → slice_get ns k ≡ Some (n, name) → list_any (λ m. int_eq n m.0) ns ≡ true
number_at n name [] k e = absurd cc
number_at n name (m ∷ ns) zero e = let q : m ≡ (n, name) = cc in rw (q, same_number n) refl
number_at n name (m ∷ ns) (suc k) e = rw (number_at n name ns k e) (or_true (int_eq n m.0))
  where
    or_true : (a : Bool) → (a || true) ≡ true
    or_true true = refl
    or_true false = refl

-- the name of a number is the one beside it
name_at : (ns : Named) (k : ℕ) (n : ℤ) (name : List ℕ) → IsTrue (numbers_new ns) → slice_get ns k ≡ Some (n, name) → name_in n ns ≡ Some name
name_at [] k n name h e = absurd cc
name_at (m ∷ ns) zero n name h e = let q : m ≡ (n, name) = cc in rw (q, same_number n) refl
name_at (m ∷ ns) (suc k) n name h e = by (int_eq m.0 n) refl (name_at ns k n name (and_parts _ _ h).1 e)
  where
    by : (b : Bool) → int_eq m.0 n ≡ b → name_in n ns ≡ Some name → (if b then Some m.1 else name_in n ns) ≡ Some name
    by true same rest =
        let q : n ≡ m.0 = sym ((Decides-int_eq m.0 n).0 same) in
        true_not_false _ (number_at m.0 name ns k (e ∙ ap (λ x. Some (x, name)) q)) (and_parts _ _ h).0
    by false other rest = rest

-- a name that a number has stands beside it
name_there : (ns : Named) (n : ℤ) (name : List ℕ) → name_in n ns ≡ Some name → (k : ℕ) × (slice_get ns k ≡ Some (n, name))
name_there [] n name e = absurd cc
name_there (m ∷ ns) n name e = by (int_eq m.0 n) refl e (name_there ns n name)
  where
    by : (b : Bool) → int_eq m.0 n ≡ b → (if b then Some m.1 else name_in n ns) ≡ Some name → (name_in n ns ≡ Some name → (k : ℕ) × (slice_get ns k ≡ Some (n, name)))
        → (k : ℕ) × (slice_get (m ∷ ns) k ≡ Some (n, name))
    by true same e later =
        let q : m.1 ≡ name = cc in
        (zero, ap (λ (x : ℤ). Some (x, m.1)) ((Decides-int_eq m.0 n).0 same) ∙ ap (λ (x : List ℕ). Some (n, x)) q)
    by false other e later = let rest = later e in (suc rest.0, rest.1)

get-map : (ns : Named) (k : ℕ) (n : ℤ) (name : List ℕ) → slice_get ns k ≡ Some (n, name) → slice_get (map (λ m. m.1) ns) k ≡ Some name
get-map [] k n name e = absurd cc
get-map (m ∷ ns) zero n name e = let q : m ≡ (n, name) = cc in ap (λ (x : ℤ × List ℕ). Some x.1) q
get-map (m ∷ ns) (suc k) n name e = get-map ns k n name e

abbrev number_of : Option (ℤ × List ℕ) → ℤ
number_of (Some n) = n.0
number_of None = pos 0

-- a name is of one number
name_once_in : (ns : Named) (y z : ℤ) (name : List ℕ) → IsTrue (all_once ns) → name_in y ns ≡ Some name → name_in z ns ≡ Some name → y ≡ z
name_once_in ns y z name h e f =
    let a = name_there ns y name e in
    let b = name_there ns z name f in
    let same = name_once (map (λ m. m.1) ns) a.0 b.0 name (and_parts (numbers_new ns) (all_new (map (λ m. m.1) ns)) h).1 (get-map ns a.0 y name a.1) (get-map ns b.0 z name b.1) in
    ap number_of (sym a.1 ∙ ap (slice_get ns) same ∙ b.1)

-- ---- rows

pub number_at_place : (row : List ℕ) (k : ℕ) (n : ℤ) (name : List ℕ) → slice_get (number_names row) k ≡ Some (n, name) → number_name row n ≡ Some name
unfolding number_name
number_at_place row k n name = name_at (number_names row) k n name (and_parts (numbers_new (number_names row)) _ (row_numbers_once row)).0

pub number_there : (row : List ℕ) (n : ℤ) (name : List ℕ) → number_name row n ≡ Some name → (k : ℕ) × (slice_get (number_names row) k ≡ Some (n, name))
unfolding number_name
number_there row = name_there (number_names row)

pub number_once : (row : List ℕ) (y z : ℤ) (name : List ℕ) → number_name row y ≡ Some name → number_name row z ≡ Some name → y ≡ z
unfolding number_name
number_once row y z name = name_once_in (number_names row) y z name (row_numbers_once row)
