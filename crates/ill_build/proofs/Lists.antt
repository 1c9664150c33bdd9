-- Lists whose elements are seen as others, and their ends.
use Rattle.std.proofs.Common.{◌≡◌, ◌≤◌, ◌+◌, ℕ, zero, suc, Bool, ◌||◌, List, [], ◌∷◌, ◌++◌, length, take, drop, map, Some, None, refl, ap, ◌∙◌, arith, cond, not, slice_get, rules, reverse}
use Rattle.std.proofs.lemmas.List.{reverse-append}
use Rattle.std.specs.Borrow.{Bor}
use Rattle.std.specs.List.{list_any, position, prefix_len}
use Rattle.std.specs.Prelude.{nat_lt}
use Rattle.json.specs.Json.{number, string}
use Rattle.json.specs.Value.{value_view}
use Rattle.json.specs.declared.value.Value.{Number, String, the_lemmas}

pub any_seen : {A B : Type 0} (p : B → Bool) (f : A → B) (xs : List A) → list_any p (map f xs) ≡ list_any (λ x. p (f x)) xs
any_seen p f [] = refl
any_seen p f (x ∷ xs) = ap (λ b. p (f x) || b) (any_seen p f xs)

length-seen : {A B : Type 0} (f : A → B) (xs : List A) → length (map f xs) ≡ length xs
length-seen f [] = refl
length-seen f (x ∷ xs) = ap suc (length-seen f xs)

prefix_len-map : {A B : Type 0} (p : B → Bool) (f : A → B) (xs : List A) → prefix_len p (map f xs) ≡ prefix_len (λ x. p (f x)) xs
prefix_len-map p f [] = refl
prefix_len-map p f (x ∷ xs) = ap (λ n. cond (p (f x)) (1 + n) 0) (prefix_len-map p f xs)

pub position-map : {A B : Type 0} (p : B → Bool) (f : A → B) (xs : List A) → position p (map f xs) ≡ position (λ x. p (f x)) xs
position-map p f xs =
    ap (λ n. cond (nat_lt n (length (map f xs))) (Some n) None) (prefix_len-map (λ b. not (p b)) f xs) ∙ ap (λ m. cond (nat_lt (prefix_len (λ x. not (p (f x))) xs) m) (Some (prefix_len (λ x. not (p (f x))) xs)) None) (length-seen f xs)

-- what stands at an index begins the list from there on
pub drop_at : {A : Type 0} (xs : List A) (k : ℕ) (x : A) → slice_get xs k ≡ Some x → drop k xs ≡ x ∷ drop (suc k) xs
drop_at [] k x e = absurd cc
drop_at (y ∷ xs) zero x e = let q : y ≡ x = cc in ap (λ z. z ∷ xs) q
drop_at (y ∷ xs) (suc k) x e = drop_at xs k x e

pub past : {A : Type 0} (xs : List A) (n : ℕ) → length xs ≤ n → drop n xs ≡ []
past [] zero h = refl
past [] (suc n) h = refl
past (x ∷ xs) zero h = absurd (omega (arith, h))
past (x ∷ xs) (suc n) h = past xs n (omega (arith, h))

-- one element more is seen
pub seen_more : {A B : Type 0} (f : A → B) (xs : List A) (k : ℕ) (x : A) → slice_get xs k ≡ Some x → map f (take (suc k) xs) ≡ map f (take k xs) ++ f x ∷ []
seen_more f [] k x e = absurd cc
seen_more f (y ∷ xs) zero x e = let q : y ≡ x = cc in ap (λ z. f z ∷ []) q
seen_more f (y ∷ xs) (suc k) x e = ap (λ ys. f y ∷ ys) (seen_more f xs k x e)

-- an element behind others comes first in the reversed list
pub reversed_last : {A B : Type 0} (f : A → B) (xs : List A) (x : A) → map f (reverse (xs ++ x ∷ [])) ≡ f x ∷ map f (reverse xs)
reversed_last f xs x = ap (map f) (reverse-append xs (x ∷ []))

-- numbers and strings, as the value that is seen
pub view-Number : (A : Type 0) (t : Bor (List ℕ)) → value_view {A = A} (Number t) ≡ number t.now
view-Number A t = search (rules, the_lemmas)

pub view-String : (A : Type 0) (t : Bor (List ℕ)) → value_view {A = A} (String t) ≡ string t.now
view-String A t = search (rules, the_lemmas)
