-- The entries that are held, as rows are passed and values come and go.
use Rattle.std.proofs.Common.{◌≡◌, ℕ, zero, suc, ◌+◌, ◌≤◌, List, [], ◌∷◌, ◌++◌, length, take, drop, map, Option, Some, None, refl, sym, ap, ap₂, ◌∙◌, arith, slice_get, option_map, append_assoc, append-nil, length-append, min, subst, Global}
use Rattle.std.proofs.lemmas.List.{take_at, drop_at, map-append}
use Rattle.std.specs.Iterator.{Yields}
use Rattle.std.specs.Vec.Iter.{drain_items, drain_steps}
use Rattle.std.specs.declared.vec.Drain.{Drain}
use Rattle.ill_schema.specs.Content.{Content}
use Rattle.ill_schema.specs.Value.{content_of}
use Rattle.ill_tables.specs.declared.part.Row.{Row}
use Rattle.ill_schema.specs.declared.value.Value.{Value}
use Rattle.ill_read.specs.code.OpenValues.{HasAddedAbsent}
use Rattle.ill_grammar.specs.Contents.{absent_content}

abbrev pub somes : List (Option Value) → List Value
somes [] = []
somes (None ∷ es) = somes es
somes (Some v ∷ es) = v ∷ somes es

pub somes-some : (es : List (Option Value)) (v : Value) → somes (es ++ Some v ∷ []) ≡ somes es ++ v ∷ []
somes-some [] v = refl
somes-some (None ∷ es) v = somes-some es v
somes-some (Some w ∷ es) v = ap (λ vs. w ∷ vs) (somes-some es v)

pub somes-none : (es : List (Option Value)) → somes (es ++ None ∷ []) ≡ somes es
somes-none [] = refl
somes-none (None ∷ es) = somes-none es
somes-none (Some w ∷ es) = ap (λ vs. w ∷ vs) (somes-none es)

pub somes-all : (vs : List Value) → somes (map Some vs) ≡ vs
somes-all [] = refl
somes-all (v ∷ vs) = ap (λ ws. v ∷ ws) (somes-all vs)

pub drop-take-more : (from n : ℕ) (rows : List Row) (row : Row) → from ≤ n → slice_get rows n ≡ Some row → drop from (take (suc n) rows) ≡ drop from (take n rows) ++ row ∷ []
drop-take-more from n [] row h e = absurd cc
drop-take-more zero zero (r ∷ rows) row h e = let q : r ≡ row = cc in ap (λ x. x ∷ []) q
drop-take-more (suc from) zero (r ∷ rows) row h e = absurd (omega arith)
drop-take-more zero (suc n) (r ∷ rows) row h e = ap (λ xs. r ∷ xs) (drop-take-more zero n rows row (omega arith) e)
drop-take-more (suc from) (suc n) (r ∷ rows) row h e = drop-take-more from n rows row (omega arith) e

pub take-past : (n : ℕ) (rows : List Row) → slice_get rows n ≡ None → take (suc n) rows ≡ take n rows
take-past zero [] e = refl
take-past (suc n) [] e = refl
take-past zero (r ∷ rows) e = absurd cc
take-past (suc n) (r ∷ rows) e = ap (λ xs. r ∷ xs) (take-past n rows e)

-- one more row is passed
pub passed-more : (rows : List Row) (from n : ℕ) (row : Row) (entry : Option Value) (old mid new : List (Option Value)) → from ≤ n → slice_get rows n ≡ Some row
    → HasAddedAbsent (drop from (take n rows)) old mid → option_map content_of entry ≡ absent_content row → new ≡ mid ++ entry ∷ [] → HasAddedAbsent (drop from (take (n + 1) rows)) old new
passed-more rows from n row entry old mid new h is p e a =
    let s : n + 1 ≡ suc n = omega arith in
    let more : drop from (take (n + 1) rows) ≡ drop from (take n rows) ++ row ∷ [] = ap (λ i. drop from (take i rows)) s ∙ drop-take-more from n rows row h is in
    record {
      entries = p.entries ++ entry ∷ [];
      added = a ∙ ap (λ xs. xs ++ entry ∷ []) p.added ∙ append_assoc old p.entries (entry ∷ []);
      are = map-append (option_map content_of) p.entries (entry ∷ []) ∙ ap₂ (λ (xs : List (Option Content)) (x : Option Content). xs ++ x ∷ []) p.are e
          ∙ sym (map-append absent_content (drop from (take n rows)) (row ∷ [])) ∙ ap (map absent_content) (sym more);
    }

-- after the last row there is no row to pass
pub passed-past : (rows : List Row) (from n : ℕ) (old new : List (Option Value)) → slice_get rows n ≡ None → HasAddedAbsent (drop from (take n rows)) old new → HasAddedAbsent (drop from (take (n + 1) rows)) old new
passed-past rows from n old new is p =
    let s : suc n ≡ n + 1 = omega arith in
    subst (λ (rs : List Row). HasAddedAbsent (drop from rs) old new) (sym (take-past n rows is) ∙ ap (λ i. take i rows) s) p

-- what was drained is a front of what there was to drain
pub drained_front : (s : Drain (Option Value) Global) (es : List (Option Value)) (t : Drain (Option Value) Global) → Yields drain_steps s es t → drain_items s ≡ es ++ drain_items t
drained_front s [] t y = ap drain_items y
drained_front s (e ∷ es) t y = y.1.0 ∙ ap (λ xs. e ∷ xs) (drained_front y.0 es t y.2)

pub drained_all : (s : Drain (Option Value) Global) (es : List (Option Value)) (t : Drain (Option Value) Global) → Yields drain_steps s es t → drain_items t ≡ [] → es ≡ drain_items s
drained_all s es t y n = sym (append-nil es) ∙ ap (λ xs. es ++ xs) (sym n) ∙ sym (drained_front s es t y)

-- what is split off after n entries
pub split_held : (below held : List (Option Value)) (old : List (Option Value)) (contents_start m : ℕ) → old ≡ below ++ held → length below ≡ contents_start → m ≡ min contents_start (length old) → (take m old ≡ below) × (drop m old ≡ held)
split_held below held old contents_start m e n is =
    let len : length old ≡ length below + length held = ap length e ∙ length-append below held in
    let q : length below ≡ m = omega (arith, n, is, len) in
    (ap (take m) e ∙ take_at below held m q, ap (drop m) e ∙ drop_at below held m q)
