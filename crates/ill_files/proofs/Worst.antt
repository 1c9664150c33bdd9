-- The status of several files, file by file.
use Rattle.std.proofs.Common.{◌≡◌, ◌==◌, ◌||◌, ℕ, Bool, true, false, List, [], ◌∷◌, ◌++◌, refl, sym, ap, ap₂, ◌∙◌, if◌then◌else◌}
use Rattle.std.specs.List.{list_any}
use Rattle.ill_files.specs.Status.{worst}

abbrev worst_by : Bool → Bool → ℕ
worst_by three one = if three then 3 else (if one then 1 else 0)

any_more : (n : ℕ) (statuses : List ℕ) (s : ℕ) → list_any (λ x. x == n) (statuses ++ s ∷ []) ≡ (list_any (λ x. x == n) statuses || ((s == n) || false))
any_more n [] s = refl
any_more n (x ∷ statuses) s = ap (λ (b : Bool). (x == n) || b) (any_more n statuses s) ∙ regroup (x == n) (list_any (λ x. x == n) statuses) ((s == n) || false)
  where
    regroup : (a b d : Bool) → (a || (b || d)) ≡ ((a || b) || d)
    regroup true b d = refl
    regroup false b d = refl

step : (three one : Bool) (s : ℕ) → worst (worst_by three one ∷ s ∷ []) ≡ worst_by (three || ((s == 3) || false)) (one || ((s == 1) || false))
step true one s = refl
step false true s = refl
step false false s = refl

-- one status more
pub worst_more : (statuses : List ℕ) (s : ℕ) → worst (worst statuses ∷ s ∷ []) ≡ worst (statuses ++ s ∷ [])
worst_more statuses s =
    step (list_any (λ x. x == 3) statuses) (list_any (λ x. x == 1) statuses) s ∙ ap₂ worst_by (sym (any_more 3 statuses s)) (sym (any_more 1 statuses s))
