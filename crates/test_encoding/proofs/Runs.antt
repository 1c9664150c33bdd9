-- Runs of octets that come one after another.
use Rattle.std.proofs.Common.{◌≡◌, ℕ, List, ◌++◌, length, take, Option, Some, None, sym, ap, ◌∙◌, subst, arith}
use Rattle.std.specs.Io.KnownBytes.{Consumes}
use Rattle.std.proofs.lemmas.List.{take_all}

-- three runs are the front of what was known
three_runs : (old a b new : Option (List ℕ)) (xs p q r : List ℕ) → old ≡ Some xs → Consumes old a p → Consumes a b q → Consumes b new r
    → (rest : List ℕ) × (xs ≡ p ++ (q ++ (r ++ rest)))
three_runs None a b new xs p q r e f g h = cc
three_runs (Some o) None b new xs p q r e f g h = absurd f
three_runs (Some o) (Some s) None new xs p q r e f g h = absurd g
three_runs (Some o) (Some s) (Some t) None xs p q r e f g h = absurd h
three_runs (Some o) (Some s) (Some t) (Some u) xs p q r e f g h =
    let i : o ≡ xs = cc in
    let j : s ≡ q ++ t = g in
    let k : t ≡ r ++ u = h in
    let l : o ≡ p ++ s = f in
    (u, cc)

-- what is shown as a whole is what is passed
pub shown_runs : (old a b new : Option (List ℕ)) (xs p q r hand : List ℕ) (count : ℕ) → old ≡ Some xs → q ≡ hand → count ≡ length hand
    → Consumes old a p → Consumes a b (take count hand) → Consumes b new r → (rest : List ℕ) × (xs ≡ p ++ (q ++ (r ++ rest)))
shown_runs old a b new xs p q r hand count e s l f g h =
    let whole : take count hand ≡ q = ap (λ n. take n hand) l ∙ take_all (length hand) hand (omega arith) ∙ sym s in
    three_runs old a b new xs p q r e f (subst (λ bs. Consumes a b bs) whole g) h
