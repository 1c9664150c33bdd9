-- The octets before a bound.
use Rattle.std.proofs.Common.{◌≡◌, ◌++◌, ◌∙◌, ℕ, List, drop, take, sym, ap, take-append-drop}

-- what is left is these and those after them
pub window_joined : (room : ℕ) (rest window : List ℕ) → window ≡ take room rest → rest ≡ window ++ drop room rest
window_joined room rest window is = sym (ap (λ x. x ++ drop room rest) is ∙ take-append-drop room rest)
