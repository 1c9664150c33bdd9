-- How many elements are open at a place.
use Rattle.std.proofs.Common.{ℕ, ◌≤◌, List, [], ◌∷◌, length, take, arith}
use Rattle.ber_leaf.specs.Profile.{Profile}
use Rattle.ill_refusals.specs.Outcome.{FewAreOpen}
use Rattle.ill_refusals.specs.Place.{Open, IsPlace}

few_at : (p : Profile) (u : List ℕ) (path : List Open) → IsPlace p u path → length path ≤ 32
few_at p u [] h = omega arith
few_at p u (o ∷ path) h = let near = h.4.shallow in omega (arith, near)

pub few_open : (p : Profile) → FewAreOpen p
few_open p s k path due = few_at p (take k s) path due.1
