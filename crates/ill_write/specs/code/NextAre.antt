-- What comes next in a list.
use Rattle.std.specs.Prelude.{◌≡◌, ℕ, List, ◌++◌, length}

-- from this place on the list begins with these numbers
abbrev pub NextAre : List ℕ → ℕ → List ℕ → Type 0
NextAre all at next = (front : List ℕ) × (rest : List ℕ) × (all ≡ front ++ (next ++ rest)) × (length front ≡ at)
