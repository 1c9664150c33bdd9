-- How much of a source was taken.
use Rattle.std.specs.Prelude.{ℕ, ◌≤◌, List, length, Option}
use Rattle.std.specs.Io.KnownBytes.{Consumes}

-- of what was left, at most n octets were taken, the first ones
abbrev pub TakesAtMost : ℕ → Option (List ℕ) → Option (List ℕ) → Type 0
TakesAtMost n left left' = (octets : List ℕ) × Consumes left left' octets × (length octets ≤ n)
