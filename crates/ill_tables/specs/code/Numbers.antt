-- What the code's tables of numbers hold.
use Rattle.std.specs.Prelude.{ℕ, ℤ, List}
use Rattle.std.specs.Borrow.{Bor}

-- a number and its name
abbrev pub named : ℤ × Bor (List ℕ) → ℤ × List ℕ
named n = (n.0, n.1.now)
