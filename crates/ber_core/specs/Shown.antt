-- Octets that a source shows before they are taken.
use Rattle.std.specs.Prelude.{◌≡◌, ℕ, ◌<◌, List, Option, Some, IfSome, drop}

-- the first `count` octets of what is left are taken
abbrev pub Drops : Option (List ℕ) → Option (List ℕ) → ℕ → Type 0
Drops left left' count = IfSome left (λ octets. left' ≡ Some (drop count octets))

-- fewer than `count` of them are
abbrev pub DropsFewer : Option (List ℕ) → Option (List ℕ) → ℕ → Type 0
DropsFewer left left' count = (n : ℕ) × (n < count) × Drops left left' n
