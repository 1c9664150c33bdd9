-- What a call does to its source and to its sink.
use Rattle.std.specs.Prelude.{ℕ, Bool, List, Option}

-- a source, over a call: what is left before and after it, where the source reports it, and whether the source is broken after it
pub record Taking : Type 0 where
  pub left : Option (List ℕ)
  pub left' : Option (List ℕ)
  pub broken : Bool

abbrev pub taking : Option (List ℕ) → Option (List ℕ) → Bool → Taking
taking left left' broken = record { left = left; left' = left'; broken = broken }

-- a sink, over a call: what it holds before and after it, where the sink reports it, and whether the sink is broken after it
pub record Putting : Type 0 where
  pub held : Option (List ℕ)
  pub held' : Option (List ℕ)
  pub broken : Bool

abbrev pub putting : Option (List ℕ) → Option (List ℕ) → Bool → Putting
putting held held' broken = record { held = held; held' = held'; broken = broken }
