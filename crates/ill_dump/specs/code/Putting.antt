-- What a sink gets of the lines of a message.
use Rattle.std.specs.Prelude.{◌≡◌, ℕ, List, ◌++◌, Option}
use Rattle.std.specs.Io.KnownBytes.{Appends}

-- the head that waited and then more was written; or the head waits still
pub record Puts (held held' : Option (List ℕ)) (head head' : List ℕ) : Type 0 where
  pub written : List ℕ
  pub more : List ℕ
  pub appended : Appends held held' written
  pub order : head ++ more ≡ written ++ head'

-- this was written, and then more
abbrev pub BeginsWith : Option (List ℕ) → Option (List ℕ) → List ℕ → Type 0
BeginsWith held held' front = (more : List ℕ) × Appends held held' (front ++ more)
