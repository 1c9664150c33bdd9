-- The values of the simple types, which the leaves of a message hold.
use Rattle.std.specs.Prelude.{ℕ, ℤ, Bool, List}

-- a text is its octets, and which of the string types it has is a part of the value; bits are their number, and the octets that they
-- fill from the most significant bit on
pub data Simple : Type 0 where
  flag : Bool → Simple
  whole : ℤ → Simple
  date : List ℕ → Simple
  time : List ℕ → Simple
  printable : List ℕ → Simple
  general : List ℕ → Simple
  visible : List ℕ → Simple
  null : Simple
  oid : List ℕ → Simple
  binary : List ℕ → Simple
  bits : ℕ → List ℕ → Simple
  descriptor : List ℕ → Simple
