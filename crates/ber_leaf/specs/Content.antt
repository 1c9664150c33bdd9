-- What the octets of a leaf are asked to be, in the final profile.
use Rattle.std.specs.Prelude.{ℕ, List}
use Rattle.ber_leaf.specs.Leaf.{Leaf, Holds}
use Rattle.ber_leaf.specs.Profile.{profile_two}
use Rattle.ber_leaf.specs.Simple.{Simple}

-- the octets are a content of a leaf of the kind: they hold a value
unfoldable pub IsContent : Leaf → List ℕ → Type 0
IsContent leaf octets = (v : Simple) × Holds profile_two leaf v octets
