-- An ENUMERATED's contents are an INTEGER's.
use Rattle.std.proofs.Common.{ℕ, List}
use Rattle.ber_leaf.specs.Content.{IsContent}
use Rattle.ber_leaf.specs.Leaf.{integer, enumerated}

pub as_integer : (octets : List ℕ) → IsContent enumerated octets → IsContent integer octets
unfolding IsContent
as_integer octets h = (h.0, (h.1.0, h.1.1, h.1.2))

pub as_enumerated : (octets : List ℕ) → IsContent integer octets → IsContent enumerated octets
unfolding IsContent
as_enumerated octets h = (h.0, (h.1.0, h.1.1, h.1.2))
