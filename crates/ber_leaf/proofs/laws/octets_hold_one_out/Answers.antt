use Rattle.ber_leaf.specs.Profile.{profile_two}
use Rattle.ber_leaf.proofs.Leaves.{held_same}
use Rattle.ber_leaf.proofs.laws.octets_hold_one_out.Goals as goal

pub returns : goal.returns
returns g c = λ v w octets h k. g.met.L.Leaf.apart v w (held_same profile_two _ _ _ octets h k)
