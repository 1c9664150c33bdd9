use Rattle.ber_leaf.proofs.Leaves.{held_same}
use Rattle.ber_leaf.proofs.laws.octets_hold_one_value.Goals as goal

pub returns : goal.returns
returns c = λ p kind v w octets h k. held_same p kind v w octets h k
