use Rattle.ber_leaf.proofs.Leaves.{normal_apart}
use Rattle.ber_leaf.proofs.laws.normal_contents_tell_values_apart.Goals as goal

pub returns : goal.returns
returns c = λ p kind v w a b h k e. normal_apart p kind v w a b h k e
