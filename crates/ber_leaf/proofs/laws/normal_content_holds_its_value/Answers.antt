use Rattle.ber_leaf.proofs.Leaves.{normal_holds}
use Rattle.ber_leaf.proofs.laws.normal_content_holds_its_value.Goals as goal

pub returns : goal.returns
returns c = λ p kind v octets h. normal_holds p kind v octets h
