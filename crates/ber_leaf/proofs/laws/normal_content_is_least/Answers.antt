use Rattle.ber_leaf.proofs.Leaves.{content_least}
use Rattle.ber_leaf.proofs.laws.normal_content_is_least.Goals as goal

pub returns : goal.returns
returns c = λ p kind v octets h. content_least p kind v octets h
