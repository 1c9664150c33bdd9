use Rattle.ber_leaf.proofs.Leaves.{wider_content}
use Rattle.ber_leaf.proofs.laws.profile_two_holds_what_one_does.Goals as goal

pub returns : goal.returns
returns c = λ limit kind v octets h. (h.0, wider_content limit kind octets h.1, h.2)
