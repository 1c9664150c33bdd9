use Rattle.ber_leaf.specs.Leaf.{octet_string}
use Rattle.ber_leaf.proofs.Leaves.{content_holds}
use Rattle.ber_leaf.proofs.octet_string.OctetStringLeaf.of.Goals as goal

pub returns : goal.returns
returns c = content_holds octet_string _ c.requires
