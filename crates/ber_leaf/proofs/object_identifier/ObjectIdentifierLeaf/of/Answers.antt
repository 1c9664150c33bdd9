use Rattle.ber_leaf.specs.Leaf.{object_identifier}
use Rattle.ber_leaf.proofs.Leaves.{content_holds}
use Rattle.ber_leaf.proofs.object_identifier.ObjectIdentifierLeaf.of.Goals as goal

pub returns : goal.returns
returns c = content_holds object_identifier _ c.requires
