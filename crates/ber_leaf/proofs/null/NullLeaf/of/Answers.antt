use Rattle.ber_leaf.specs.Leaf.{null_type}
use Rattle.ber_leaf.proofs.Leaves.{content_holds}
use Rattle.ber_leaf.proofs.null.NullLeaf.of.Goals as goal

pub returns : goal.returns
returns c = content_holds null_type _ c.requires
