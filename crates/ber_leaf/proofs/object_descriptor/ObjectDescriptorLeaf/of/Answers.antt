use Rattle.ber_leaf.specs.Leaf.{object_descriptor}
use Rattle.ber_leaf.proofs.Leaves.{content_holds}
use Rattle.ber_leaf.proofs.object_descriptor.ObjectDescriptorLeaf.of.Goals as goal

pub returns : goal.returns
returns c = content_holds object_descriptor _ c.requires
