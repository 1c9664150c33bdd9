use Rattle.ber_leaf.specs.Leaf.{iso_time}
use Rattle.ber_leaf.proofs.Leaves.{content_holds}
use Rattle.ber_leaf.proofs.text.time.TimeTextLeaf.of.Goals as goal

pub returns : goal.returns
returns c = content_holds iso_time _ c.requires
