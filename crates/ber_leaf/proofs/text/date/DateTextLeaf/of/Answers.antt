use Rattle.ber_leaf.specs.Leaf.{iso_date}
use Rattle.ber_leaf.proofs.Leaves.{content_holds}
use Rattle.ber_leaf.proofs.text.date.DateTextLeaf.of.Goals as goal

pub returns : goal.returns
returns c = content_holds iso_date _ c.requires
