use Rattle.ber_leaf.specs.Leaf.{visible_string}
use Rattle.ber_leaf.proofs.Leaves.{content_holds}
use Rattle.ber_leaf.proofs.text.visible.VisibleTextLeaf.of.Goals as goal

pub returns : goal.returns
returns c = content_holds visible_string _ c.requires
