use Rattle.ber_leaf.specs.Leaf.{general_string}
use Rattle.ber_leaf.proofs.Leaves.{content_holds}
use Rattle.ber_leaf.proofs.text.general.GeneralTextLeaf.of.Goals as goal

pub returns : goal.returns
returns c = content_holds general_string _ c.requires
