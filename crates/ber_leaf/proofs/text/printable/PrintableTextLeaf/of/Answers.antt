use Rattle.ber_leaf.specs.Leaf.{printable_string}
use Rattle.ber_leaf.proofs.Leaves.{content_holds}
use Rattle.ber_leaf.proofs.text.printable.PrintableTextLeaf.of.Goals as goal

pub returns : goal.returns
returns c = content_holds printable_string _ c.requires
