use Rattle.std.proofs.Common.{refl, rules}
use Rattle.ber_leaf.specs.Leaf.{object_descriptor}
use Rattle.ber_leaf.proofs.Leaves.{content, items_are_octets}
use Rattle.ber_leaf.proofs.object_descriptor.ObjectDescriptor.new.Goals as goal

pub invariant_of-result : goal.invariant_of-result
invariant_of-result c = content object_descriptor c.args.octets.items (items_are_octets c.args.octets.items (search rules)) refl
