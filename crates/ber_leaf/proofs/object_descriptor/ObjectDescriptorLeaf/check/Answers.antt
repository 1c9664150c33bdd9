use Rattle.std.proofs.Common.{◌<◌, get_or, None, refl, arith}
use Rattle.ber_leaf.specs.Leaf.{object_descriptor}
use Rattle.ber_tree.proofs.Octets.{octets_fit}
use Rattle.ber_leaf.proofs.Leaves.{exact}
use Rattle.ber_leaf.proofs.object_descriptor.ObjectDescriptorLeaf.check.Goals as goal

pub returns-clause-none : goal.returns-clause-none
returns-clause-none c = exact object_descriptor c.args._octets.now None (octets_fit _ (λ i. let h : get_or c.args._octets.now i 0 < 256 = omega (arith, c.type_inv._octets i) in h)) refl
