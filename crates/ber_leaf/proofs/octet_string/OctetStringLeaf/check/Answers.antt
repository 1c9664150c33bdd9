use Rattle.std.proofs.Common.{◌<◌, get_or, None, refl, arith}
use Rattle.ber_leaf.specs.Leaf.{octet_string}
use Rattle.ber_tree.proofs.Octets.{octets_fit}
use Rattle.ber_leaf.proofs.Leaves.{exact}
use Rattle.ber_leaf.proofs.octet_string.OctetStringLeaf.check.Goals as goal

pub returns-clause-none : goal.returns-clause-none
returns-clause-none c = exact octet_string c.args._octets.now None (octets_fit _ (λ i. let h : get_or c.args._octets.now i 0 < 256 = omega (arith, c.type_inv._octets i) in h)) refl
