use Rattle.std.proofs.Common.{◌≡◌, ◌<◌, get_or, arith, rules}
use Rattle.ber_leaf.specs.Leaf.{bit_string, content_fault}
use Rattle.ber_leaf.specs.Profile.{profile_two}
use Rattle.ber_tree.proofs.Octets.{octets_fit}
use Rattle.ber_leaf.proofs.Leaves.{exact}
use Rattle.ber_leaf.proofs.bit_string.BitStringLeaf.check.Goals as goal

pub returns-clause-none : goal.returns-clause-none
returns-clause-none c =
    let fault : c.then_some.result ≡ content_fault profile_two bit_string c.args.octets.now = search rules in
    exact bit_string c.args.octets.now c.then_some.result (octets_fit _ (λ i. let h : get_or c.args.octets.now i 0 < 256 = omega (arith, c.type_inv.octets i) in h)) fault
