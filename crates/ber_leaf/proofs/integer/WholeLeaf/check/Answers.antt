use Rattle.std.proofs.Common.{◌≡◌, ◌<◌, get_or, Some, arith, rules}
use Rattle.ber_leaf.specs.declared.fault.LeafFault.{LeafFault}
use Rattle.ber_leaf.specs.Leaf.{integer, content_fault}
use Rattle.ber_leaf.specs.Profile.{profile_two}
use Rattle.ber_tree.proofs.Octets.{octets_fit}
use Rattle.ber_leaf.proofs.Leaves.{exact}
use Rattle.ber_leaf.proofs.integer.WholeLeaf.check.Goals as goal

pub returns-then-is_padded-clause-none : goal.returns-then-is_padded-clause-none
returns-then-is_padded-clause-none c =
    let fault : Some LeafFault.BadInteger ≡ content_fault profile_two integer c.args.octets.now = search rules in
    exact integer c.args.octets.now (Some LeafFault.BadInteger) (octets_fit _ (λ i. let h : get_or c.args.octets.now i 0 < 256 = omega (arith, c.type_inv.octets i) in h)) fault

pub returns-else-is_padded-clause-none : goal.returns-else-is_padded-clause-none
returns-else-is_padded-clause-none c =
    let fault : c.then_some.result ≡ content_fault profile_two integer c.args.octets.now = search rules in
    exact integer c.args.octets.now c.then_some.result (octets_fit _ (λ i. let h : get_or c.args.octets.now i 0 < 256 = omega (arith, c.type_inv.octets i) in h)) fault
