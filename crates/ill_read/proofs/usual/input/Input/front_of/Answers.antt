use Rattle.std.proofs.Common.{arith}
use Rattle.ber_tree.proofs.Octets.{octets_fit}
use Rattle.ill_read.proofs.usual.input.Input.front_of.Goals as goal

pub invariant_of-result : goal.invariant_of-result
invariant_of-result c = record {
  within = omega (arith, c.min.ensures);
  few = omega (arith, c.min.ensures);
  right = octets_fit c.args.octets.now (λ k. (c.type_inv.octets k).fits);
}
