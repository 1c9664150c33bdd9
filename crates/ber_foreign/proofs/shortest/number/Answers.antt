use Rattle.std.proofs.Common.{◌<◌, get_or, IsTrue, arith}
use Rattle.ber_tree.specs.Octets.{are_octets}
use Rattle.ber_tree.proofs.Octets.{octets_fit}
use Rattle.ber_foreign.proofs.FewestOctets.{number_fits}
use Rattle.ber_foreign.proofs.shortest.number.Goals as goal

pub overflow_mul-number : goal.overflow_mul-number
overflow_mul-number c =
    let w = c.args.digits.now in
    let ok : IsTrue (are_octets w) = octets_fit w (λ k. let h : get_or w k 0 < 256 = omega (arith, c.type_inv.digits k) in h) in
    omega (arith, c.loop-digit.invariant, number_fits w c.loop-digit.digit-index ok c.requires c.loop-digit-test.true)

pub overflow_add-number : goal.overflow_add-number
overflow_add-number c =
    let w = c.args.digits.now in
    let ok : IsTrue (are_octets w) = octets_fit w (λ k. let h : get_or w k 0 < 256 = omega (arith, c.type_inv.digits k) in h) in
    omega (arith, c.loop-digit.invariant, number_fits w c.loop-digit.digit-index ok c.requires c.loop-digit-test.true)
