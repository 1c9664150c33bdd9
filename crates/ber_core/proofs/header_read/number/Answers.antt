use Rattle.std.proofs.Common.{arith}
use Rattle.std.proofs.lemmas.Int.Digits.{number_more}
use Rattle.ber_core.proofs.header_read.number.Goals as goal

pub loop-digit-preserved : goal.loop-digit-preserved
loop-digit-preserved c =
    omega (arith, c.loop-digit.invariant, c.saturating_mul.ensures, c.saturating_add-number.ensures, number_more 256 c.args.digits.now c.loop-digit.digit-index c.loop-digit-test.true)
