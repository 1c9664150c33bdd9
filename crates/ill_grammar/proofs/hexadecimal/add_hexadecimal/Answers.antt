use Rattle.ill_grammar.proofs.OctetTexts.{hexadecimal_step, one_more}
use Rattle.ill_grammar.proofs.hexadecimal.add_hexadecimal.Goals as goal

pub loop-mark-preserved : goal.loop-mark-preserved
loop-mark-preserved c = one_more _ _ _ _ _ _ c.loop-mark.invariant c.in_ok-add_mark.ensures (hexadecimal_step c.args.octets.now c.loop-mark.mark-index _ c.loop-mark-test.true)
