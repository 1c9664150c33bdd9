use Rattle.ill_grammar.proofs.MarkedValues.{eight_step, mark_step}
use Rattle.ill_grammar.proofs.marks.first_eight.Goals as goal

pub loop-mark-preserved : goal.loop-mark-preserved
loop-mark-preserved c few =
    eight_step c.args.octets.now c.loop-mark.mark-index _ _ _ c.push_mark.ensures (mark_step c.args.octets.now c.loop-mark.mark-index _ c.loop-mark-test.true) c.loop-mark.invariant few
