use Rattle.oid_text.proofs.Dots.{no_dot_more}
use Rattle.oid_text.proofs.number.split_at_dot.Goals as goal

pub loop-i-preserved : goal.loop-i-preserved
loop-i-preserved c = no_dot_more c.args.text.now c.loop-i.i c.loop-i-test.true c.loop-i.invariant c.if-octet-eq46.false
