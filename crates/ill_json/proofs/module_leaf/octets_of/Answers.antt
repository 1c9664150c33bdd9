use Rattle.std.proofs.Common.{[]}
use Rattle.ill_grammar.proofs.MarkedValues.{mark_step}
use Rattle.ill_grammar.proofs.OctetTexts.{one_more}
use Rattle.ill_json.proofs.module_leaf.octets_of.Goals as goal

pub loop-mark-preserved : goal.loop-mark-preserved
loop-mark-preserved c = one_more [] _ _ _ _ _ c.loop-mark.invariant c.in_ok-push_mark.ensures (mark_step c.args.octets.now c.loop-mark.mark-index _ c.loop-mark-test.true)
