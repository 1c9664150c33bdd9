use Rattle.std.proofs.Common.{refl, sym, arith}
use Rattle.std.proofs.lemmas.Grind.{common_steps}
use Rattle.ill_grammar.proofs.MarkedValues.{mark_step}
use Rattle.ill_text.proofs.Sent.{adds_as, adds_nothing, adds_then}
use Rattle.ill_text.proofs.leaf.put_octets.Goals as goal

pub loop-mark-init : goal.loop-mark-init
loop-mark-init g c = record { count = refl; front = omega arith; adds = adds_nothing _; stays = λ h. h }

pub loop-mark-preserved : goal.loop-mark-preserved
loop-mark-preserved g c = record {
  count = omega (arith, c.loop-mark.invariant.count);
  front = grind (arith, common_steps);
  adds = adds_as _ _ _ _ (sym (mark_step c.args.marks.now c.loop-mark.mark-index _ c.loop-mark-test.true)) (adds_then _ _ _ _ _ c.loop-mark.invariant.adds c.put_mark.ensures.adds);
  stays = λ h. c.put_mark.ensures.stays (c.loop-mark.invariant.stays h);
}
