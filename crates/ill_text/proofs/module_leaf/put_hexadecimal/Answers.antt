use Rattle.std.proofs.Common.{sym}
use Rattle.ill_schema.specs.Texts.{digits}
use Rattle.ill_text.proofs.OctetMarks.{octets_step}
use Rattle.ill_text.proofs.Sent.{adds_as, adds_nothing, adds_then}
use Rattle.ill_text.proofs.module_leaf.put_hexadecimal.Goals as goal

pub loop-mark-init : goal.loop-mark-init
loop-mark-init g c = record { adds = adds_nothing _; stays = λ h. h }

pub loop-mark-preserved : goal.loop-mark-preserved
loop-mark-preserved g c = record {
  adds = adds_as _ _ _ _ (sym (octets_step digits c.args.marks.now c.loop-mark.mark-index _ c.loop-mark-test.true)) (adds_then _ _ _ _ _ c.loop-mark.invariant.adds c.put_mark_digits.ensures.adds);
  stays = λ h. c.put_mark_digits.ensures.stays (c.loop-mark.invariant.stays h);
}
