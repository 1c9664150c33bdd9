use Rattle.std.proofs.Common.{arith}
use Rattle.std.proofs.lemmas.Grind.{common_steps}
use Rattle.ill_parts.proofs.Shapes.{each_snoc, content_of-list}
use Rattle.ill_parts.proofs.list.VecPart.to_value.Goals as goal

pub loop-part-preserved : goal.loop-part-preserved
loop-part-preserved g c = record {
  same = grind (arith, common_steps);
  fits = rw c.in_ok-push.ensures.items (each_snoc _ _ _ c.loop-part.invariant.fits c.in_ok-to_value.ensures.fits);
}

pub returns-clause-value : goal.returns-clause-value
returns-clause-value g c = rw content_of-list (grind (arith, common_steps))
