use Rattle.ill_refusals.proofs.Bounds.{values_small}
use Rattle.ill_refusals.proofs.laws.values_are_small.Goals as goal

pub returns : goal.returns
returns c p = values_small p
