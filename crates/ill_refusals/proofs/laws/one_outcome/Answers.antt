use Rattle.ill_refusals.proofs.laws.one_outcome.Goals as goal
use Rattle.ill_refusals.proofs.OneOutcome.{one_outcome}

pub returns : goal.returns
returns c = one_outcome
