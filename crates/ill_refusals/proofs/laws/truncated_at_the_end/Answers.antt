use Rattle.ill_refusals.proofs.laws.truncated_at_the_end.Goals as goal
use Rattle.ill_refusals.proofs.OneOutcome.{truncated_size}

pub returns : goal.returns
returns c = truncated_size
