use Rattle.ill_refusals.proofs.laws.refusals_stay.Goals as goal
use Rattle.ill_refusals.proofs.Prefixes.{refusal_stays, prefix_truncated}

pub returns-clause-stay : goal.returns-clause-stay
returns-clause-stay c = refusal_stays

pub returns-clause-cut : goal.returns-clause-cut
returns-clause-cut c = prefix_truncated
