use Rattle.ill_refusals.proofs.laws.one_place.Goals as goal
use Rattle.ill_refusals.proofs.PlaceOrder.{one_place, last_place}

pub returns-clause-apart : goal.returns-clause-apart
returns-clause-apart c = one_place

pub returns-clause-last : goal.returns-clause-last
returns-clause-last c = last_place
