use Rattle.ber_core.proofs.laws.one_judgment.Goals as goal
use Rattle.ber_core.proofs.Headers.{one_judgment, one_id}

pub returns-clause-header : goal.returns-clause-header
returns-clause-header c = one_judgment

pub returns-clause-id : goal.returns-clause-id
returns-clause-id c = one_id
