use Rattle.ill_schema.proofs.OneMeaning.{one_apdu, no_prefix}
use Rattle.ill_schema.proofs.laws.one_meaning.Goals as goal

pub returns-clause-apdu : goal.returns-clause-apdu
returns-clause-apdu c = one_apdu

pub returns-clause-prefix : goal.returns-clause-prefix
returns-clause-prefix c = no_prefix
