use Rattle.ill_schema.proofs.OneMeaning.{apdu_unique}
use Rattle.ill_schema.proofs.Unique.{value_unique}
use Rattle.ill_schema.proofs.laws.one_value.Goals as goal

pub returns-clause-value : goal.returns-clause-value
returns-clause-value c = value_unique

pub returns-clause-apdu : goal.returns-clause-apdu
returns-clause-apdu c = apdu_unique
