use Rattle.ill_schema.proofs.Lifted.{apdu_fits, apdu_normal, apdu_once, apdu_spelled}
use Rattle.ill_schema.proofs.laws.the_module_reads_profile_two.Goals as goal

pub returns-clause-spelling : goal.returns-clause-spelling
returns-clause-spelling c = apdu_spelled

pub returns-clause-normal : goal.returns-clause-normal
returns-clause-normal c = apdu_normal

pub returns-clause-fits : goal.returns-clause-fits
returns-clause-fits c = apdu_fits

pub returns-clause-one : goal.returns-clause-one
returns-clause-one c = apdu_once
