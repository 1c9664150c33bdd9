use Rattle.ill_schema.proofs.MeansFits.{means_fits, means_apdu_fits}
use Rattle.ill_schema.proofs.laws.what_is_meant_fits.Goals as goal

pub returns-clause-value : goal.returns-clause-value
returns-clause-value c = means_fits

pub returns-clause-apdu : goal.returns-clause-apdu
returns-clause-apdu c = means_apdu_fits
