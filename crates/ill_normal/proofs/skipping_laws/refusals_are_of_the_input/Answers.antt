use Rattle.ill_normal.proofs.OneWay.{still_refused}
use Rattle.ill_normal.proofs.skipping_laws.refusals_are_of_the_input.Goals as goal

pub returns : goal.returns
returns c = still_refused
