use Rattle.ill_normal.proofs.OneWay.{one_reading_of_an_input}
use Rattle.ill_normal.proofs.skipping_laws.one_reading_of_an_input.Goals as goal

pub returns : goal.returns
returns c = one_reading_of_an_input
