use Rattle.ill_build.proofs.OneSaid.{apdu_said_once}
use Rattle.ill_build.proofs.laws.one_apdu_is_said.Goals as goal

pub returns : goal.returns
returns c = apdu_said_once
