use Rattle.ill_build.proofs.OneSaid.{value_one}
use Rattle.ill_build.proofs.laws.one_value_is_said.Goals as goal

pub returns : goal.returns
returns c = value_one
