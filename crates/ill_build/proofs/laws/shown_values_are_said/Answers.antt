use Rattle.ill_build.proofs.PartSizes.{few_octets_sayable}
use Rattle.ill_build.proofs.ShownSaid.{value_said}
use Rattle.ill_build.proofs.laws.shown_values_are_said.Goals as goal

pub returns-clause-said : goal.returns-clause-said
returns-clause-said c = value_said

pub returns-clause-sayable : goal.returns-clause-sayable
returns-clause-sayable c = few_octets_sayable
