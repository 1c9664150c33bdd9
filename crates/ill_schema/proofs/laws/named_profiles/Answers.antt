use Rattle.std.proofs.Common.{refl}
use Rattle.ill_schema.proofs.laws.named_profiles.Goals as goal

pub returns-clause-two : goal.returns-clause-two
returns-clause-two c = refl

pub returns-clause-module : goal.returns-clause-module
returns-clause-module c = refl
