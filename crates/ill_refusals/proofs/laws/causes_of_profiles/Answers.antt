use Rattle.ill_refusals.proofs.CausesByProfile.{causes_of_two, causes_of_three, cause_of_leaf}
use Rattle.ill_refusals.proofs.laws.causes_of_profiles.Goals as goal

pub returns-clause-two : goal.returns-clause-two
returns-clause-two c = causes_of_two

pub returns-clause-module : goal.returns-clause-module
returns-clause-module c = causes_of_three

pub returns-clause-leaves : goal.returns-clause-leaves
returns-clause-leaves c = cause_of_leaf
