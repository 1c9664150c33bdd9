use Rattle.std.proofs.Common.{refl}
use Rattle.test_messages.proofs.schema.module.foreign_trees_stay_as_they_are.Goals as goal

pub returns-clause-twenty_levels : goal.returns-clause-twenty_levels
returns-clause-twenty_levels c = refl

pub returns-clause-twenty_one_levels : goal.returns-clause-twenty_one_levels
returns-clause-twenty_one_levels c = refl

pub returns-clause-universal_0_constructed : goal.returns-clause-universal_0_constructed
returns-clause-universal_0_constructed c = refl

pub returns-clause-universal_0_primitive : goal.returns-clause-universal_0_primitive
returns-clause-universal_0_primitive c = refl

pub returns-clause-highest_tag : goal.returns-clause-highest_tag
returns-clause-highest_tag c = refl

pub returns-clause-tag_too_high : goal.returns-clause-tag_too_high
returns-clause-tag_too_high c = refl

pub returns-clause-stay : goal.returns-clause-stay
returns-clause-stay c = λ tree tag. refl
