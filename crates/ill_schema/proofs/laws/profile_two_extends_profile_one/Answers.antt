use Rattle.std.proofs.Common.{lit≤}
use Rattle.ill_schema.proofs.Shorter.{small_wider}
use Rattle.ill_schema.proofs.Wider.{spells_wider}
use Rattle.ill_schema.proofs.laws.profile_two_extends_profile_one.Goals as goal

pub returns-clause-small : goal.returns-clause-small
returns-clause-small c = small_wider

pub returns-clause-large : goal.returns-clause-large
returns-clause-large c = λ a b h. spells_wider 1_048_576 a b (lit≤ tt) h
