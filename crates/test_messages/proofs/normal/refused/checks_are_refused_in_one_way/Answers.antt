use Rattle.ber_leaf.specs.Profile.{profile_two}
use Rattle.ill_normal.specs.Checking.{Describes}
use Rattle.test_messages.proofs.Refused.{never_read, one_fault}
use Rattle.test_messages.proofs.normal.refused.checks_are_refused_in_one_way.Goals as goal

pub returns-clause-none : goal.returns-clause-none
returns-clause-none c f some only = never_read profile_two Describes c.args.source.now.octets c.check_one.new.source.octets _ _ f c.check_one.result (λ x b is. (is.0, is.1)) some only c.check_one.ensures.next

pub returns-clause-one : goal.returns-clause-one
returns-clause-one c f x only e = one_fault profile_two Describes c.args.source.now.octets c.check_one.new.source.octets _ _ f x c.check_one.result only c.check_one.ensures.next e
