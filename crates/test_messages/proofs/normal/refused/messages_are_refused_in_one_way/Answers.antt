use Rattle.ber_leaf.specs.Profile.{profile_two}
use Rattle.ill_schema.specs.Message.{apdu_of}
use Rattle.ill_read.specs.Answers.{IsSpelled}
use Rattle.test_messages.proofs.Refused.{never_read, one_fault}
use Rattle.test_messages.proofs.normal.refused.messages_are_refused_in_one_way.Goals as goal

pub returns-clause-none : goal.returns-clause-none
returns-clause-none c f some only = never_read profile_two IsSpelled c.args.source.now.octets c.read_message.new.source.octets _ _ f c.read_message.result (λ m b is. (apdu_of m, is.spells)) some only c.read_message.ensures.next

pub returns-clause-one : goal.returns-clause-one
returns-clause-one c f x only e = one_fault profile_two IsSpelled c.args.source.now.octets c.read_message.new.source.octets _ _ f x c.read_message.result only c.read_message.ensures.next e
