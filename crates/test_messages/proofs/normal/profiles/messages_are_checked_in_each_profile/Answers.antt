use Rattle.std.proofs.Common.{take}
use Rattle.ill_schema.specs.Profiles.{profile_of}
use Rattle.ill_normal.specs.Checking.{DescribesIn}
use Rattle.test_messages.proofs.FrontForms.{described, front}
use Rattle.test_messages.proofs.Refused.{never_read, one_fault}
use Rattle.test_messages.proofs.normal.profiles.messages_are_checked_in_each_profile.Goals as goal

pub returns-clause-described : goal.returns-clause-described
returns-clause-described c a n h =
    let p = profile_of c.args.profile in
    let s = c.args.source.now.octets in
    front p (DescribesIn p) _ s c.check_one_as.new.source.octets _ _ a n c.check_one_as.result
    (λ x b is. (is.0, is.1)) (λ x is size rest. described p x a (take n s) n size h.1 is) h c.check_one_as.ensures.next

pub returns-clause-none : goal.returns-clause-none
returns-clause-none c f some only =
    let p = profile_of c.args.profile in
    never_read p (DescribesIn p) c.args.source.now.octets c.check_one_as.new.source.octets _ _ f c.check_one_as.result (λ x b is. (is.0, is.1)) some only
    c.check_one_as.ensures.next

pub returns-clause-refused : goal.returns-clause-refused
returns-clause-refused c f x only e =
    let p = profile_of c.args.profile in
    one_fault p (DescribesIn p) c.args.source.now.octets c.check_one_as.new.source.octets _ _ f x c.check_one_as.result only c.check_one_as.ensures.next e
