use Rattle.ber_leaf.specs.Profile.{profile_two}
use Rattle.ill_normal.specs.Checking.{Describes}
use Rattle.std.proofs.Common.{take}
use Rattle.test_messages.proofs.FrontForms.{described, front}
use Rattle.test_messages.proofs.normal.contracts.checks_describe_what_they_took.Goals as goal

pub returns : goal.returns
returns c a n h =
    let s = c.args.source.now.octets in
    front profile_two Describes _ s c.check_one.new.source.octets _ _ a n c.check_one.result
    (λ x b is. (is.0, is.1)) (λ x is size rest. described profile_two x a (take n s) n size h.1 is) h c.check_one.ensures.next
