use Rattle.std.proofs.Common.{length, take, ◌≡◌, ◌∙◌, ap}
use Rattle.ill_schema.specs.Apdu.{normal_form_in}
use Rattle.ill_schema.specs.Profiles.{profile_of}
use Rattle.ill_normal.proofs.Canonical.{spells_once}
use Rattle.ill_normal.specs.ReadMessages.{IsMessage}
use Rattle.test_messages.proofs.FrontForms.{front}
use Rattle.test_messages.proofs.normal.contracts.messages_have_nothing_of_those_before.Goals as goal

pub returns : goal.returns
returns c a n h =
    let s = c.args.source.now.octets in
    let p = profile_of c.args.profile in
    front p (λ x b. (x ≡ length b) × IsMessage p c.args.wants c.read.new.self.message b) _ s c.read.new.source.octets _ _ a n c.read.result
    (λ x b is. (is.1.apdu, is.1.spells))
    (λ x is size rest. (is.0 ∙ size, is.1.normal ∙ ap (normal_form_in p) (spells_once is.1.apdu a (take n s) is.1.spells h.1)))
    h c.read.ensures
