use Rattle.ill_schema.specs.Profiles.{profile_of}
use Rattle.test_messages.proofs.WrittenForms.{normalised}
use Rattle.test_messages.proofs.normal.profiles.messages_are_normalised_in_each_profile.Goals as goal

pub returns-clause-form : goal.returns-clause-form
returns-clause-form c a n h = normalised (profile_of c.args.profile) c.args.source.now.octets c.normalise_as.new.source.octets c.args.sink.now.octets
    c.normalise_as.new.sink.octets a n c.normalise_as.result h c.normalise_as.ensures.normalised c.normalise_as.ensures.none
