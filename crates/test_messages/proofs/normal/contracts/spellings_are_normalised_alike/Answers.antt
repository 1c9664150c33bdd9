use Rattle.ber_leaf.specs.Profile.{profile_two}
use Rattle.test_messages.proofs.WrittenForms.{normalised}
use Rattle.test_messages.proofs.normal.contracts.spellings_are_normalised_alike.Goals as goal

pub returns : goal.returns
returns c a n h = normalised profile_two c.args.source.now.octets c.normalise.new.source.octets c.args.sink.now.octets c.normalise.new.sink.octets a n
    c.normalise.result h c.normalise.ensures.normalised c.normalise.ensures.none
