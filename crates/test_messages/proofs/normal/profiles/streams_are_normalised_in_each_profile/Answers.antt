use Rattle.ill_schema.specs.Profiles.{profile_of}
use Rattle.test_messages.proofs.Refused.{written}
use Rattle.test_messages.proofs.normal.profiles.streams_are_normalised_in_each_profile.Goals as goal

pub returns-clause-written : goal.returns-clause-written
returns-clause-written c apdus h =
    written (profile_of c.args.profile) c.args.source.now.octets c.normalise_stream_as.new.source.octets c.args.sink.now.octets c.normalise_stream_as.new.sink.octets apdus
    c.normalise_stream_as.result h c.normalise_stream_as.ensures.streamed
