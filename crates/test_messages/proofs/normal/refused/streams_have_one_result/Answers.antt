use Rattle.ber_leaf.specs.Profile.{profile_two}
use Rattle.test_messages.proofs.Refused.{written}
use Rattle.test_messages.proofs.normal.refused.streams_have_one_result.Goals as goal

pub returns-clause-written : goal.returns-clause-written
returns-clause-written c apdus h =
    written profile_two c.args.source.now.octets c.normalise_stream.new.source.octets c.args.sink.now.octets c.normalise_stream.new.sink.octets apdus c.normalise_stream.result h
    c.normalise_stream.ensures.streamed
