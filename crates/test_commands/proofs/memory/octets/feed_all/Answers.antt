use Rattle.std.proofs.Common.{arith}
use Rattle.std.proofs.lemmas.List.{length-take}
use Rattle.test_commands.proofs.memory.octets.feed_all.Goals as goal

pub feed-requires : goal.feed-requires
feed-requires c = (c.need-need.result, c.need-need.ensures.needs, omega (arith, c.min-size.ensures, length-take c.min-size.result c.loop.rest.now))
