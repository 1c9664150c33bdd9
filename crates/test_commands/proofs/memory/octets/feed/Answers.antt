use Rattle.std.proofs.Common.{arith}
use Rattle.test_commands.proofs.memory.octets.feed.Goals as goal

pub feed-again-requires : goal.feed-again-requires
feed-again-requires c = (c.need-need.result, c.need-need.ensures.needs, omega arith)
