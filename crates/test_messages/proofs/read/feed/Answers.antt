use Rattle.std.proofs.Common.{arith}
use Rattle.test_messages.proofs.read.feed.Goals as goal

pub feed-requires : goal.feed-requires
feed-requires c = (c.need.result, c.need.ensures.needs, omega arith)
