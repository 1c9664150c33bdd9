use Rattle.std.proofs.Common.{arith}
use Rattle.test_messages.proofs.read.contracts.messages_stay.Goals as goal

pub feed-again-requires : goal.feed-again-requires
feed-again-requires c = (c.need-need.result, c.need-need.ensures.needs, omega arith)
