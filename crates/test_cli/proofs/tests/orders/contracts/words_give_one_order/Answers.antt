use Rattle.test_cli.proofs.OneOrder.{given, same_order}
use Rattle.test_cli.proofs.tests.orders.contracts.words_give_one_order.Goals as goal

pub returns : goal.returns
returns c one other p q = same_order _ one other (given _ c.order.result one p c.order.ensures.order) (given _ c.order-2.result other q c.order-2.ensures.order)
