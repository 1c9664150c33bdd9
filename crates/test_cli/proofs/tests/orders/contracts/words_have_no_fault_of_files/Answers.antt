use Rattle.std.proofs.Common.{◌≡◌, List, Option, Result, Err, IfErr, subst}
use Rattle.clap.specs.Walk.{Row, Text}
use Rattle.ill_args.specs.Refused.{IsFaultOf}
use Rattle.ill_args.specs.declared.fault.LineFault.{LineFault}
use Rattle.ill_args.specs.declared.orders.Order.{Order}
use Rattle.test_cli.proofs.NoFault.{no_fault_of_files}
use Rattle.test_cli.proofs.OneOrder.{given}
use Rattle.test_cli.proofs.tests.orders.contracts.words_have_no_fault_of_files.Goals as goal

fault_given : (found : Option (Text × List Row)) (again : Result Order LineFault) (fault : LineFault) → again ≡ Err fault → IfErr again (IsFaultOf found) → IsFaultOf found fault
fault_given found again fault e h = subst (λ x. IfErr x (IsFaultOf found)) e h

pub returns : goal.returns
returns c one fault p q of = no_fault_of_files _ one fault of (given _ c.order.result one p c.order.ensures.order) (fault_given _ c.order-2.result fault q c.order-2.ensures.fault)
