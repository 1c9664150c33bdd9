use Rattle.std.proofs.Common.{arith, rules}
use Rattle.ill_schema.specs.Value.{content_of}
use Rattle.ill_schema.proofs.Sizes.{length-node_form}
use Rattle.ill_schema.proofs.size.normal_size.Goals as goal

pub returns-in_err-size : goal.returns-in_err-size
returns-in_err-size c = rw c.from_residual.ensures (omega (arith, length-node_form c.args.node (content_of c.args.value.now), c.in_err-size.ensures))

pub returns : goal.returns
returns c = rw (length-node_form c.args.node (content_of c.args.value.now)) (search rules)
