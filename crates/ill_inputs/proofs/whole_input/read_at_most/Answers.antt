use Rattle.std.proofs.Common.{rules}
use Rattle.ill_inputs.proofs.TakenOctets.{takes_more}
use Rattle.ill_inputs.proofs.whole_input.read_at_most.Goals as goal

pub returns-then-is_err-clause-bound : goal.returns-then-is_err-clause-bound
returns-then-is_err-clause-bound g c = takes_more _ _ _ _ _ _ c.loop-buffer.invariant.taken c.in-Ok.ensures.octets.0 (search rules)

pub returns-then-is_err-clause-fails : goal.returns-then-is_err-clause-fails
returns-then-is_err-clause-fails g c = takes_more _ _ _ _ _ _ c.loop-buffer.invariant.taken c.in-Ok.ensures.octets.0 (search rules)
