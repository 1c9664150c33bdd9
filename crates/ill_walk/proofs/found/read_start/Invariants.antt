use Rattle.ber_core.specs.HeaderState.{IsOpen}
use Rattle.ill_walk.proofs.found.read_start.Given as goal

abbrev pub invariant-loop-index : goal.invariant-loop-index
invariant-loop-index l = IsOpen l.state
