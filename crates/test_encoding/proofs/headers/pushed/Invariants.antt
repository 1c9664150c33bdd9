use Rattle.ber_core.specs.HeaderState.{IsOpen}
use Rattle.test_encoding.proofs.headers.pushed.Given as goal

abbrev pub invariant-loop-i : goal.invariant-loop-i
invariant-loop-i l = IsOpen l.state
