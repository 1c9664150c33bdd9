use Rattle.ber_core.specs.HeaderState.{IsOpen}
use Rattle.test_encoding.proofs.headers.begun.Given as goal

abbrev pub invariant-loop-octet : goal.invariant-loop-octet
invariant-loop-octet l = IsOpen l.state
