use Rattle.std.proofs.Common.{take}
use Rattle.ber_core.specs.Header.{IsPartHeader}
use Rattle.ber_core.specs.HeaderState.{Fed, IsOpen}
use Rattle.ber_core.proofs.header_read.read_any.Given as goal

abbrev pub invariant-loop-i : goal.invariant-loop-i
invariant-loop-i l = IsOpen l.state × Fed l.state (take l.i l.octets) × IsPartHeader (take l.i l.octets)
