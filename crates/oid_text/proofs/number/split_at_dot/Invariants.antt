use Rattle.std.proofs.Common.{take}
use Rattle.oid_text.specs.Numbers.{HasNoDot}
use Rattle.oid_text.proofs.number.split_at_dot.Given as goal

abbrev pub invariant-loop-i : goal.invariant-loop-i
invariant-loop-i l = HasNoDot (take l.i l.text)
