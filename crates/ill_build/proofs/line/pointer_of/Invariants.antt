use Rattle.std.proofs.Common.{◌≡◌, ◌≤◌, drop, length, map, reverse}
use Rattle.ill_build.specs.Line.{pointer_of}
use Rattle.ill_build.specs.Path.{step_of}
use Rattle.ill_build.proofs.line.pointer_of.Given as goal

abbrev pub invariant-loop-i : goal.invariant-loop-i
invariant-loop-i l = record {
  within : l.i ≤ length l.steps;
  written : l.pointer.items ≡ pointer_of (map step_of (reverse (drop l.i l.steps)));
}

abbrev pub decreases-loop-i : goal.decreases-loop-i
decreases-loop-i l = l.i
