use Rattle.std.proofs.Common.{◌≡◌}
use Rattle.ill_build.proofs.defaults.Spelling.put_octets.Given as goal

abbrev pub invariant-loop-mark : goal.invariant-loop-mark
invariant-loop-mark l = l.self.marks ≡ l.initial.self.marks
