use Rattle.std.proofs.Common.{◌≡◌}
use Rattle.ill_build.specs.code.Views.{known_of}
use Rattle.ill_build.proofs.FirstFault.{fault_from}
use Rattle.ill_build.proofs.members.Known.first_fault.Given as goal

abbrev pub invariant-loop-i : goal.invariant-loop-i
invariant-loop-i l = fault_from (known_of l.self) l.members l.i ≡ fault_from (known_of l.self) l.members 0
