use Rattle.std.proofs.Common.{◌≡◌}
use Rattle.ill_read.proofs.HeldEntries.{somes}
use Rattle.ill_read.proofs.open_values.OpenValues.list.Given as goal

abbrev pub invariant-loop-held : goal.invariant-loop-held
invariant-loop-held l = l.items.items ≡ somes l.yielded
