use Rattle.std.proofs.Common.{◌≡◌, ◌+◌, drop}
use Rattle.ill_text.specs.code.Elements.{up_to_last}
use Rattle.ill_text.proofs.foreign.number_size.Given as goal

abbrev pub invariant-loop-mark : goal.invariant-loop-mark
invariant-loop-mark l = record { count : l.count ≡ l.mark-index; last : up_to_last l.marks ≡ l.count + up_to_last (drop l.mark-index l.marks) }
