use Rattle.std.proofs.Common.{◌≡◌, ◌++◌, map, Ok}
use Rattle.ill_parts.proofs.part.push_all.Given as goal

abbrev pub invariant-loop-entry : goal.invariant-loop-entry
invariant-loop-entry l = map Ok l.entries.items ++ l.entry-iterator.rest.items ≡ map Ok l.initial.entries.items ++ l.fn.pending.items
