use Rattle.std.proofs.Common.{◌-◌, ◌≤◌, IsTrue, length}
use Rattle.std.specs.Io.KnownBytes.{Consumes}
use Rattle.ill_inputs.proofs.whole_input.read_at_most.Given as goal

abbrev pub invariant-loop-buffer : goal.invariant-loop-buffer
invariant-loop-buffer g l = record {
  bound : length l.text.items ≤ l.most;
  taken : Consumes (g.R.Source.left l.fn.source) (g.R.Source.left l.source) l.text.items;
  stays : IsTrue (g.R.Source.is_broken l.fn.source) → IsTrue (g.R.Source.is_broken l.source);
}

abbrev pub decreases-loop-buffer : goal.decreases-loop-buffer
decreases-loop-buffer g l = l.most - length l.text.items
