use Rattle.std.proofs.Common.{◌-◌, length, IsTrue}
use Rattle.ill_normal.specs.code.Taking.{Took}
use Rattle.ill_normal.proofs.next_message.take_message.Given as goal

abbrev pub invariant-judged : goal.invariant-judged
invariant-judged g l = record {
  took : Took (g.R.Source.left l.fn.source) (g.R.Source.left l.source) l.recorded.items l.taken.octets l.taken.framing;
  stays : IsTrue (g.R.Source.is_broken l.fn.source) → IsTrue (g.R.Source.is_broken l.source);
}

abbrev pub decreases-judged : goal.decreases-judged
decreases-judged g l = 1_048_576 - length l.recorded.items
