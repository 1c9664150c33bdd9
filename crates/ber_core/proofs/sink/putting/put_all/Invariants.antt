use Rattle.std.proofs.Common.{◌-◌, ◌≤◌, IsTrue, length, take}
use Rattle.std.specs.Io.KnownBytes.{Appends}
use Rattle.ber_core.proofs.sink.putting.put_all.Given as goal

abbrev pub invariant-loop-at : goal.invariant-loop-at
invariant-loop-at g l = record {
  bound : l.at ≤ length l.octets;
  in_sink : Appends (g.W.Sink.contents l.fn.sink) (g.W.Sink.contents l.sink) (take l.at l.octets);
  stays : IsTrue (g.W.Sink.is_broken l.fn.sink) → IsTrue (g.W.Sink.is_broken l.sink);
}

abbrev pub decreases-loop-at : goal.decreases-loop-at
decreases-loop-at g l = length l.octets - l.at
