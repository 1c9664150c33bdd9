use Rattle.std.proofs.Common.{◌<◌, length, IsTrue}
use Rattle.ill_normal.specs.code.Taking.{IsFraming}
use Rattle.ill_normal.proofs.next_message.take_framed.Given as goal

abbrev pub invariant-element : goal.invariant-element
invariant-element g l = record {
  framing : IsFraming (g.R.Source.left l.fn.source) (g.R.Source.left l.source) l.framer l.recorded.items l.counter l.octets;
  space : 0 < length l.buffer;
  stays : IsTrue (g.R.Source.is_broken l.fn.source) → IsTrue (g.R.Source.is_broken l.source);
}
