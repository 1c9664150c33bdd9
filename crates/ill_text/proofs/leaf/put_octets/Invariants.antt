use Rattle.std.proofs.Common.{◌≡◌, ◌+◌, IsTrue, drop, take}
use Rattle.ill_grammar.specs.Marks.{leading_octets, octets_in}
use Rattle.ill_text.specs.code.Sending.{Adds, sending}
use Rattle.ill_text.proofs.leaf.put_octets.Given as goal

abbrev pub invariant-loop-mark : goal.invariant-loop-mark
invariant-loop-mark g l = record {
  count : l.count ≡ l.mark-index;
  front : leading_octets l.marks ≡ l.count + leading_octets (drop l.mark-index l.marks);
  adds : Adds (octets_in (take l.mark-index l.marks)) (sending (g.W.Sink.contents l.fn.sink) (g.W.Sink.is_broken l.fn.sink) l.fn.out) (sending (g.W.Sink.contents l.sink) (g.W.Sink.is_broken l.sink) l.out);
  stays : IsTrue (g.W.Sink.is_broken l.fn.sink) → IsTrue (g.W.Sink.is_broken l.sink);
}
