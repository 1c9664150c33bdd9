use Rattle.std.proofs.Common.{IsTrue, take}
use Rattle.ill_schema.specs.Texts.{hexadecimal}
use Rattle.ill_grammar.specs.Marks.{octets_in}
use Rattle.ill_text.specs.code.Sending.{Adds, sending}
use Rattle.ill_text.proofs.module_leaf.put_hexadecimal.Given as goal

abbrev pub invariant-loop-mark : goal.invariant-loop-mark
invariant-loop-mark g l = record {
  adds : Adds (hexadecimal (octets_in (take l.mark-index l.marks))) (sending (g.W.Sink.contents l.fn.sink) (g.W.Sink.is_broken l.fn.sink) l.fn.out) (sending (g.W.Sink.contents l.sink) (g.W.Sink.is_broken l.sink) l.out);
  stays : IsTrue (g.W.Sink.is_broken l.fn.sink) → IsTrue (g.W.Sink.is_broken l.sink);
}
