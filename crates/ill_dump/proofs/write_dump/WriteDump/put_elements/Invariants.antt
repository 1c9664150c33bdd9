use Rattle.std.proofs.Common.{◌≡◌, IsTrue}
use Rattle.ill_dump.specs.code.Putting.{Puts}
use Rattle.ill_dump.proofs.write_dump.WriteDump.put_elements.Given as goal

abbrev pub invariant-loop : goal.invariant-loop
invariant-loop g l = record {
  puts : Puts (g.W.Sink.contents l.fn.sink) (g.W.Sink.contents l.sink) l.fn.self.head.octets.items l.self.head.octets.items;
  same : l.self.dump ≡ l.fn.self.dump;
  stays : IsTrue (g.W.Sink.is_broken l.fn.sink) → IsTrue (g.W.Sink.is_broken l.sink);
}
