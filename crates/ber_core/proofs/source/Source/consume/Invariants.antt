use Rattle.std.proofs.Common.{◌≤◌, IsTrue}
use Rattle.ber_core.specs.Shown.{Drops}
use Rattle.ber_core.proofs.source.Source.consume.Given as goal

abbrev pub invariant-taken : goal.invariant-taken
invariant-taken g l = record {
  taken : Drops (g.Self.Source.left l.fn.self) (g.Self.Source.left l.self) l.counter;
  stays : IsTrue (g.Self.Source.is_broken l.fn.self) → IsTrue (g.Self.Source.is_broken l.self);
}
