use Rattle.std.proofs.Common.{List, ℕ, Option, IsTrue}
use Rattle.ill_normal.specs.code.Taking.{TakesUnframed}
use Rattle.ill_normal.proofs.next_message.take_rest.Given as goal

abbrev pub invariant-rest : goal.invariant-rest
invariant-rest g l = record {
  unframed : (from : Option (List ℕ)) → TakesUnframed from (g.R.Source.left l.fn.source) l.fn.recorded.items → TakesUnframed from (g.R.Source.left l.source) l.recorded.items;
  stays : IsTrue (g.R.Source.is_broken l.fn.source) → IsTrue (g.R.Source.is_broken l.source);
}
