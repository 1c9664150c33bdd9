use Rattle.std.proofs.Common.{IsTrue}
use Rattle.ill_normal.proofs.rest.take_rest.Given as goal

abbrev pub invariant-element : goal.invariant-element
invariant-element g l = IsTrue (g.R.Source.is_broken l.fn.source) → IsTrue (g.R.Source.is_broken l.source)

abbrev pub invariant-rest : goal.invariant-rest
invariant-rest g l = IsTrue (g.R.Source.is_broken l.fn.source) → IsTrue (g.R.Source.is_broken l.source)
