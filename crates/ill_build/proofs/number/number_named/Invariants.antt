use Rattle.ill_build.proofs.LeafNumbers.{IsPast}
use Rattle.ill_build.proofs.number.number_named.Given as goal

abbrev pub invariant-loop-number : goal.invariant-loop-number
invariant-loop-number l = IsPast l.row l.name l.number-index
