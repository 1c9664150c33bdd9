use Rattle.std.proofs.Common.{◌≤◌, ◌<◌, ◌-◌, List, ℕ, ◌++◌, length, take}
use Rattle.ber_framing.specs.Framed.{IsPartOfFrame}
use Rattle.ber_framing.specs.Framer.{IsFed}
use Rattle.ber_framing.proofs.framer.Framer.feed.Given as goal

abbrev pub invariant-loop-count : goal.invariant-loop-count
invariant-loop-count l = record {
  bound : l.count ≤ length l.octets;
  within : (b : List ℕ) (n : ℕ) → IsFed l.fn.self b → n < l.count → IsPartOfFrame (b ++ take n l.octets);
  fed : (b : List ℕ) → IsFed l.fn.self b → IsFed l.self (b ++ take l.count l.octets);
}

abbrev pub decreases-loop-count : goal.decreases-loop-count
decreases-loop-count l = length l.octets - l.count
