use Rattle.std.proofs.Common.{◌≡◌, ◌≤◌, map, take}
use Rattle.ill_args.specs.Orders.{times}
use Rattle.ill_args.proofs.matches.reads.Given as goal

abbrev pub invariant-loop-word : goal.invariant-loop-word
invariant-loop-word l = record { few : l.count ≤ l.word-index; counted : l.count ≡ times l.name (map (λ word. word.now) (take l.word-index l.word-items)) }
