use Rattle.std.proofs.Common.{◌-◌, ◌^◌, ◌<◌}
use Rattle.ill_files.proofs.words.octets_of_word.Given as goal

abbrev pub invariant-loop-alloc : goal.invariant-loop-alloc
invariant-loop-alloc g l = 0 < l.size

abbrev pub decreases-loop-alloc : goal.decreases-loop-alloc
decreases-loop-alloc g l = 2 ^ 64 - l.size
