use Rattle.std.proofs.Common.{◌≡◌, [], ◌∷◌, length}
use Rattle.ill_tables.specs.declared.profile.Profile.{Profile as Named}
use Rattle.ill_read.specs.code.UsualLevels.{IsReading, level_after, to_read}
use Rattle.ill_read.proofs.usual.read_whole.Given as goal

abbrev pub invariant-loop-input : goal.invariant-loop-input
invariant-loop-input l =
    (length l.out ≡ length l.initial.out)
    × ((p : Named) → IsReading p l.input (level_after l.top.level l.after ∷ []) l.initial.at l.initial.out → IsReading p l.input (level_after l.top.level l.after ∷ l.levels.items) l.at l.out)

abbrev pub decreases-loop-input : goal.decreases-loop-input
decreases-loop-input l = to_read l.input l.levels.items l.at
