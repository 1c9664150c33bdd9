use Rattle.std.proofs.Common.{◌≡◌, ℕ, ◌+◌, List, [], length, IsTrue}
use Rattle.std.specs.Io.KnownBytes.{Appends, Consumes}
use Rattle.ill_tables.specs.declared.profile.Profile.{Profile as Named}
use Rattle.ill_read.specs.Feeding.{IsOpenAt}
use Rattle.ill_read.specs.code.ReaderCode.{IsFed}
use Rattle.ill_read.specs.code.Filling.{NoneEndsWithin}
use Rattle.ill_read.proofs.read.fill.Given as goal

-- What was taken is what the reader was fed, and what was recorded.
abbrev pub invariant-loop-room : goal.invariant-loop-room
invariant-loop-room g l =
    ((b : List ℕ) × Consumes (g.R.Source.left l.fn.source) (g.R.Source.left l.source) b × (length b + l.room ≡ 1_048_576)
    × ((p : Named) → IsOpenAt p g.D.Draft.holds l.fn.reader [] → IsFed p g.D.Draft.holds g.D.Draft.has l.reader b × NoneEndsWithin p b)
    × Appends (g.K.Recorder.recorded l.fn.recorder) (g.K.Recorder.recorded l.recorder) b)
    × (IsTrue (g.R.Source.is_broken l.fn.source) → IsTrue (g.R.Source.is_broken l.source)) × (l.reader.path.frames.profile ≡ l.fn.reader.path.frames.profile)

abbrev pub decreases-loop-room : goal.decreases-loop-room
decreases-loop-room g l = l.room
