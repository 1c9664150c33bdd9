use Rattle.std.proofs.Common.{◌≡◌, ℕ, ◌+◌, ◌-◌, ◌*◌, ◌≤◌, List, length, drop}
use Rattle.ill_read.specs.code.ReaderCode.{IsRunning}
use Rattle.ill_grammar.specs.Standing.{depth_of}
use Rattle.ill_tables.specs.declared.profile.Profile.{Profile as Named}
use Rattle.ill_read.proofs.reader.Reader.read_elements.Given as goal

abbrev pub invariant-loop-size : goal.invariant-loop-size
invariant-loop-size g l = (length l.rest ≤ length l.octets) × (l.rest ≡ drop (length l.octets - length l.rest) l.octets) × (l.self.pending ≡ l.fn.self.pending)
    × ((p : Named) (s : List ℕ) → IsRunning p g.D.Draft.holds g.D.Draft.has l.fn.self s l.octets → IsRunning p g.D.Draft.holds g.D.Draft.has l.self s l.rest) × (l.self.path.frames.profile ≡ l.fn.self.path.frames.profile)

-- Each step takes an octet at least, or closes an element.
abbrev pub decreases-loop-size : goal.decreases-loop-size
decreases-loop-size g l = 2 * length l.rest + depth_of l.self.path.frames
