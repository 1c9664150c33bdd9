use Rattle.std.proofs.Common.{◌+◌, ◌*◌, ◌≤◌, length}
use Rattle.ill_build.proofs.defaults.Spelling.+spell.Given as goal

abbrev pub decreases-put_value : goal.decreases-put_value
decreases-put_value l = 4 * length l.self.now.marks.now

abbrev pub decreases-put_row : goal.decreases-put_row
decreases-put_row l = 4 * length l.self.now.marks.now + 1

abbrev pub decreases-put_alternative : goal.decreases-put_alternative
decreases-put_alternative l = 4 * length l.self.now.marks.now + 2

abbrev pub decreases-put_entry : goal.decreases-put_entry
decreases-put_entry l = 4 * length l.self.now.marks.now + 2

abbrev pub decreases-put_entries : goal.decreases-put_entries
decreases-put_entries l = 4 * length l.self.now.marks.now + 3

abbrev pub decreases-put_items : goal.decreases-put_items
decreases-put_items l = 4 * length l.self.now.marks.now + 3

abbrev pub invariant-put_entries-loop-i : goal.invariant-put_entries-loop-i
invariant-put_entries-loop-i l = length l.self.marks.now ≤ length l.initial.self.marks.now

abbrev pub invariant-put_items-items : goal.invariant-put_items-items
invariant-put_items-items l = length l.self.marks.now ≤ length l.initial.self.marks.now

abbrev pub decreases-put_items-items : goal.decreases-put_items-items
decreases-put_items-items l = length l.self.marks.now
