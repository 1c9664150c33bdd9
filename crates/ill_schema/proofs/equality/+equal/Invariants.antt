use Rattle.std.proofs.Common.{◌≡◌, ◌↔◌, drop}
use Rattle.ill_schema.specs.Value.{entries_content, items_content}
use Rattle.ill_schema.proofs.equality.+equal.Given as goal

-- the whole is equal exactly if what is left is
abbrev pub invariant-equal_entries-loop-i : goal.invariant-equal_entries-loop-i
invariant-equal_entries-loop-i l =
    (entries_content (drop l.i l.x-items) ≡ entries_content (drop l.i l.b.items)) ↔ (entries_content l.x-items ≡ entries_content l.b.items)

abbrev pub invariant-equal_items-loop-i : goal.invariant-equal_items-loop-i
invariant-equal_items-loop-i l =
    (items_content (drop l.i l.x-items) ≡ items_content (drop l.i l.b.items)) ↔ (items_content l.x-items ≡ items_content l.b.items)
