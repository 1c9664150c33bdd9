use Rattle.std.proofs.Common.{◌≡◌, ◌+◌, ◌*◌, ◌≤◌, ◌++◌, ◌∷◌, List, [], length}
use Rattle.json.specs.Token.{begin_array, begin_object}
use Rattle.ill_schema.specs.Content.{Entries, Items}
use Rattle.ill_grammar.specs.Outline.{AreEntries, AreItems}
use Rattle.ill_grammar.specs.declared.outline.Mark.{Mark}
use Rattle.ill_grammar.specs.declared.outline.Mark.TheVariants as mark
use Rattle.ill_json.proofs.Tokens.{EntriesReached, ItemsReached}
use Rattle.ill_json.proofs.value.+value.Given as goal

abbrev pub decreases-put_value : goal.decreases-put_value
decreases-put_value l = 4 * length l.marks.now

abbrev pub decreases-put_part : goal.decreases-put_part
decreases-put_part l = 4 * length l.marks.now + 1

abbrev pub decreases-put_alternative : goal.decreases-put_alternative
decreases-put_alternative l = 4 * length l.marks.now + 2

abbrev pub decreases-put_entry : goal.decreases-put_entry
decreases-put_entry l = 4 * length l.marks.now + 2

abbrev pub decreases-put_entries : goal.decreases-put_entries
decreases-put_entries l = 4 * length l.marks.now + 3

abbrev pub decreases-put_items : goal.decreases-put_items
decreases-put_items l = 4 * length l.marks.now + 3

abbrev pub invariant-put_entries-rows : goal.invariant-put_entries-rows
invariant-put_entries-rows l = record {
  reached : (es : Entries) (ms rest : List Mark) → AreEntries es ms → l.fn.marks ≡ ms ++ (mark.End ∷ rest) → EntriesReached (begin_object ∷ []) l.fn.node es rest l.left l.i l.fn.out l.out;
  shorter : l.i + length l.left ≤ length l.fn.marks;
}

abbrev pub decreases-put_entries-rows : goal.decreases-put_entries-rows
decreases-put_entries-rows l = length l.left

abbrev pub invariant-put_items-items : goal.invariant-put_items-items
invariant-put_items-items l = record {
  reached : (is : Items) (ms rest : List Mark) → AreItems is ms → l.fn.marks ≡ ms ++ (mark.End ∷ rest)
      → ItemsReached (begin_array ∷ []) l.fn.name l.inner is rest l.left l.fn.out l.out;
  shorter : length l.left ≤ length l.fn.marks;
}

abbrev pub decreases-put_items-items : goal.decreases-put_items-items
decreases-put_items-items l = length l.left
