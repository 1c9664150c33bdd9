use Rattle.std.proofs.Common.{◌≡◌, ◌+◌, ◌*◌, ◌≤◌, ◌++◌, ◌∷◌, List, length, IsTrue}
use Rattle.ill_schema.specs.Content.{Entries, Items}
use Rattle.ill_grammar.specs.Outline.{AreEntries, AreItems}
use Rattle.ill_grammar.specs.declared.outline.Mark.{Mark}
use Rattle.ill_grammar.specs.declared.outline.Mark.TheVariants as mark
use Rattle.ill_text.specs.code.Sending.{sending}
use Rattle.ill_text.specs.code.FieldPaths.{place_of}
use Rattle.ill_text.proofs.Lines.{EntriesReached, ItemsReached}
use Rattle.ill_text.proofs.show.+show.Given as goal

abbrev pub decreases-put_value : goal.decreases-put_value
decreases-put_value g l = 4 * length l.marks.now

abbrev pub decreases-put_part : goal.decreases-put_part
decreases-put_part g l = 4 * length l.marks.now + 1

abbrev pub decreases-put_alternative : goal.decreases-put_alternative
decreases-put_alternative g l = 4 * length l.marks.now + 2

abbrev pub decreases-put_item : goal.decreases-put_item
decreases-put_item g l = 4 * length l.marks.now + 1

abbrev pub decreases-put_entry : goal.decreases-put_entry
decreases-put_entry g l = 4 * length l.marks.now + 2

abbrev pub decreases-put_entries : goal.decreases-put_entries
decreases-put_entries g l = 4 * length l.marks.now + 3

abbrev pub decreases-put_items : goal.decreases-put_items
decreases-put_items g l = 4 * length l.marks.now + 3

abbrev pub invariant-put_entries-rows : goal.invariant-put_entries-rows
invariant-put_entries-rows g l = record {
  reached : (es : Entries) (ms rest : List Mark) → AreEntries es ms → l.fn.marks ≡ ms ++ (mark.End ∷ rest)
      → EntriesReached (place_of l.fn.place) es rest l.left l.i l.some (sending (g.W.Sink.contents l.fn.sink) (g.W.Sink.is_broken l.fn.sink) l.fn.out)
      (sending (g.W.Sink.contents l.sink) (g.W.Sink.is_broken l.sink) l.out);
  shorter : l.i + length l.left ≤ length l.fn.marks;
  stays : IsTrue (g.W.Sink.is_broken l.fn.sink) → IsTrue (g.W.Sink.is_broken l.sink);
}

abbrev pub decreases-put_entries-rows : goal.decreases-put_entries-rows
decreases-put_entries-rows g l = length l.left

abbrev pub invariant-put_items-items : goal.invariant-put_items-items
invariant-put_items-items g l = record {
  reached : (is : Items) (ms rest : List Mark) → AreItems is ms → l.fn.marks ≡ ms ++ (mark.End ∷ rest)
      → ItemsReached (place_of l.fn.place) is rest l.left l.i (sending (g.W.Sink.contents l.fn.sink) (g.W.Sink.is_broken l.fn.sink) l.fn.out)
      (sending (g.W.Sink.contents l.sink) (g.W.Sink.is_broken l.sink) l.out);
  shorter : l.i + length l.left ≤ length l.fn.marks;
  stays : IsTrue (g.W.Sink.is_broken l.fn.sink) → IsTrue (g.W.Sink.is_broken l.sink);
}

abbrev pub decreases-put_items-items : goal.decreases-put_items-items
decreases-put_items-items g l = length l.left
