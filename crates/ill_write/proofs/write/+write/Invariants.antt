use Rattle.std.proofs.Common.{IsTrue, drop}
use Rattle.ill_schema.specs.Normal.{normal_trees, normal_items}
use Rattle.ill_tables.specs.Table.{rows_of}
use Rattle.ill_schema.specs.Value.{entries_content, items_content}
use Rattle.ill_write.proofs.Writing.{Reached}
use Rattle.ill_write.proofs.write.+write.Given as goal

abbrev pub invariant-write_entries-loop-i : goal.invariant-write_entries-loop-i
invariant-write_entries-loop-i g l = record {
  reached : Reached (normal_trees (entries_content l.entry-items) (rows_of l.fn.node)) (normal_trees (entries_content (drop l.i l.entry-items)) (drop l.i (rows_of l.fn.node))) l.contents
      (g.W.Sink.contents l.fn.sink) l.fn.progress (g.W.Sink.contents l.sink) l.progress;
  stays : IsTrue (g.W.Sink.is_broken l.fn.sink) → IsTrue (g.W.Sink.is_broken l.sink);
}

abbrev pub invariant-write_items-loop-item : goal.invariant-write_items-loop-item
invariant-write_items-loop-item g l = record {
  reached : Reached (normal_items (items_content l.item-items) (rows_of l.fn.node)) (normal_items (items_content (drop l.item-index l.item-items)) (rows_of l.fn.node)) l.contents
      (g.W.Sink.contents l.fn.sink) l.fn.progress (g.W.Sink.contents l.sink) l.progress;
  stays : IsTrue (g.W.Sink.is_broken l.fn.sink) → IsTrue (g.W.Sink.is_broken l.sink);
}
