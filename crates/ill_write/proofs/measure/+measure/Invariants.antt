use Rattle.std.proofs.Common.{◌≡◌, ◌+◌, ◌++◌, drop}
use Rattle.ill_schema.specs.Value.{entries_content, items_content}
use Rattle.ill_schema.specs.Normal.{normal_trees, normal_items}
use Rattle.ber_core.specs.Der.{sizes}
use Rattle.ill_tables.specs.Table.{rows_of}
use Rattle.ill_write.specs.ContentSizes.{all_content_sizes}
use Rattle.ill_write.proofs.measure.+measure.Given as goal

abbrev pub invariant-measure_entries-loop-i : goal.invariant-measure_entries-loop-i
invariant-measure_entries-loop-i l = record {
  so_far : l.sum + sizes (normal_trees (entries_content (drop l.i l.entry-items)) (drop l.i (rows_of l.fn.node))) ≡ sizes (normal_trees (entries_content l.entry-items) (rows_of l.fn.node));
  pushed : l.out.items ++ all_content_sizes (normal_trees (entries_content (drop l.i l.entry-items)) (drop l.i (rows_of l.fn.node))) ≡ l.fn.out.items ++ all_content_sizes (normal_trees (entries_content l.entry-items) (rows_of l.fn.node));
}

abbrev pub invariant-measure_items-loop-item : goal.invariant-measure_items-loop-item
invariant-measure_items-loop-item l = record {
  so_far : l.sum + sizes (normal_items (items_content (drop l.item-index l.item-items)) (rows_of l.fn.node)) ≡ sizes (normal_items (items_content l.item-items) (rows_of l.fn.node));
  pushed : l.out.items ++ all_content_sizes (normal_items (items_content (drop l.item-index l.item-items)) (rows_of l.fn.node)) ≡ l.fn.out.items ++ all_content_sizes (normal_items (items_content l.item-items) (rows_of l.fn.node));
}
