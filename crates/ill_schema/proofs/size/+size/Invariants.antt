use Rattle.std.proofs.Common.{◌≡◌, ◌+◌, ◌≤◌, drop}
use Rattle.ber_core.specs.Der.{sizes}
use Rattle.ber_leaf.specs.Profile.{profile_two}
use Rattle.ill_schema.specs.Normal.{normal_trees, normal_items}
use Rattle.ill_tables.specs.Table.{rows_of}
use Rattle.ill_schema.specs.Value.{entries_content, items_content}
use Rattle.ill_schema.proofs.size.+size.Given as goal

abbrev pub invariant-entries_size-loop-i : goal.invariant-entries_size-loop-i
invariant-entries_size-loop-i l = record {
  so_far : l.sum + sizes (normal_trees (entries_content (drop l.i l.entry-items)) (drop l.i (rows_of l.fn.node))) ≡ sizes (normal_trees (entries_content l.entry-items) (rows_of l.fn.node));
  within : l.sum ≤ profile_two.limit;
}

abbrev pub invariant-items_size-loop-item : goal.invariant-items_size-loop-item
invariant-items_size-loop-item l = record {
  so_far : l.sum + sizes (normal_items (items_content (drop l.item-index l.item-items)) (rows_of l.fn.node)) ≡ sizes (normal_items (items_content l.item-items) (rows_of l.fn.node));
  within : l.sum ≤ profile_two.limit;
}
