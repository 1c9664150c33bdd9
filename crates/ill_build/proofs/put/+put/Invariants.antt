use Rattle.std.proofs.Common.{◌+◌, ◌*◌, drop, List, ℕ}
use Rattle.json.specs.Value.{items_view, value_view}
use Rattle.ill_schema.specs.Profiles.{profile_of}
use Rattle.ill_schema.specs.TableFacts.{rank}
use Rattle.ill_tables.specs.Table.{rows_of}
use Rattle.ill_build.specs.declared.cause.BuildCause.{BuildCause}
use Rattle.ill_build.specs.Path.{Step}
use Rattle.ill_build.specs.code.Built.{BuiltEntries, BuiltItems}
use Rattle.ill_build.specs.code.Refused.{AreItemsRefused, AreRowsRefused}
use Rattle.ill_build.proofs.put.+put.Given as goal

abbrev pub decreases-put_value : goal.decreases-put_value
decreases-put_value l = 10 * rank l.node + 4

abbrev pub decreases-put_sequence : goal.decreases-put_sequence
decreases-put_sequence l = 10 * rank l.node + 3

abbrev pub decreases-put_list : goal.decreases-put_list
decreases-put_list l = 10 * rank l.node + 3

abbrev pub decreases-put_choice : goal.decreases-put_choice
decreases-put_choice l = 10 * rank l.node + 3

abbrev pub decreases-put_rows : goal.decreases-put_rows
decreases-put_rows l = 10 * rank l.node + 2

abbrev pub decreases-put_items : goal.decreases-put_items
decreases-put_items l = 10 * rank l.node + 2

abbrev pub decreases-put_entry : goal.decreases-put_entry
decreases-put_entry l = 10 * rank l.node + 1

abbrev pub decreases-put_present : goal.decreases-put_present
decreases-put_present l = 10 * rank l.row.node + 6

abbrev pub decreases-put_row : goal.decreases-put_row
decreases-put_row l = 10 * rank l.row.node + 5

abbrev pub invariant-put_rows-loop-i : goal.invariant-put_rows-loop-i
invariant-put_rows-loop-i l = record {
  built : (new : List ℕ) → BuiltEntries (profile_of l.fn.context.profile) l.fn.node l.i (drop l.i (rows_of l.fn.node)) (value_view l.fn.value) l.out new
      → BuiltEntries (profile_of l.fn.context.profile) l.fn.node 0 (rows_of l.fn.node) (value_view l.fn.value) l.initial.out new;
  refused : (cause : BuildCause) (path : List Step) → AreRowsRefused (profile_of l.fn.context.profile) l.fn.node l.i (drop l.i (rows_of l.fn.node)) (value_view l.fn.value) cause path
      → AreRowsRefused (profile_of l.fn.context.profile) l.fn.node 0 (rows_of l.fn.node) (value_view l.fn.value) cause path;
}

abbrev pub invariant-put_items-loop-i : goal.invariant-put_items-loop-i
invariant-put_items-loop-i l = record {
  built : (new : List ℕ) → BuiltItems (profile_of l.fn.context.profile) l.fn.name l.fn.node (items_view (drop l.i l.items)) l.out new
      → BuiltItems (profile_of l.fn.context.profile) l.fn.name l.fn.node (items_view l.items) l.initial.out new;
  refused : (cause : BuildCause) (path : List Step) → AreItemsRefused (profile_of l.fn.context.profile) l.fn.name l.fn.node l.i (items_view (drop l.i l.items)) cause path
      → AreItemsRefused (profile_of l.fn.context.profile) l.fn.name l.fn.node 0 (items_view l.items) cause path;
}
