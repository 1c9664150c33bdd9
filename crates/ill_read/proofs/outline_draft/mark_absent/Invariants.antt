use Rattle.std.proofs.Common.{[], ◌<◌, ◌≤◌, drop, length, min, take}
use Rattle.ill_tables.specs.Table.{rows_of}
use Rattle.ill_read.specs.code.Outlines.{HasAbsent}
use Rattle.ill_read.proofs.outline_draft.mark_absent.Given as goal

abbrev pub invariant-loop-row : goal.invariant-loop-row
invariant-loop-row l = record {
  from : l.from ≤ l.row;
  within : l.from < l.row → l.row ≤ min l.until (length (rows_of l.fn.node));
  passed : HasAbsent [] (drop l.from (take l.row (rows_of l.fn.node))) l.initial.marks.items l.marks.items;
}
