use Rattle.std.proofs.Common.{◌<◌, ◌≤◌, drop, take}
use Rattle.ill_tables.specs.Table.{rows_of}
use Rattle.ill_read.specs.code.OpenValues.{HasAddedAbsent}
use Rattle.ill_read.proofs.open_values.OpenValues.add_absent.Given as goal

abbrev pub invariant-loop-number : goal.invariant-loop-number
invariant-loop-number l = record {
  from : l.from ≤ l.number;
  within : l.from < l.number → l.number ≤ l.until;
  passed : HasAddedAbsent (drop l.from (take l.number (rows_of l.fn.node))) l.initial.self.entries.items l.self.entries.items;
}
