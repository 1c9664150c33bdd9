use Rattle.std.proofs.Common.{take, drop, arith, sym, ap, ◌∙◌, subst}
use Rattle.ill_tables.specs.Table.{rows_of}
use Rattle.ill_read.specs.code.OpenValues.{HasAddedAbsent}
use Rattle.ill_read.specs.declared.open_values.OpenValues.{OpenValues}
use Rattle.ill_read.proofs.HeldEntries.{passed-more, passed-past}
use Rattle.ill_read.proofs.open_values.OpenValues.add_absent.Goals as goal
use Rattle.ill_read.proofs.open_values.OpenValues.add_absent.Goals.{in-Some+in_ok-push, in_default}

pub loop-number-preserved : goal.loop-number-preserved
loop-number-preserved c = record {
  from = omega (arith, c.loop-number.invariant.from);
  within = λ h. omega (arith, c.loop-number-test.true);
  passed = elim c.match-row.branch [
    | in-Some+in_ok-push w ↦
        passed-more (rows_of c.args.node) c.args.from c.loop-number.number w.in-Some.row _ c.args.self.now.entries.items c.loop-number.self.entries.items _ c.loop-number.invariant.from
        (sym c.row.ensures ∙ w.in-Some.is) c.loop-number.invariant.passed w.absent.ensures (ap (λ (v : OpenValues). v.entries.items) w.self-is ∙ w.in_ok-push.ensures.items)
    | in_default w ↦
        passed-past (rows_of c.args.node) c.args.from c.loop-number.number c.args.self.now.entries.items _ (sym c.row.ensures ∙ w.in_default.is)
        (subst (λ (v : OpenValues). HasAddedAbsent (drop c.args.from (take c.loop-number.number (rows_of c.args.node))) c.args.self.now.entries.items v.entries.items) (sym w.self-is) c.loop-number.invariant.passed)
  ];
}
