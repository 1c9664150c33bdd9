use Rattle.std.proofs.Common.{◌<◌, arith, length, min}
use Rattle.ill_tables.specs.Table.{rows_of}
use Rattle.ill_read.proofs.Outlines.{passed_more}
use Rattle.ill_read.proofs.outline_draft.mark_absent.Goals as goal

pub loop-row-preserved : goal.loop-row-preserved
loop-row-preserved c =
    let within : c.loop-row.row < min c.args.until (length (rows_of c.args.node)) = omega (arith, c.loop-row-test.true, c.requires) in
    record {
      from = omega (arith, c.loop-row.invariant.from);
      within = λ h. omega (arith, within);
      passed = passed_more c.args.node c.args.from c.loop-row.row _ _ _ c.loop-row.invariant.from (omega (arith, within)) c.loop-row.invariant.passed c.in_ok-push.ensures.items;
    }
