use Rattle.std.proofs.Common.{arith, refl}
use Rattle.ill_grammar.proofs.DueLists.{due-more, none-after, none-left, passed-more}
use Rattle.ill_grammar.proofs.Steps.{cell-said}
use Rattle.ill_grammar.proofs.place.Place.due_elements.Goals as goal

pub add_starts-requires : goal.add_starts-requires
add_starts-requires c =
    let said = cell-said c.args.self.parent.now.node c.loop-position.position c.cells_of-cells.result.now c.cell_at-cell.result.now c.cells_of-cells.ensures.meant c.cell_at-cell.ensures in
    record {
      fits = record {
        opens = said.opens;
        placed = said.placed;
        there = said.there;
        default_is = said.default;
        few = omega (arith, c.cells_of-cells.ensures.few, c.loop-position-test.true);
      };
    }

pub returns-then-cell-clause-due : goal.returns-then-cell-clause-due
returns-then-cell-clause-due c =
    let added = c.in_ok-add_starts.ensures.added in
    due-more c.args.self _ c.loop-position.position c.cells_of-cells.result.now c.cell_at-cell.result.now c.loop-position.due.items added.0 _
    c.cells_of-cells.ensures.meant c.cell_at-cell.ensures c.loop-position.invariant refl refl refl added.1 added.2

pub returns-then-cell-clause-all : goal.returns-then-cell-clause-all
returns-then-cell-clause-all c t h =
    let added = c.in_ok-add_starts.ensures.added in
    none-after c.args.self c.loop-position.position c.cells_of-cells.result.now c.cell_at-cell.result.now c.loop-position.due.items added.0 _
    c.cells_of-cells.ensures.meant c.cell_at-cell.ensures c.loop-position.invariant added.1 c.if-cell.true t h (c.in_ok-add_starts.ensures.all t h)

pub returns-then-cell-clause-once : goal.returns-then-cell-clause-once
returns-then-cell-clause-once c = c.in_ok-add_starts.ensures.once c.loop-position.invariant.once

pub loop-position-preserved : goal.loop-position-preserved
loop-position-preserved c =
    let added = c.in_ok-add_starts.ensures.added in
    record {
      due = due-more c.args.self _ c.loop-position.position c.cells_of-cells.result.now c.cell_at-cell.result.now c.loop-position.due.items added.0 _
          c.cells_of-cells.ensures.meant c.cell_at-cell.ensures c.loop-position.invariant refl refl refl added.1 added.2;
      passed = passed-more c.args.self c.loop-position.position c.cells_of-cells.result.now c.cell_at-cell.result.now c.loop-position.due.items added.0 _
          c.cells_of-cells.ensures.meant c.cell_at-cell.ensures c.loop-position.invariant added.1 c.if-cell.false c.in_ok-add_starts.ensures.all;
      once = c.in_ok-add_starts.ensures.once c.loop-position.invariant.once;
    }

pub returns-clause-once : goal.returns-clause-once
returns-clause-once c = c.loop-position.invariant.once

pub returns-clause-all : goal.returns-clause-all
returns-clause-all c t h =
    none-left c.args.self c.loop-position.position c.cells_of-cells.result.now c.loop-position.due.items c.cells_of-cells.ensures.meant c.loop-position.invariant
    (omega (arith, c.loop-position-test.false)) t h
