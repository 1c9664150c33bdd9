use Rattle.std.proofs.Common.{Some, sym, ap, ◌∙◌, arith}
use Rattle.ill_grammar.proofs.Missing.{needed-all, needed-end, needed-found, needed-skip}
use Rattle.ill_grammar.proofs.place.Place.missing.Goals as goal

pub returns-then-cell : goal.returns-then-cell
returns-then-cell c =
    let s = c.args.self in
    let cells = c.cells_of-cells.result.now in
    sym (needed-all s.parent.now.part s.parent.now.node s.position cells c.cells_of-cells.ensures.meant ∙ c.loop-position.invariant
    ∙ needed-found s.parent.now.part s.parent.now.node c.loop-position.position cells c.cell_at-cell.result.now c.cell_at-cell.ensures c.if-cell.true
    ∙ ap Some (sym c.part_at.ensures))

pub loop-position-preserved : goal.loop-position-preserved
loop-position-preserved c =
    let s = c.args.self in
    let cells = c.cells_of-cells.result.now in
    c.loop-position.invariant ∙ needed-skip s.parent.now.part s.parent.now.node c.loop-position.position cells c.cell_at-cell.result.now c.cell_at-cell.ensures c.if-cell.false

pub returns : goal.returns
returns c =
    let s = c.args.self in
    let cells = c.cells_of-cells.result.now in
    sym (needed-all s.parent.now.part s.parent.now.node s.position cells c.cells_of-cells.ensures.meant ∙ c.loop-position.invariant
    ∙ needed-end s.parent.now.part s.parent.now.node c.loop-position.position cells (omega (arith, c.loop-position-test.false)))
