use Rattle.std.proofs.Common.{sym, ◌∙◌}
use Rattle.ill_grammar.proofs.Steps.{lacking-all, lacking-at, lacking-end}
use Rattle.ill_grammar.proofs.place.Place.is_missing.Goals as goal

pub returns-then-cells-self : goal.returns-then-cells-self
returns-then-cells-self c =
    let s = c.args.self in
    let cells = c.cells_of-cells.result.now in
    sym (lacking-all s.parent.now.part s.parent.now.node s.position cells c.cells_of-cells.ensures.meant ∙ lacking-end s.parent.now.node s.position cells c.if-cells-self.true)

pub returns : goal.returns
returns c =
    let s = c.args.self in
    let cells = c.cells_of-cells.result.now in
    sym (lacking-all s.parent.now.part s.parent.now.node s.position cells c.cells_of-cells.ensures.meant ∙ lacking-at s.parent.now.node s.position cells c.cell_at.result.now c.cell_at.ensures)
