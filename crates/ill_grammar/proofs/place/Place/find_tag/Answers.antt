use Rattle.std.proofs.Common.{refl, ◌∙◌, arith}
use Rattle.ber_core.specs.Id.{tag_of_id}
use Rattle.ill_grammar.proofs.AtRow.{row-of}
use Rattle.ill_schema.proofs.Tags.{at_row}
use Rattle.ill_grammar.specs.Cells.{is_two_cell, next_from}
use Rattle.ill_grammar.proofs.Scanning.{none-by-tag, tag-due}
use Rattle.ill_grammar.proofs.Steps.{passed-next, passed-none, cell-said, scan-all, scan-end, scan-found, scan-skip, scan-stop}
use Rattle.ill_grammar.proofs.place.Place.find_tag.Goals as goal

pub start-requires : goal.start-requires
start-requires c = (cell-said c.args.self.parent.now.node c.loop-position.position c.cells_of-cells.result.now c.cell_at-cell.result.now c.cells_of-cells.ensures.meant c.cell_at-cell.ensures).opens

pub invariant_of-result-in-Some : goal.invariant_of-result-in-Some
invariant_of-result-in-Some c = record {
  opens = c.in-Some.ensures.begins.opens;
  placed = (cell-said c.args.self.parent.now.node c.loop-position.position c.cells_of-cells.result.now c.cell_at-cell.result.now c.cells_of-cells.ensures.meant c.cell_at-cell.ensures).placed;
  there = (cell-said c.args.self.parent.now.node c.loop-position.position c.cells_of-cells.result.now c.cell_at-cell.result.now c.cells_of-cells.ensures.meant c.cell_at-cell.ensures).there;
  default_is = (cell-said c.args.self.parent.now.node c.loop-position.position c.cells_of-cells.result.now c.cell_at-cell.result.now c.cells_of-cells.ensures.meant c.cell_at-cell.ensures).default;
  nested = (cell-said c.args.self.parent.now.node c.loop-position.position c.cells_of-cells.result.now c.cell_at-cell.result.now c.cells_of-cells.ensures.meant c.cell_at-cell.ensures).opens;
  few = omega (arith, c.cells_of-cells.ensures.few);
}

pub returns-in-Some-clause-due : goal.returns-in-Some-clause-due
returns-in-Some-clause-due c =
    let s = c.args.self in
    let t = tag_of_id c.args.id in
    let i = c.loop-position.position in
    let cells = c.cells_of-cells.result.now in
    let cell = c.cell_at-cell.result.now in
    let tagged = c.in-Some.ensures.begins.tagged in
    let by_tag =
    scan-all t s.parent.now.part s.parent.now.node s.position cells c.cells_of-cells.ensures.meant ∙ c.loop-position.invariant.0
    ∙ scan-found t s.parent.now.part s.parent.now.node i cells cell _ c.cell_at-cell.ensures tagged.is in
    record {
      is = tag-due t (next_from s.parent.now.part s.parent.now.node s.position) _ by_tag;
      begins = (cell-said s.parent.now.node i cells cell c.cells_of-cells.ensures.meant c.cell_at-cell.ensures).begins t s.parent.now.part _ _ (record { is = tagged.is; by = tagged.by });
      parent = refl;
      later = c.loop-position.invariant.1.later;
      passed = c.loop-position.invariant.1.apart;
      placed = (cell-said s.parent.now.node i cells cell c.cells_of-cells.ensures.meant c.cell_at-cell.ensures).placed;
      row =
          let said = cell-said s.parent.now.node i cells cell c.cells_of-cells.ensures.meant c.cell_at-cell.ensures in
          row-of s.parent.now.part s.parent.now.node i cell.slot _ said.placed said.there;
      stays = λ any. absurd (none-by-tag t s.parent.now.part s.parent.now.node s.position _ any by_tag);
    }

pub returns-then-cell-clause-due : goal.returns-then-cell-clause-due
returns-then-cell-clause-due c =
    let s = c.args.self in
    let t = tag_of_id c.args.id in
    let cells = c.cells_of-cells.result.now in
    scan-all t s.parent.now.part s.parent.now.node s.position cells c.cells_of-cells.ensures.meant ∙ c.loop-position.invariant.0
    ∙ scan-stop t s.parent.now.part s.parent.now.node c.loop-position.position cells c.cell_at-cell.result.now c.cell_at-cell.ensures c.in_default.ensures.begins c.if-cell.true

pub loop-position-init : goal.loop-position-init
loop-position-init c = (refl, passed-none (tag_of_id c.args.id) c.args.self.parent.now.node c.args.self.position)

pub loop-position-preserved : goal.loop-position-preserved
loop-position-preserved c =
    let s = c.args.self in
    let t = tag_of_id c.args.id in
    let cells = c.cells_of-cells.result.now in (
      c.loop-position.invariant.0 ∙ scan-skip t s.parent.now.part s.parent.now.node c.loop-position.position cells c.cell_at-cell.result.now c.cell_at-cell.ensures c.in_default.ensures.begins c.if-cell.false,
      passed-next t s.parent.now.node s.position c.loop-position.position cells c.cell_at-cell.result.now c.cells_of-cells.ensures.meant c.cell_at-cell.ensures c.in_default.ensures.begins c.loop-position.invariant.1,
    )

pub returns-clause-due : goal.returns-clause-due
returns-clause-due c =
    let s = c.args.self in
    let t = tag_of_id c.args.id in
    let cells = c.cells_of-cells.result.now in
    scan-all t s.parent.now.part s.parent.now.node s.position cells c.cells_of-cells.ensures.meant ∙ c.loop-position.invariant.0
    ∙ scan-end t s.parent.now.part s.parent.now.node c.loop-position.position cells (omega (arith, c.loop-position-test.false))

pub returns-in-Some-clause-two : goal.returns-in-Some-clause-two
returns-in-Some-clause-two c two =
    let cell = at_row is_two_cell c.cells_of-cells.result.now c.loop-position.position c.cell_at-cell.result.now (c.cells_of-cells.ensures.two two) c.cell_at-cell.ensures in
    rw two (c.in-Some.ensures.two cell)
