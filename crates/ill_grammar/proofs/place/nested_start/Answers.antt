use Rattle.std.proofs.Common.{◌≡◌, ℕ, ◌+◌, suc, drop, option_map, sym, ap, subst, ◌∙◌, arith}
use Rattle.ber_core.specs.Id.{tag_of_id}
use Rattle.ill_schema.proofs.Tags.{at_row}
use Rattle.ill_grammar.specs.Elements.{element_with}
use Rattle.ill_grammar.specs.Cells.{is_two_cell, node_choice}
use Rattle.ill_grammar.specs.code.Meant.{cell_start}
use Rattle.ill_grammar.specs.code.Starts.{BeginsIn}
use Rattle.ill_grammar.proofs.Alternatives.{begins-nested, drop-at, element_with-found, element_with-other, open-at, starts-nested, starts_from}
use Rattle.ill_grammar.proofs.place.nested_start.Goals as goal

pub loop-row-init : goal.loop-row-init
loop-row-init c =
    let cells = c.alternatives_of-cells.result.now in
    ap (element_with (tag_of_id c.args.id)) (starts-nested c.args.node cells c.requires c.alternatives_of-cells.ensures.meant)

pub returns-then-has_tag-clause-begins : goal.returns-then-has_tag-clause-begins
returns-then-has_tag-clause-begins c =
    let t = tag_of_id c.args.id in
    let cells = c.alternatives_of-cells.result.now in
    let row = c.loop-row.row in
    let cell = c.cell_at-cell.result.now in
    let same = sym c.has_tag.ensures ∙ c.if-has_tag.true in
    let own = open-at 0 row cells cell c.alternatives_of-cells.ensures.open c.cell_at-cell.ensures in
    let z : row ≡ 0 + row = omega arith in
    record {
      tagged = record {
        is = c.loop-row.invariant ∙ ap (λ cs. element_with t (starts_from cs)) (drop-at cells row cell c.cell_at-cell.ensures)
            ∙ element_with-found t (cell_start cell) _ same;
        by = subst (λ (n : ℕ). BeginsIn t (node_choice c.args.node) (option_map (λ _. n) (node_choice c.args.node)) (cell_start cell).element) (z ∙ own.1)
            (begins-nested t c.args.node row cells cell c.requires c.alternatives_of-cells.ensures.meant c.cell_at-cell.ensures same);
      };
      opens = own.0;
    }

pub loop-row-preserved : goal.loop-row-preserved
loop-row-preserved c =
    let t = tag_of_id c.args.id in
    let cells = c.alternatives_of-cells.result.now in
    let row = c.loop-row.row in
    let cell = c.cell_at-cell.result.now in
    let z : suc row ≡ row + 1 = omega arith in
    let other = sym c.has_tag.ensures ∙ c.if-has_tag.false in
    c.loop-row.invariant ∙ ap (λ cs. element_with t (starts_from cs)) (drop-at cells row cell c.cell_at-cell.ensures)
    ∙ element_with-other t (cell_start cell) _ other
    ∙ ap (λ j. element_with t (starts_from (drop j cells))) z

pub returns-then-has_tag-clause-two : goal.returns-then-has_tag-clause-two
returns-then-has_tag-clause-two c two =
    at_row is_two_cell c.alternatives_of-cells.result.now c.loop-row.row c.cell_at-cell.result.now (c.alternatives_of-cells.ensures.two two) c.cell_at-cell.ensures
