use Rattle.std.proofs.Common.{◌≡◌, length, refl, sym, ap, ◌∙◌}
use Rattle.std.proofs.lemmas.List.{length-map}
use Rattle.ill_tables.specs.Names.{names_of}
use Rattle.ill_tables.proofs.RowNames.{named_row, no_named_row}
use Rattle.ill_tables.proofs.names.part_name.Goals as goal

pub returns-in_err-row-clause-there : goal.returns-in_err-row-clause-there
returns-in_err-row-clause-there c =
    let many : length c.row_names.result.now ≡ length (names_of c.args.part.node).1 = sym (length-map c.row_names.result.now (λ name. name.now)) ∙ ap length c.row_names.ensures in
    rw c.from_residual.ensures (λ s. absurd cc, λ s. absurd (no_named_row c.args.part.node _ c.args.part.row many c.in_err-row.ensures.lookup.0 s))

pub returns-clause-there : goal.returns-clause-there
returns-clause-there c =
    let many : length c.row_names.result.now ≡ length (names_of c.args.part.node).1 = sym (length-map c.row_names.result.now (λ name. name.now)) ∙ ap length c.row_names.ensures in
    (λ _. named_row c.args.part.node _ c.args.part.row many c.in_ok-row.ensures.lookup.0, λ _. refl)
