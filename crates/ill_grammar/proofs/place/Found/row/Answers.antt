use Rattle.std.proofs.Common.{◌-◌, sym, subst, IsTrue}
use Rattle.ber_leaf.specs.Profile.{profile_two}
use Rattle.ill_tables.specs.Table.{kind_of}
use Rattle.ill_refusals.specs.Element.{components}
use Rattle.ill_grammar.specs.Cells.{due_at, is_placed}
use Rattle.ill_grammar.specs.code.Meant.{row_there}
use Rattle.ill_grammar.specs.Places.{IsAtRow, element_found}
use Rattle.ill_grammar.proofs.AtRow.{row-at, row-number}
use Rattle.ill_grammar.proofs.place.Found.row.Goals as goal

pub returns-clause-row : goal.returns-clause-row
returns-clause-row c = let f = c.args.self in row-number f.at.position

pub returns-clause-component : goal.returns-clause-component
returns-clause-component c =
    let f = c.args.self in
    subst (λ s. IsAtRow f.at.parent.now.node (f.at.position - 1) (due_at f.at.parent.now.part f.at.parent.now.node f.at.position s (element_found f))) (sym c.requires)
    (row-at f.at.parent.now.part f.at.parent.now.node f.at.position (element_found f)
    (subst (λ s. IsTrue (is_placed (kind_of f.at.parent.now.node) f.at.position s)) c.requires f.placed)
    (subst (λ s. IsTrue (row_there s f.at.position (components profile_two f.at.parent.now.node))) c.requires f.there))
