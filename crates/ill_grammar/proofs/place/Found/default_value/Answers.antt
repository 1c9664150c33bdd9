use Rattle.std.proofs.Common.{rules, ◌≡◌, Some, option_map, pos, to_z, w64, sym, ap, ◌∙◌}
use Rattle.ill_grammar.specs.Places.{element_found}
use Rattle.ill_grammar.proofs.FirstAndAfter.{default-due}
use Rattle.ill_grammar.proofs.place.Found.default_value.Goals as goal

pub returns-in-Some : goal.returns-in-Some
returns-in-Some c =
    let f = c.args.self in
    let z : to_z w64 c.in-Some.default ≡ pos c.in-Some.default = search rules in
    ap Some z ∙ ap (option_map pos) (sym c.in-Some.is) ∙ f.default_is ∙ default-due f.at.parent.now.part f.at.parent.now.node f.at.position f.cell.now.slot (element_found f)

pub returns-in-None : goal.returns-in-None
returns-in-None c =
    let f = c.args.self in
    ap (option_map pos) (sym c.in-None.is) ∙ f.default_is ∙ default-due f.at.parent.now.part f.at.parent.now.node f.at.position f.cell.now.slot (element_found f)
