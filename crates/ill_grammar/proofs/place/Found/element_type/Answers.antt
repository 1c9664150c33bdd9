use Rattle.ill_grammar.specs.Places.{element_found}
use Rattle.ill_grammar.proofs.FirstAndAfter.{element-due}
use Rattle.ill_grammar.proofs.place.Found.element_type.Goals as goal

pub returns-clause-element : goal.returns-clause-element
returns-clause-element c = let f = c.args.self in element-due f.at.parent.now.part f.at.parent.now.node f.at.position f.cell.now.slot (element_found f)
