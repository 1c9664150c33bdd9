use Rattle.std.proofs.Common.{◌∙◌}
use Rattle.ill_read.proofs.path.Path.take.Goals as goal

pub take_other_element-requires-clause-rest : goal.take_other_element-requires-clause-rest
take_other_element-requires-clause-rest g c l e = c.in_default-element.not-Leaf l (c.element-element.ensures.element ∙ e)
