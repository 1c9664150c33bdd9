use Rattle.ill_c.proofs.Parts.{text_short}
use Rattle.ill_c.proofs.laws.parts_are_short.Goals as goal

pub returns : goal.returns
returns c = text_short
