use Rattle.ill_parts.proofs.Shapes.{option_holds, content_of-option}
use Rattle.ill_parts.proofs.part.chosen.Goals as goal

pub returns-clause-value : goal.returns-clause-value
returns-clause-value g c = rw (c.in-Alt.is, content_of-option, c.deref.ensures)

pub returns-clause-alternative : goal.returns-clause-alternative
returns-clause-alternative g c =
    rw c.deref.ensures (option_holds _ _ _ (rw (c.in-Alt.is, content_of-option) at c.requires.fits))
