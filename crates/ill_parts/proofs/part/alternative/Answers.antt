use Rattle.ill_parts.proofs.Shapes.{option_fits, content_of-option}
use Rattle.ill_parts.proofs.part.alternative.Goals as goal

pub returns-clause-value : goal.returns-clause-value
returns-clause-value g c = rw (content_of-option, c.in_ok-new.ensures.ok)

pub returns-clause-fits : goal.returns-clause-fits
returns-clause-fits g c = rw (content_of-option, c.in_ok-new.ensures.ok) (option_fits _ _ _ c.requires.kind c.requires.alternative)
