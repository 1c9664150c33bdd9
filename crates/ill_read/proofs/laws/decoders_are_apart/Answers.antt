use Rattle.ill_read.proofs.MessageEnds.{states_apart}
use Rattle.ill_read.proofs.laws.decoders_are_apart.Goals as goal

pub returns : goal.returns
returns c = states_apart
