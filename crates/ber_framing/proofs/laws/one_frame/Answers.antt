use Rattle.ber_framing.proofs.Frames.{one_frame, one_judgment}
use Rattle.ber_framing.proofs.laws.one_frame.Goals as goal

pub returns-clause-frame : goal.returns-clause-frame
returns-clause-frame c = one_frame

pub returns-clause-judgment : goal.returns-clause-judgment
returns-clause-judgment c = one_judgment
