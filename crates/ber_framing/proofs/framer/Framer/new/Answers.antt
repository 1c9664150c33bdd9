use Rattle.ber_framing.proofs.FrameEnds.{fed_none, first_element}
use Rattle.ber_framing.proofs.framer.Framer.new.Goals as goal

pub returns : goal.returns
returns c = fed_none _ (first_element 18_446_744_073_709_551_615)
