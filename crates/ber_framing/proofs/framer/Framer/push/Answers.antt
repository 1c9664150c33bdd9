use Rattle.ber_framing.proofs.FrameEnds.{fed_more}
use Rattle.ber_framing.proofs.framer.Framer.push.Goals as goal

pub returns : goal.returns
returns c = fed_more c.args.self.now c.after.result c.args.octet c.after.ensures
