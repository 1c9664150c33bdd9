use Rattle.ber_framing.proofs.FrameEnds.{is_unframed}
use Rattle.ber_framing.proofs.framer.Framer.oversized_length_rest.Goals as goal

pub returns-in-Unframed : goal.returns-in-Unframed
returns-in-Unframed c b h known = absurd (known (is_unframed c.args.self.now b c.in-Unframed.missing_len h c.in-Unframed.is))
