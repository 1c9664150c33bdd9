use Rattle.ber_framing.proofs.Frames.{tree_framed}
use Rattle.ber_framing.proofs.laws.spellings_are_framed.Goals as goal

pub returns : goal.returns
returns c = λ t b h le d. tree_framed t 18_446_744_073_709_551_615 b h le d
