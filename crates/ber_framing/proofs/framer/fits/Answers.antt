use Rattle.std.proofs.Common.{arith}
use Rattle.ber_framing.proofs.LengthSteps.{fits_none}
use Rattle.ber_framing.proofs.framer.fits.Goals as goal

pub returns-in_default : goal.returns-in_default
returns-in_default c = fits_none c.args.value c.args.missing_len (omega arith)
