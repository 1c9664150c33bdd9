use Rattle.std.proofs.Common.{refl, arith}
use Rattle.ill_text.proofs.Bounds.{text_bound}
use Rattle.ill_text.proofs.text.Text.new_as.Goals as goal

pub returns : goal.returns
returns c a octets h outline = (a, outline, refl, text_bound c.args.profile c.args.number a octets (omega arith) h)
