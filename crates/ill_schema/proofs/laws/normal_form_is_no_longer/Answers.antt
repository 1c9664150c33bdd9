use Rattle.ill_schema.proofs.Shorter.{normal_no_longer}
use Rattle.ill_schema.proofs.laws.normal_form_is_no_longer.Goals as goal

pub returns : goal.returns
returns c = λ limit a b h le. normal_no_longer limit a h.tree b h.means h.spells le
