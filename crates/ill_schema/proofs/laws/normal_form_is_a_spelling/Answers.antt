use Rattle.ill_schema.proofs.Encodings.{normal_spells}
use Rattle.ill_schema.proofs.laws.normal_form_is_a_spelling.Goals as goal

pub returns : goal.returns
returns c = λ p a big fit le. normal_spells p a fit big le
