use Rattle.ill_schema.proofs.Encodings.{normal_unique}
use Rattle.ill_schema.proofs.laws.normal_form_is_one_to_one.Goals as goal

pub returns : goal.returns
returns c = normal_unique
