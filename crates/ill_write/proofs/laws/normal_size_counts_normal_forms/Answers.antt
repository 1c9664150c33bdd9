use Rattle.ill_schema.proofs.Carried.{node_form-apdu}
use Rattle.ill_write.proofs.laws.normal_size_counts_normal_forms.Goals as goal

pub returns : goal.returns
returns c = node_form-apdu
