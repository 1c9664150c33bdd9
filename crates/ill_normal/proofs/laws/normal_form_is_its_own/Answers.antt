use Rattle.ill_tables.specs.declared.profile.Profile.TheVariants.{Two}
use Rattle.ill_normal.proofs.Canonical.{own_normal}
use Rattle.ill_normal.proofs.laws.normal_form_is_its_own.Goals as goal

pub returns : goal.returns
returns c = record { two = own_normal Two; each = own_normal }
