use Rattle.ill_tables.specs.declared.profile.Profile.TheVariants.{Two}
use Rattle.ill_normal.proofs.Canonical.{accepts_normal}
use Rattle.ill_normal.proofs.laws.normal_form_is_accepted.Goals as goal

pub returns : goal.returns
returns c = record { two = accepts_normal Two; each = accepts_normal }
