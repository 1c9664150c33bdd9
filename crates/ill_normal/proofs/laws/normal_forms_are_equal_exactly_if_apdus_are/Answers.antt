use Rattle.ill_tables.specs.declared.profile.Profile.TheVariants.{Two}
use Rattle.ill_normal.proofs.Canonical.{exactly}
use Rattle.ill_normal.proofs.laws.normal_forms_are_equal_exactly_if_apdus_are.Goals as goal

pub returns : goal.returns
returns c = record { two = exactly Two; each = exactly }
