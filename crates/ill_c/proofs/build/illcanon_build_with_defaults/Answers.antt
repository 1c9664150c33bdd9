use Rattle.std.proofs.Common.{refl, sym}
use Rattle.ill_c.specs.declared.status.Status.{Status}
use Rattle.ill_c.proofs.build.illcanon_build_with_defaults.Goals as goal

pub returns-in-None : goal.returns-in-None
returns-in-None c = (Status.UnknownProfile, c.number-in-None.ensures, rw (sym c.in-None.ensures) (refl, refl, refl))
