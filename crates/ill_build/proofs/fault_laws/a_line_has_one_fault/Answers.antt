use Rattle.ill_build.proofs.OneFault.{one_line_fault}
use Rattle.ill_build.proofs.fault_laws.a_line_has_one_fault.Goals as goal

pub returns : goal.returns
returns c = λ p line cause other path place f g. one_line_fault p line cause other path place f g
