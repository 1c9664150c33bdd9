use Rattle.ill_build.proofs.OneSaid.{line_once}
use Rattle.ill_build.proofs.LinesUnsaid.{faulty_line_clean}
use Rattle.ill_build.proofs.fault_laws.a_faulty_line_says_nothing.Goals as goal

pub returns : goal.returns
returns c = λ p line a cause path f s fit short normal. faulty_line_clean p line a cause path short (record { fits = fit; short = normal }) s (λ j b t u g. line_once p j a b t u fit g) f
