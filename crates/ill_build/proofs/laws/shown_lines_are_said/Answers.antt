use Rattle.ill_build.proofs.ShownSaid.{line_said}
use Rattle.ill_build.proofs.laws.shown_lines_are_said.Goals as goal

pub returns : goal.returns
returns c = line_said
