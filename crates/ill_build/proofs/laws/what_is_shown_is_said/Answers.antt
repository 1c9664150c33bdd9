use Rattle.ill_build.proofs.WrittenLines.{shown_line_said}
use Rattle.ill_build.proofs.laws.what_is_shown_is_said.Goals as goal

pub returns : goal.returns
returns c = shown_line_said
