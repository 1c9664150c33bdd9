use Rattle.ill_build.proofs.WrittenLines.{shown_line_once}
use Rattle.ill_build.proofs.laws.lines_are_one_to_one.Goals as goal

pub returns : goal.returns
returns c = shown_line_once
