use Rattle.std.proofs.Common.{◌∙◌, sym}
use Rattle.test_commands.proofs.jobs.contracts.outlines_have_one_line_of_json.Goals as goal

pub returns : goal.returns
returns c a h k = c.in_ok-json_line.ensures a h ∙ sym (c.in_ok-json_line-2.ensures a k)
