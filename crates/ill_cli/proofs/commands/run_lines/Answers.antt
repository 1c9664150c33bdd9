use Rattle.ill_cli.proofs.Statuses.{lines_failed}
use Rattle.ill_cli.proofs.commands.run_lines.Goals as goal

pub returns-in_default : goal.returns-in_default
returns-in_default g c = lines_failed c.args.results c.out_of_memory.result c.end.result c.end.ensures
