use Rattle.ill_cli.proofs.Statuses.{all_collected}
use Rattle.ill_cli.proofs.run.Run.collect_files.Goals as goal

pub returns-in_default : goal.returns-in_default
returns-in_default g c = all_collected _ c.collect_all.result c.collect_all.ensures
