use Rattle.ill_normal.proofs.OneWay.{no_end_no_more}
use Rattle.ill_normal.proofs.skipping_laws.unknown_ends_are_last.Goals as goal

pub returns : goal.returns
returns c = no_end_no_more
