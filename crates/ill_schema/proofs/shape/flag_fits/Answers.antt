use Rattle.ill_schema.proofs.LeafFits.{through, flag_fits}
use Rattle.ill_schema.proofs.shape.flag_fits.Goals as goal

pub returns : goal.returns
returns c = through c.has_kind.ensures (flag_fits c.args.node c.args.value)
