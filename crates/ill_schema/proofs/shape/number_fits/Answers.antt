use Rattle.ill_schema.proofs.LeafFits.{through, whole_fits}
use Rattle.ill_schema.proofs.shape.number_fits.Goals as goal

pub returns : goal.returns
returns c = through c.is_numeric.ensures (whole_fits c.args.node c.args.number c.ranges.number)
