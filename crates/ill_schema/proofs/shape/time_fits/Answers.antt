use Rattle.ill_schema.proofs.LeafFits.{through, time_fits}
use Rattle.ill_schema.proofs.shape.time_fits.Goals as goal

pub returns : goal.returns
returns c = through c.has_kind.ensures (time_fits c.args.node c.args.text.now c.octets.ensures.content)
