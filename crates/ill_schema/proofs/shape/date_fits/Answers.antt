use Rattle.ill_schema.proofs.LeafFits.{through, date_fits}
use Rattle.ill_schema.proofs.shape.date_fits.Goals as goal

pub returns : goal.returns
returns c = through c.has_kind.ensures (date_fits c.args.node c.args.text.now c.octets.ensures.content)
