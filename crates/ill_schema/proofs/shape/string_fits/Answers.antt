use Rattle.ill_schema.proofs.LeafFits.{through, string_fits}
use Rattle.ill_schema.proofs.shape.string_fits.Goals as goal

pub returns : goal.returns
returns c = through c.has_kind.ensures (string_fits c.args.node c.args.string.now c.octets.ensures.content)
