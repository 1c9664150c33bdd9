use Rattle.ill_schema.proofs.LeafFits.{through, printable_fits}
use Rattle.ill_schema.proofs.shape.printable_fits.Goals as goal

pub returns : goal.returns
returns c = through c.has_kind.ensures (printable_fits c.args.node c.args.text.now c.octets.ensures.content)
