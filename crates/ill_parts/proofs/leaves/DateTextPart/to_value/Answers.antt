use Rattle.std.proofs.Common.{refl}
use Rattle.ill_tables.specs.declared.node.NodeId.TheVariants.{IsoDate}
use Rattle.ill_schema.proofs.Contents.{content_of-Date}
use Rattle.ill_schema.proofs.LeafFits.{date_fits}
use Rattle.ill_parts.specs.Shape.{Is}
use Rattle.ill_parts.proofs.leaves.DateTextPart.to_value.Goals as goal

pub returns-clause-fits : goal.returns-clause-fits
unfolding Is
returns-clause-fits c = rw (content_of-Date, c.in_ok-copy.ensures) ((date_fits IsoDate c.args.self.now c.octets.ensures.content).0 refl)
