use Rattle.std.proofs.Common.{refl}
use Rattle.ill_tables.specs.declared.node.NodeId.TheVariants.{IsoTime}
use Rattle.ill_schema.proofs.Contents.{content_of-Time}
use Rattle.ill_schema.proofs.LeafFits.{time_fits}
use Rattle.ill_parts.specs.Shape.{Is}
use Rattle.ill_parts.proofs.leaves.TimeTextPart.to_value.Goals as goal

pub returns-clause-fits : goal.returns-clause-fits
unfolding Is
returns-clause-fits c = rw (content_of-Time, c.in_ok-copy.ensures) ((time_fits IsoTime c.args.self.now c.octets.ensures.content).0 refl)
