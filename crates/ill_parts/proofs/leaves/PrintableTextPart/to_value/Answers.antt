use Rattle.std.proofs.Common.{refl}
use Rattle.ill_tables.specs.declared.node.NodeId.TheVariants.{PrintableString}
use Rattle.ill_schema.proofs.Contents.{content_of-Print}
use Rattle.ill_schema.proofs.LeafFits.{printable_fits}
use Rattle.ill_parts.specs.Shape.{Is}
use Rattle.ill_parts.proofs.leaves.PrintableTextPart.to_value.Goals as goal

pub returns-clause-fits : goal.returns-clause-fits
unfolding Is
returns-clause-fits c = rw (content_of-Print, c.in_ok-copy.ensures) ((printable_fits PrintableString c.args.self.now c.octets.ensures.content).0 refl)
