use Rattle.std.proofs.Common.{refl}
use Rattle.ill_tables.specs.declared.node.NodeId.TheVariants.{IllString}
use Rattle.ill_schema.proofs.Contents.{content_of-Str}
use Rattle.ill_schema.proofs.LeafFits.{string_fits}
use Rattle.ill_parts.specs.Shape.{Is}
use Rattle.ill_parts.proofs.leaves.IllStringPart.to_value.Goals as goal

pub returns-clause-fits : goal.returns-clause-fits
unfolding Is
returns-clause-fits c = rw (content_of-Str, c.in_ok-copy.ensures) ((string_fits IllString c.args.self.now c.octets.ensures.content).0 refl)
