use Rattle.std.proofs.Common.{refl}
use Rattle.ill_tables.specs.declared.node.NodeId.TheVariants.{Boolean}
use Rattle.ill_schema.proofs.Contents.{content_of-Flag}
use Rattle.ill_schema.proofs.LeafFits.{flag_fits}
use Rattle.ill_parts.specs.Shape.{Is}
use Rattle.ill_parts.proofs.leaves.BoolPart.to_value.Goals as goal

pub returns-clause-fits : goal.returns-clause-fits
unfolding Is
returns-clause-fits c = rw content_of-Flag ((flag_fits Boolean c.args.self.now).0 refl)
