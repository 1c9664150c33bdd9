use Rattle.std.proofs.Common.{rules}
use Rattle.ber_leaf.specs.Profile.{profile_two}
use Rattle.ber_leaf.specs.Simple.{whole}
use Rattle.ill_schema.specs.Fits.{FitsSimple}
use Rattle.ill_tables.specs.declared.node.NodeId.TheVariants.{Integer}
use Rattle.ill_schema.proofs.Contents.{content_of-Whole}
use Rattle.ill_schema.proofs.LeafFits.{whole_fits}
use Rattle.ill_parts.proofs.leaves.number_value.Goals as goal

pub returns-clause-fits : goal.returns-clause-fits
returns-clause-fits c =
    let h : FitsSimple profile_two (whole c.args.number) Integer = (whole_fits Integer c.args.number c.ranges.number).0 tt in
    rw content_of-Whole (search (rules, h))
