use Rattle.json.specs.Value.{value_view}
use Rattle.ill_schema.specs.Profiles.{profile_of}
use Rattle.ill_build.proofs.LeafTexts.{octets_read}
use Rattle.ill_build.proofs.leaf.read_octets.Goals as goal

pub returns-clause-said : goal.returns-clause-said
returns-clause-said c row =
    let h = c.in_ok-octets.ensures.said in
    octets_read (profile_of c.args.context.profile) row (value_view c.args.value.now) c.in_ok-octets.octets.items h.0 h.1
