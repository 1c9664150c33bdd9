use Rattle.ill_tables.specs.declared.profile.Profile.TheVariants.{Two}
use Rattle.ill_read.proofs.decoder.Decoder.need.Goals as goal

pub returns-clause-some : goal.returns-clause-some
returns-clause-some c fed h = c.need.ensures.some Two fed h

pub returns-clause-at_least : goal.returns-clause-at_least
returns-clause-at_least c fed more a n h octets accepted = c.need.ensures.at_least Two fed more a n h octets accepted
