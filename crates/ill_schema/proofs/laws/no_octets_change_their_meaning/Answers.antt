use Rattle.ill_schema.proofs.BothProfiles.{both_one, both_plain, both_prefix}
use Rattle.ill_schema.proofs.laws.no_octets_change_their_meaning.Goals as goal

pub returns-clause-apdu : goal.returns-clause-apdu
returns-clause-apdu c = both_one

pub returns-clause-plain : goal.returns-clause-plain
returns-clause-plain c = both_plain

pub returns-clause-prefix : goal.returns-clause-prefix
returns-clause-prefix c = both_prefix
