use Rattle.ber_leaf.specs.Profile.{profile_two}
use Rattle.ill_schema.proofs.Streams.{accepts_once}
use Rattle.ill_normal.proofs.laws.one_prefix_is_accepted.Goals as goal

pub returns : goal.returns
returns c = record { two = accepts_once profile_two; each = accepts_once }
