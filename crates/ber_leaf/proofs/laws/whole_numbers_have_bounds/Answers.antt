use Rattle.ber_leaf.specs.Profile.{profile_two}
use Rattle.ber_leaf.proofs.Integers.{whole_bounds}
use Rattle.ber_leaf.proofs.laws.whole_numbers_have_bounds.Goals as goal

pub returns : goal.returns
returns c = λ n. whole_bounds profile_two n
