use Rattle.std.proofs.Common.{refl}
use Rattle.ber_leaf.proofs.laws.enumerated_is_held_as_integer.Goals as goal

pub returns-clause-fault : goal.returns-clause-fault
returns-clause-fault c = λ p octets. refl

pub returns-clause-holds : goal.returns-clause-holds
returns-clause-holds c = λ p v octets. (λ h. h, λ h. h)
