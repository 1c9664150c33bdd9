use Rattle.ber_leaf.specs.Profile.{profile_two}
use Rattle.ill_read.proofs.Accepted.{reads_accepted}
use Rattle.ill_read.proofs.read.read_message.Goals as goal

pub returns : goal.returns
returns g c =
    let next = c.read_value.ensures in
    record { next = next; spelled = next.message; accepts = reads_accepted profile_two _ _ _ _ _ c.read_value.result next }
