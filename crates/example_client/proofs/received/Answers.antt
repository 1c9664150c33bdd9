use Rattle.ber_leaf.specs.Profile.{profile_two}
use Rattle.ill_schema.specs.Message.{apdu_of}
use Rattle.example_client.proofs.received.Goals as goal

pub returns-in-Ok-clause-message : goal.returns-in-Ok-clause-message
returns-in-Ok-clause-message c = λ a h. c.one_meaning.ensures.apdu profile_two (apdu_of c.in-Ok.message) a c.args.octets.now c.in-Ok.ensures.spelled.spells h

pub returns-in-Err-Refused-clause-accepts : goal.returns-in-Err-Refused-clause-accepts
returns-in-Err-Refused-clause-accepts c = λ a h.
    let accepts = rw c.in-Err-Refused.field-0-is at c.in-Err-Refused.ensures.accepts a h in
    absurd cc
