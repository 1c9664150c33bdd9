use Rattle.ill_write.proofs.Putting.{takes_part}
use Rattle.ill_write.proofs.put.send.Goals as goal

pub returns-in-Err-clause-sends : goal.returns-in-Err-clause-sends
returns-in-Err-clause-sends g c =
    takes_part _ _ c.args.octets.now c.in-Err.count c.args.written.now _ c.in-Err.ensures.fewer c.in-Err.ensures.some c.counted-in-Err.ensures
