use Rattle.std.proofs.Common.{refl}
use Rattle.ill_commands.proofs.write_job.WriteJobWriteItems.accepted.Goals as goal

pub returns-in-Err-put-clause-fails : goal.returns-in-Err-put-clause-fails
returns-in-Err-put-clause-fails g c octets h =
    let piece = c.in-Ok.ensures octets h in
    ((c.in-Err-put.ensures.some _ piece.0, c.in-Err-put.ensures.fewer _ piece.0), c.in-Err-put.ensures.breaks _ piece.0 refl)
