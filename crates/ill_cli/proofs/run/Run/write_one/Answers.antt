use Rattle.std.proofs.Common.{Err, inl}
use Rattle.ill_cli.proofs.run.Run.write_one.Goals as goal

pub returns-in-Err : goal.returns-in-Err
returns-in-Err g c = (Err c.in-Err.error, inl c.end.ensures.status)
