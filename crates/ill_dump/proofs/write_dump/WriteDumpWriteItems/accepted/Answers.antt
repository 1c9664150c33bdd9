use Rattle.std.proofs.Common.{refl, sym}
use Rattle.ill_dump.proofs.WrittenLines.{other_put}
use Rattle.ill_dump.proofs.write_dump.WriteDumpWriteItems.accepted.Goals as goal

pub returns-then-not-is_chosen-clause-puts : goal.returns-then-not-is_chosen-clause-puts
returns-then-not-is_chosen-clause-puts g c octets h = (refl, other_put c.args.self.now.dump c.args.place.number _ (sym c.if-not-is_chosen.ensures))
