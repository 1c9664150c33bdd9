use Rattle.std.proofs.Common.{refl}
use Rattle.ill_apdu.proofs.Apdus.{has_none_is_long}
use Rattle.ill_apdu.proofs.apdu.Apdu.message_of.Goals as goal

pub returns-clause-too_long : goal.returns-clause-too_long
returns-clause-too_long c =
    (refl, has_none_is_long c.in-Err.field-0.1 c.args.self.now c.number.result c.args.body c.number.ensures c.requires.value c.requires.fits c.in-Err.ensures.unfit)
