use Rattle.std.proofs.Common.{Ok, Err, refl, sym, subst, arith, inl}
use Rattle.ill_read.specs.code.ReaderCode.{DecodeAnswers, HasBegun}
use Rattle.ill_read.proofs.MessageEnds.{decode_fails}
use Rattle.ill_read.proofs.read.decode_value.Goals as goal

pub overflow_cast-octets : goal.overflow_cast-octets
overflow_cast-octets c =
    let small = (subst (λ m. HasBegun c.args.octets.now (Ok m)) c.in-Ok-None.field-0-is c.in-Ok-None.ensures).1 in
    omega (arith, small)

pub returns-in-Ok-Some : goal.returns-in-Ok-Some
returns-in-Ok-Some c = c.message_of_slice.ensures c.args.octets.now refl (subst (λ m. HasBegun c.args.octets.now (Ok m)) c.in-Ok-Some.field-0-is c.in-Ok-Some.ensures)

pub returns-in-Ok-None : goal.returns-in-Ok-None
returns-in-Ok-None c =
    subst (λ r. DecodeAnswers c.args.octets.now (Err r)) (sym c.refused.ensures)
    (inl (subst (λ m. HasBegun c.args.octets.now (Ok m)) c.in-Ok-None.field-0-is c.in-Ok-None.ensures).0)

pub returns-in-Err : goal.returns-in-Err
returns-in-Err c = decode_fails c.args.octets.now c.in-Err.failure c.in-Err.ensures
