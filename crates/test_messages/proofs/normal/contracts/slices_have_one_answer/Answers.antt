use Rattle.std.proofs.Common.{subst}
use Rattle.ill_schema.specs.Message.{apdu_of}
use Rattle.ill_refusals.specs.Fault.{fault_of}
use Rattle.ill_read.proofs.Accepted.{decode_answers, refuses_whole}
use Rattle.ill_read.specs.code.ReaderCode.{DecodeAnswers}
use Rattle.ill_normal.proofs.Canonical.{refuses_once, spells_once}
use Rattle.ill_refusals.proofs.Refusals.{same_refusal}
use Rattle.test_messages.proofs.normal.contracts.slices_have_one_answer.Goals as goal

pub returns-clause-message : goal.returns-clause-message
returns-clause-message c m n p q =
    let s = c.args.octets.now in
    spells_once (apdu_of m) (apdu_of n) s (subst (DecodeAnswers s) p (decode_answers _ _ c.decode.ensures.spelled c.decode.ensures.refused)).spells (subst (DecodeAnswers s) q (decode_answers _ _ c.decode-2.ensures.spelled c.decode-2.ensures.refused)).spells

pub returns-clause-octets : goal.returns-clause-octets
returns-clause-octets c m p = (subst (DecodeAnswers c.args.octets.now) p (decode_answers _ _ c.decode.ensures.spelled c.decode.ensures.refused)).octets

pub returns-clause-refusal : goal.returns-clause-refusal
returns-clause-refusal c x y p q =
    let s = c.args.octets.now in
    same_refusal x y (refuses_once s (fault_of x) (fault_of y) (subst (DecodeAnswers s) p (decode_answers _ _ c.decode.ensures.spelled c.decode.ensures.refused)) (subst (DecodeAnswers s) q (decode_answers _ _ c.decode-2.ensures.spelled c.decode-2.ensures.refused)))

pub returns-clause-apart : goal.returns-clause-apart
returns-clause-apart c m y p q =
    let s = c.args.octets.now in
    refuses_whole s (fault_of y) (apdu_of m) (subst (DecodeAnswers s) q (decode_answers _ _ c.decode-2.ensures.spelled c.decode-2.ensures.refused)) (subst (DecodeAnswers s) p (decode_answers _ _ c.decode.ensures.spelled c.decode.ensures.refused)).spells
