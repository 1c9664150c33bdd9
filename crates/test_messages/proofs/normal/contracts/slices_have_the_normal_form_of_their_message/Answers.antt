use Rattle.std.proofs.Common.{◌∙◌, ap, subst}
use Rattle.ill_schema.specs.Apdu.{normal_form}
use Rattle.ill_schema.specs.Message.{apdu_of}
use Rattle.ill_refusals.specs.Fault.{fault_of}
use Rattle.ill_read.proofs.Accepted.{decode_answers, refuses_whole}
use Rattle.ill_read.specs.Answers.{NormalAnswers}
use Rattle.ill_read.specs.code.ReaderCode.{DecodeAnswers}
use Rattle.ill_normal.proofs.Canonical.{refuses_once, spells_once}
use Rattle.ill_refusals.proofs.Refusals.{same_refusal}
use Rattle.test_messages.proofs.normal.contracts.slices_have_the_normal_form_of_their_message.Goals as goal

pub returns-clause-form : goal.returns-clause-form
returns-clause-form c m n p q =
    let s = c.args.octets.now in
    let normal = subst (NormalAnswers s) q c.decode_normal.ensures in
    normal.2 ∙ ap normal_form (spells_once normal.0 (apdu_of m) s normal.1 (subst (DecodeAnswers s) p (decode_answers _ _ c.decode.ensures.spelled c.decode.ensures.refused)).spells)

pub returns-clause-read : goal.returns-clause-read
returns-clause-read c n q = (subst (NormalAnswers c.args.octets.now) q c.decode_normal.ensures).3

pub returns-clause-refusal : goal.returns-clause-refusal
returns-clause-refusal c x y p q =
    let s = c.args.octets.now in
    same_refusal x y (refuses_once s (fault_of x) (fault_of y) (subst (DecodeAnswers s) p (decode_answers _ _ c.decode.ensures.spelled c.decode.ensures.refused)) (subst (NormalAnswers s) q c.decode_normal.ensures))

pub returns-clause-message : goal.returns-clause-message
returns-clause-message c m y p q =
    let s = c.args.octets.now in
    refuses_whole s (fault_of y) (apdu_of m) (subst (NormalAnswers s) q c.decode_normal.ensures) (subst (DecodeAnswers s) p (decode_answers _ _ c.decode.ensures.spelled c.decode.ensures.refused)).spells

pub returns-clause-normal : goal.returns-clause-normal
returns-clause-normal c x n p q =
    let s = c.args.octets.now in
    let normal = subst (NormalAnswers s) q c.decode_normal.ensures in
    refuses_whole s (fault_of x) normal.0 (subst (DecodeAnswers s) p (decode_answers _ _ c.decode.ensures.spelled c.decode.ensures.refused)) normal.1
