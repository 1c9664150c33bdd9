use Rattle.std.proofs.Common.{Bool, IfErr, Result, subst}
use Rattle.ber_leaf.specs.Profile.{profile_two}
use Rattle.ill_refusals.specs.Fault.{fault_of}
use Rattle.ill_refusals.proofs.Refusals.{same_refusal}
use Rattle.ill_read.specs.Answers.{IfRefused}
use Rattle.ill_read.specs.declared.failure.Failure.{Failure}
use Rattle.ill_normal.specs.Compared.{RefusesSide}
use Rattle.ill_inputs.specs.declared.side.Side.{Side}
use Rattle.test_messages.proofs.Refused.{one_side}
use Rattle.test_messages.proofs.normal.refused.sides_are_refused_in_one_way.Goals as goal

pub returns : goal.returns
returns c s t x y p q =
    let a = c.args.first.now in
    let b = c.args.second.now in
    let P : Result Bool (Side × Failure) → Type 0 = λ r. IfErr r (λ e. IfRefused e.1 (RefusesSide a b e.0)) in
    let one = one_side profile_two a b s t (fault_of x) (fault_of y) (subst P p c.same_message.ensures.refused) (subst P q c.same_message-2.ensures.refused) in
    (one.0, same_refusal x y one.1)
