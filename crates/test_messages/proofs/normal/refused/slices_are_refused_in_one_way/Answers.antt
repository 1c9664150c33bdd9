use Rattle.std.proofs.Common.{Bool, IfErr, Result, subst}
use Rattle.ill_refusals.specs.Fault.{fault_of}
use Rattle.ill_refusals.proofs.Refusals.{same_refusal}
use Rattle.ill_read.specs.Answers.{IfRefused, RefusesWhole}
use Rattle.ill_read.specs.declared.failure.Failure.{Failure}
use Rattle.ill_normal.proofs.Canonical.{refuses_once}
use Rattle.test_messages.proofs.normal.refused.slices_are_refused_in_one_way.Goals as goal

pub returns : goal.returns
returns c x y p q =
    let s = c.args.octets.now in
    let P : Result Bool Failure → Type 0 = λ r. IfErr r (λ e. IfRefused e (RefusesWhole s)) in
    same_refusal x y (refuses_once s (fault_of x) (fault_of y) (subst P p c.is_normal.ensures.refused) (subst P q c.is_normal-2.ensures.refused))
