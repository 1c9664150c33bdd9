use Rattle.std.proofs.Common.{◌≡◌, ◌↔◌, Bool, IfErr, IsTrue, Result, subst}
use Rattle.ill_schema.specs.Apdu.{normal_form_in}
use Rattle.ill_schema.specs.Profiles.{profile_of}
use Rattle.ill_refusals.specs.Fault.{fault_of}
use Rattle.ill_refusals.proofs.Refusals.{same_refusal}
use Rattle.ill_read.specs.Answers.{IfRefused, RefusesWholeIn}
use Rattle.ill_read.specs.declared.failure.Failure.{Failure}
use Rattle.ill_normal.proofs.Canonical.{refuses_once, spells_once}
use Rattle.test_messages.proofs.Accepted.{if_ok}
use Rattle.test_messages.proofs.normal.profiles.slices_are_normal_in_each_profile.Goals as goal

pub returns-clause-normal : goal.returns-clause-normal
returns-clause-normal c a h =
    let form = normal_form_in (profile_of c.args.profile) in
    if_ok c.is_normal_as.result _ _ (λ yes x.
    subst (λ z. IsTrue yes ↔ (c.args.octets.now ≡ form z)) (spells_once x.0 a c.args.octets.now x.1 h) x.2)
    c.is_normal_as.ensures.normal

pub returns-clause-refused : goal.returns-clause-refused
returns-clause-refused c x y e d =
    let s = c.args.octets.now in
    let P : Result Bool Failure → Type 0 = λ r. IfErr r (λ e. IfRefused e (RefusesWholeIn (profile_of c.args.profile) s)) in
    same_refusal x y (refuses_once s (fault_of x) (fault_of y) (subst P e c.is_normal_as.ensures.refused) (subst P d c.is_normal_as-2.ensures.refused))
