use Rattle.std.proofs.Common.{◌≡◌, ◌↔◌, Bool, IfErr, IsTrue, Result, subst}
use Rattle.ill_schema.specs.Apdu.{normal_form_in}
use Rattle.ill_schema.specs.Profiles.{profile_of}
use Rattle.ill_refusals.specs.Fault.{fault_of}
use Rattle.ill_refusals.proofs.Refusals.{same_refusal}
use Rattle.ill_read.specs.Answers.{IfRefused}
use Rattle.ill_read.specs.declared.failure.Failure.{Failure}
use Rattle.ill_normal.specs.Compared.{RefusesSideIn}
use Rattle.ill_inputs.specs.declared.side.Side.{Side}
use Rattle.ill_normal.proofs.Canonical.{spells_once}
use Rattle.test_messages.proofs.Accepted.{if_ok}
use Rattle.test_messages.proofs.Refused.{one_side}
use Rattle.test_messages.proofs.normal.profiles.slices_are_compared_in_each_profile.Goals as goal

pub returns-clause-same : goal.returns-clause-same
returns-clause-same c a b h k =
    let form = normal_form_in (profile_of c.args.profile) in
    if_ok c.same_message_as.result _ _ (λ same x.
    let p = spells_once x.0 a c.args.first.now x.2 h in
    let q = spells_once x.1 b c.args.second.now x.3 k in (
      subst (λ z. IsTrue same ↔ (z ≡ b)) p (subst (λ z. IsTrue same ↔ (x.0 ≡ z)) q x.4),
      subst (λ z. IsTrue same ↔ (form z ≡ form b)) p (subst (λ z. IsTrue same ↔ (form x.0 ≡ form z)) q x.5),
    ))
    c.same_message_as.ensures.same

pub returns-clause-refused : goal.returns-clause-refused
returns-clause-refused c s t x y e d =
    let p = profile_of c.args.profile in
    let a = c.args.first.now in
    let b = c.args.second.now in
    let P : Result Bool (Side × Failure) → Type 0 = λ r. IfErr r (λ e. IfRefused e.1 (RefusesSideIn p a b e.0)) in
    let one = one_side p a b s t (fault_of x) (fault_of y) (subst P e c.same_message_as.ensures.refused) (subst P d c.same_message_as-2.ensures.refused) in
    (one.0, same_refusal x y one.1)
