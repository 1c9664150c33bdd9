use Rattle.std.proofs.Common.{◌≡◌, ◌↔◌, IsTrue, subst}
use Rattle.ill_schema.specs.Apdu.{normal_form}
use Rattle.ill_normal.proofs.Canonical.{spells_once}
use Rattle.test_messages.proofs.Accepted.{if_ok}
use Rattle.test_messages.proofs.normal.contracts.slices_are_the_same_where_their_apdus_are.Goals as goal

pub returns : goal.returns
returns c a b h k = if_ok c.same_message.result _ _ (λ same x.
    let p = spells_once x.0 a c.args.first.now x.2 h in
    let q = spells_once x.1 b c.args.second.now x.3 k in (
      subst (λ z. IsTrue same ↔ (z ≡ b)) p (subst (λ z. IsTrue same ↔ (x.0 ≡ z)) q x.4),
      subst (λ z. IsTrue same ↔ (normal_form z ≡ normal_form b)) p (subst (λ z. IsTrue same ↔ (normal_form x.0 ≡ normal_form z)) q x.5),
    ))
    c.same_message.ensures.same
