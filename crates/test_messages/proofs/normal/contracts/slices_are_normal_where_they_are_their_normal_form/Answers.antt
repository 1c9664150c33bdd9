use Rattle.std.proofs.Common.{◌≡◌, ◌↔◌, IsTrue, subst}
use Rattle.ill_schema.specs.Apdu.{normal_form}
use Rattle.ill_normal.proofs.Canonical.{spells_once}
use Rattle.test_messages.proofs.Accepted.{if_ok}
use Rattle.test_messages.proofs.normal.contracts.slices_are_normal_where_they_are_their_normal_form.Goals as goal

pub returns : goal.returns
returns c a h = if_ok c.is_normal.result _ _ (λ yes x.
    subst (λ z. IsTrue yes ↔ (c.args.octets.now ≡ normal_form z)) (spells_once x.0 a c.args.octets.now x.1 h) x.2)
    c.is_normal.ensures.normal
