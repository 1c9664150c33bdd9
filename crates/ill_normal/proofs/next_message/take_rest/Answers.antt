use Rattle.std.proofs.Common.{[], ◌∷◌}
use Rattle.ill_normal.proofs.TakenElements.{unframed_broken, unframed_end, unframed_more}
use Rattle.ill_normal.proofs.next_message.take_rest.Goals as goal

pub rest-preserved : goal.rest-preserved
rest-preserved g c =
    let more = rw c.in-Ok-true.field-0-test at c.in-Ok-true.ensures.takes in
    record {
      unframed = λ from t. unframed_more from _ _ _ _ (c.rest.invariant.unframed from t) (more.0 ∷ []) more.1 more.2;
      stays = λ h. c.in-Ok-true.ensures.stays (c.rest.invariant.stays h);
    }

pub returns-in-Ok-false-clause-rest : goal.returns-in-Ok-false-clause-rest
returns-in-Ok-false-clause-rest g c = λ from t.
    let last = rw c.in-Ok-false.field-0-test at c.in-Ok-false.ensures.takes in
    unframed_end from _ _ _ _ (c.rest.invariant.unframed from t) last.0 last.1

pub returns-in-Err-clause-broken : goal.returns-in-Err-clause-broken
returns-in-Err-clause-broken g c is_broken =
    let broken = c.in-Err.ensures.broken is_broken in
    (broken.0, λ from t. unframed_broken from _ _ _ (c.rest.invariant.unframed from t) broken.1)
