use Rattle.std.proofs.Common.{arith}
use Rattle.ill_normal.proofs.TakenElements.{framing_more, element_ends, element_endless, part_taken}
use Rattle.ill_normal.proofs.next_message.take_framed.Goals as goal

pub returns-in-Ok-eq0-clause-element : goal.returns-in-Ok-eq0-clause-element
returns-in-Ok-eq0-clause-element g c =
    λ frame judged. element_ends _ _ _ _ _ _ _ _ _ c.in-Ok-eq0.field-0 c.element.invariant.framing c.in-Ok-eq0.ensures.takes frame c.in-Ok-eq0.field-0-test judged

pub returns-in-Err-clause-broken : goal.returns-in-Err-clause-broken
returns-in-Err-clause-broken g c is_broken =
    (c.in-Err.ensures.broken is_broken, part_taken _ _ _ _ _ _ _ c.element.invariant.framing (c.in-Err.ensures.part is_broken))

pub element-preserved : goal.element-preserved
element-preserved g c = record {
  framing = rw c.saturating_add-octets.ensures (framing_more _ _ _ _ _ _ _ _ _ c.in-Ok.count c.element.invariant.framing c.in-Ok.ensures.takes _ (let some = c.in-Ok.count-test.1 in omega arith));
  space = omega (arith, c.in-Ok.ensures.room, c.element.invariant.space);
  stays = λ h. c.in-Ok.ensures.stays (c.element.invariant.stays h);
}

pub returns-clause-element : goal.returns-clause-element
returns-clause-element g c = λ frame judged. element_endless _ _ _ _ c.element.counter _ frame c.element.invariant.framing (omega arith) judged
