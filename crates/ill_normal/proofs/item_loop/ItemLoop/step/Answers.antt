use Rattle.std.proofs.Common.{arith, inl, refl}
use Rattle.ill_normal.proofs.ReadItems.{comes_with, ends_broken, ends_here, ends_unread, ends_untaken, takes_front, takes_on}
use Rattle.ill_normal.proofs.item_loop.ItemLoop.step.Goals as goal

pub write_refused-requires-clause-comes : goal.write_refused-requires-clause-comes
write_refused-requires-clause-comes g c =
    let refused = rw c.in-Ok-Refused.field-0-is at c.in-Ok-Refused.ensures.next in
    rw c.new-report.ensures (comes_with c.profile.result _ _ _ c.next_place.result c.in-Ok-Refused.refusal c.in-Ok-Refused.end refused)

pub returns-in-Ok-Read-clause-steps : goal.returns-in-Ok-Read-clause-steps
returns-in-Ok-Read-clause-steps g c =
    let next = rw (c.profile.ensures, c.wants.ensures) at c.in-Ok-Read.ensures.next in
    let read = rw c.in-Ok-Read.field-0-is at next in
    c.write_accepted.ensures.steps read.0 _ _ _ _ _ read.2 read.1

pub returns-in-Ok-Refused-clause-steps : goal.returns-in-Ok-Refused-clause-steps
returns-in-Ok-Refused-clause-steps g c =
    let next = rw (c.profile.ensures, c.wants.ensures) at c.in-Ok-Refused.ensures.next in
    let refused = rw c.in-Ok-Refused.field-0-is at next in
    c.write_refused.ensures.steps _ _ _ _ (rw c.new-report.ensures refused)

pub returns-in-Ok-AtEnd-clause-steps : goal.returns-in-Ok-AtEnd-clause-steps
returns-in-Ok-AtEnd-clause-steps g c =
    let end = rw c.in-Ok-AtEnd.field-0-is at c.in-Ok-AtEnd.ensures.next in
    record {
      next = λ from k. tt;
      ends = λ from k. rw c.ended.ensures (ends_here _ _ _ _ _ from _ _ _ k (omega (arith, c.requires.few)) end.0 (inl end.1) refl refl);
    }

pub returns-in-Err-clause-steps : goal.returns-in-Err-clause-steps
returns-in-Err-clause-steps g c = record {
  next = λ from k. tt;
  ends = λ from k. rw c.ended-in-Err.ensures (ends_untaken _ _ _ _ _ from _ _ _ k c.in-Err.fault c.in-Err.ensures.failed c.requires.few (takes_on c.args.self.now.reading.on_refusal _ _ c.in-GoOn.is) c.in-Err.ensures.broken refl refl);
}

pub returns-in-Ok-Some-clause-steps : goal.returns-in-Ok-Some-clause-steps
returns-in-Ok-Some-clause-steps g c =
    let read = rw (c.profile-2.ensures, c.wants-2.ensures) at c.in-Ok-Some.ensures in
    let message = (rw c.in-Ok-Some.field-0-is at read).message in
    c.write_accepted-in-Ok-Some.ensures.steps message.0 _ _ _ _ _ message.2.1 message.1

pub returns-in-Ok-None-clause-steps : goal.returns-in-Ok-None-clause-steps
returns-in-Ok-None-clause-steps g c =
    let end = (rw c.in-Ok-None.field-0-is at c.in-Ok-None.ensures).none in
    record {
      next = λ from k. tt;
      ends = λ from k. rw c.ended-in-Ok-None.ensures (ends_here _ _ _ _ _ from _ _ _ k (omega (arith, c.requires.few)) end.0 (inl end.1) refl refl);
    }

pub returns-in-Err-Refused-clause-steps : goal.returns-in-Err-Refused-clause-steps
returns-in-Err-Refused-clause-steps g c =
    let read = rw (c.profile-2.ensures, c.wants-2.ensures) at c.in-Err-Refused.ensures in
    let next = rw c.in-Err-Refused.field-0-is at read in
    record {
      next = λ from k. tt;
      ends = c.end_with.ensures.ends _ _ _ next.refused next.taken;
    }

pub returns-in-Err-OutOfMemory-clause-steps : goal.returns-in-Err-OutOfMemory-clause-steps
returns-in-Err-OutOfMemory-clause-steps g c = record {
  next = λ from k. tt;
  ends = λ from k. rw c.ended-in-Err-OutOfMemory.ensures (ends_unread _ _ _ _ _ from _ _ _ k c.requires.few (takes_front c.args.self.now.reading.on_refusal _ _ c.in-Err-OutOfMemory.ensures.taken) refl refl);
}

pub returns-in-Err-ReadFault-clause-steps : goal.returns-in-Err-ReadFault-clause-steps
returns-in-Err-ReadFault-clause-steps g c =
    let read = rw (c.profile-2.ensures, c.wants-2.ensures) at c.in-Err-ReadFault.ensures in
    let next = rw c.in-Err-ReadFault.field-0-is at read in
    record {
      next = λ from k. tt;
      ends = λ from k. rw c.ended-in-Err-ReadFault.ensures (ends_broken _ _ _ _ _ from _ _ _ k c.requires.few (takes_front c.args.self.now.reading.on_refusal _ _ next.taken) next.fault.0 next.fault.1 refl refl);
    }
