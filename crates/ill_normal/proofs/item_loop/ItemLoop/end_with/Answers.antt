use Rattle.std.proofs.Common.{refl}
use Rattle.ill_normal.proofs.ReadItems.{ends_stopping, ends_unread, ends_unwritten, ends_with_it, ends_writing, takes_rest}
use Rattle.ill_normal.specs.Entries.{refused}
use Rattle.ill_normal.proofs.item_loop.ItemLoop.end_with.Goals as goal

pub returns-in-Stop-clause-ends : goal.returns-in-Stop-clause-ends
returns-in-Stop-clause-ends g c = λ left u r rest front from k. rw c.ended_with.ensures (ends_stopping _ _ _ _ _ from _ _ _ k c.args.refusal c.requires.few c.in-Stop.is front rest refl refl)

pub returns-in-Err-clause-ends : goal.returns-in-Err-clause-ends
returns-in-Err-clause-ends g c = λ left u r rest front from k.
    let mode = c.args.self.now.reading.on_refusal in
    rw (c.ended.ensures, c.take_refused.ensures.counts)
    (ends_unread _ _ _ _ _ from _ _ _ k c.requires.few (takes_rest mode left _ (ends_with_it mode c.requires.ends c.in_default.not-Stop)) refl refl)

pub returns-in-Ok-refused-clause-ends : goal.returns-in-Ok-refused-clause-ends
returns-in-Ok-refused-clause-ends g c = λ left u r rest front from k.
    let mode = c.args.self.now.reading.on_refusal in
    let put = rw (c.new-report.ensures, c.next_place.ensures) at c.in-Ok-refused.ensures.puts in
    rw (c.ended_with-in-Ok-refused.ensures, c.take_refused.ensures.counts)
    (ends_writing _ _ _ _ _ from _ _ _ k c.args.refusal c.as_slice.result.now c.requires.few (ends_with_it mode c.requires.ends c.in_default.not-Stop) rest (_, put) refl)

pub returns-in-Err-refused-clause-ends : goal.returns-in-Err-refused-clause-ends
returns-in-Err-refused-clause-ends g c = λ left u r rest front from k.
    let mode = c.args.self.now.reading.on_refusal in
    let fails = c.in-Err-refused.ensures.fails in
    rw (c.unwritten.ensures, c.take_refused.ensures.counts)
    (ends_unwritten _ _ _ _ _ from _ _ _ k c.in-Err-refused.error c.requires.few (takes_rest mode left _ (ends_with_it mode c.requires.ends c.in_default.not-Stop))
    (refused c.new-report.result c.as_slice.result.now, (_, _, rw c.next_place.ensures at c.new-report.ensures), fails.0) fails.1 refl)
