use Rattle.std.proofs.Common.{◌≡◌, ◌+◌, ◌∙◌, Some, None, ap, refl, subst}
use Rattle.ill_normal.specs.Entries.{refused, Puts}
use Rattle.ill_normal.specs.Items.{report}
use Rattle.ill_normal.specs.Messages.{position}
use Rattle.ill_normal.proofs.ReadItems.{ends_losing, ends_unreported, ends_unwritten, read_bad, takes_on}
use Rattle.ill_normal.proofs.item_loop.ItemLoop.write_refused.Goals as goal

pub returns-in-Err-clause-steps : goal.returns-in-Err-clause-steps
returns-in-Err-clause-steps g c = λ left now u v h.
    let fails = rw c.as_slice.ensures.value at c.in-Err.ensures.fails in
    record {
      next = λ from k. tt;
      ends = λ from k. rw c.unwritten.ensures (ends_unwritten _ _ _ _ _ from _ _ _ k c.in-Err.error c.requires.few (takes_on c.args.self.now.reading.on_refusal left now c.requires.on)
          (refused c.args.report c.args.self.now.recorded.items, (c.args.report.refusal, c.args.report.octets, c.requires.place), fails.0) fails.1 refl);
    }

pub returns-in-Err-report-clause-steps : goal.returns-in-Err-report-clause-steps
returns-in-Err-report-clause-steps g c = λ left now u v h.
    let octets = c.args.self.now.recorded.items in
    let writes = g.I.WriteItems.writes (g.I.WriteItems.options c.args.writer.now) in
    let held = g.W.Sink.contents c.args.sink.now in
    let held' = g.W.Sink.contents c.refused.new.sink in
    let put = subst (λ r. Puts writes (refused r octets) c.in-Ok.written held held') c.requires.place (rw c.as_slice.ensures.value at c.in-Ok.ensures.puts) in
    record {
      next = λ from k. tt;
      ends = λ from k. rw (c.ended.ensures, c.in-Err-report.ensures.fault) (ends_unreported _ _ _ _ _ from _ _ _ k c.requires.few c.requires.on
          (record { octets = octets; refusal = c.args.report.refusal; end = c.args.report.octets; is = h; put = (c.in-Ok.written, put); none = c.in-Err-report.ensures.refused }));
    }

pub returns-in-Some-clause-steps : goal.returns-in-Some-clause-steps
returns-in-Some-clause-steps g c = λ left now u v h.
    let counts = c.args.self.now.counts in
    let refusal = c.args.report.refusal in
    let same : c.args.report ≡ report (position (counts.messages + 1) counts.octets) refusal (Some c.in-Some.octets) = c.requires.place ∙ ap (report (position (counts.messages + 1) counts.octets) refusal) c.in-Some.is in
    let writes = g.I.WriteItems.writes (g.I.WriteItems.options c.args.writer.now) in
    let held = g.W.Sink.contents c.args.sink.now in
    let held' = g.W.Sink.contents c.refused.new.sink in
    let bad = rw c.in-Some.is at h in
    let put = subst (λ r. Puts writes (refused r c.args.self.now.recorded.items) c.in-Ok.written held held') same (rw c.as_slice.ensures.value at c.in-Ok.ensures.puts) in
    let all = subst (λ o. Puts writes (refused (report (position (counts.messages + 1) counts.octets) refusal (Some c.in-Some.octets)) o) c.in-Ok.written held held') bad.4 put in
    record {
      next = λ from k. rw c.with_refused-self.ensures (read_bad _ _ _ _ _ from _ _ _ k bad.0 refusal c.in-Some.octets c.in-Ok.written c.requires.on bad.3.1 bad.1 bad.2 bad.3.0 all (rw same at c.in-Ok-report.ensures.taken));
      ends = tt;
    }

pub returns-in-None-clause-steps : goal.returns-in-None-clause-steps
returns-in-None-clause-steps g c = λ left now u v h.
    let counts = c.args.self.now.counts in
    let refusal = c.args.report.refusal in
    let same : c.args.report ≡ report (position (counts.messages + 1) counts.octets) refusal None = c.requires.place ∙ ap (report (position (counts.messages + 1) counts.octets) refusal) c.in-None.is in
    let octets = c.args.self.now.recorded.items in
    let writes = g.I.WriteItems.writes (g.I.WriteItems.options c.args.writer.now) in
    let held = g.W.Sink.contents c.args.sink.now in
    let held' = g.W.Sink.contents c.refused.new.sink in
    let put = subst (λ r. Puts writes (refused r octets) c.in-Ok.written held held') same (rw c.as_slice.ensures.value at c.in-Ok.ensures.puts) in
    let bad = rw c.in-None.is at h in
    record {
      next = λ from k. tt;
      ends = λ from k. rw c.ended_with.ensures (ends_losing _ _ _ _ _ from _ _ _ k refusal octets c.requires.few c.requires.on bad (c.in-Ok.written, put) (rw same at c.in-Ok-report.ensures.taken));
    }
