use Rattle.std.proofs.Common.{[], ◌∷◌, sym, subst, ◌∙◌}
use Rattle.ill_normal.specs.code.Taking.{Took}
use Rattle.ill_normal.proofs.TakenElements.{read_took, none_took, refused_last, unframed_more, unframed_broken, fewer_missing}
use Rattle.ill_normal.proofs.next_message.take_message.Goals as goal

pub returns-in-Ok-Some-clause-next : goal.returns-in-Ok-Some-clause-next
returns-in-Ok-Some-clause-next g c =
    let left = g.R.Source.left c.args.source.now in
    let left' = g.R.Source.left c.judged.source in
    let same = sym (c.new-octets.ensures ∙ c.as_slice.ensures.value) in
    let element = subst (λ k. Took left left' k c.in-Ok.taken.octets c.in-Ok.taken.framing) same c.judged.invariant.took in
    let next = rw c.in-Ok-Some.field-0-is at c.in-Ok-Some.ensures in
    let message = next.message in
    let is = message.2.1 in
    (message.0, read_took left left' c.new-octets.result c.in-Ok.taken.octets c.args.profile c.in-Ok.taken.framing element is.apdu c.read.new.source message.0 message.1 is.spells, is)

pub returns-in-Ok-None-clause-next : goal.returns-in-Ok-None-clause-next
returns-in-Ok-None-clause-next g c =
    let left = g.R.Source.left c.args.source.now in
    let left' = g.R.Source.left c.judged.source in
    let same = sym (c.new-octets.ensures ∙ c.as_slice.ensures.value) in
    let element = subst (λ k. Took left left' k c.in-Ok.taken.octets c.in-Ok.taken.framing) same c.judged.invariant.took in
    let next = rw c.in-Ok-None.field-0-is at c.in-Ok-None.ensures in
    none_took left left' c.new-octets.result c.in-Ok.taken.octets c.in-Ok.taken.framing element c.read.new.source next.none.0 next.none.1

pub judged-smaller : goal.judged-smaller
judged-smaller g c =
    let same = c.new-octets.ensures ∙ c.as_slice.ensures.value in
    let next = rw c.in-Err-Refused.field-0-is at c.in-Err-Refused.ensures in
    let more = rw c.in-Ok-true.field-0-test at c.in-Ok-true.ensures.takes in
    let refused = rw same at next.refused.1 in
    fewer_missing c.args.profile c.judged.recorded.items c.take_where_cut.new.recorded.items c.in-Err-Refused.refusal more.2.0 refused.0 more.1 more.2.2

pub judged-preserved : goal.judged-preserved
judged-preserved g c =
    let left = g.R.Source.left c.args.source.now in
    let left' = g.R.Source.left c.judged.source in
    let left'' = g.R.Source.left c.take_where_cut.new.source in
    let recorded = c.judged.recorded.items in
    let recorded' = c.take_where_cut.new.recorded.items in
    let size = c.in-Ok.taken.octets in
    let more = rw c.in-Ok-true.field-0-test at c.in-Ok-true.ensures.takes in
    record {
      took = subst (λ f. Took left left'' recorded' size f) (sym more.0)
          (unframed_more left left' left'' recorded recorded' (subst (λ f. Took left left' recorded size f) more.0 c.judged.invariant.took) (more.2.0 ∷ []) more.2.1 more.2.2);
      stays = λ h. c.in-Ok-true.ensures.stays (c.judged.invariant.stays h);
    }

pub returns-in-Ok-false-clause-next : goal.returns-in-Ok-false-clause-next
returns-in-Ok-false-clause-next g c =
    let left = g.R.Source.left c.args.source.now in
    let left' = g.R.Source.left c.judged.source in
    let left'' = g.R.Source.left c.take_where_cut.new.source in
    let same = c.new-octets.ensures ∙ c.as_slice.ensures.value in
    let next = rw c.in-Err-Refused.field-0-is at c.in-Err-Refused.ensures in
    let last = rw c.in-Ok-false.field-0-test at c.in-Ok-false.ensures.takes in
    let refused = rw same at next.refused.1 in
    refused_last left left' left'' c.judged.recorded.items c.take_where_cut.new.recorded.items c.in-Ok.taken.octets c.args.profile
    c.in-Ok.taken.framing c.in-Err-Refused.refusal c.end_of-end.result c.judged.invariant.took last c.end_of-end.ensures refused

pub returns-in-Err-take_where_cut-clause-broken : goal.returns-in-Err-take_where_cut-clause-broken
returns-in-Err-take_where_cut-clause-broken g c is_broken =
    let left = g.R.Source.left c.args.source.now in
    let left' = g.R.Source.left c.judged.source in
    let broken = c.in-Err-take_where_cut.ensures.broken is_broken in (
      broken.1,
      unframed_broken left left' (g.R.Source.left c.take_where_cut.new.source) c.judged.recorded.items
          (subst (λ f. Took left left' c.judged.recorded.items c.in-Ok.taken.octets f) broken.0 c.judged.invariant.took) broken.2,
    )
