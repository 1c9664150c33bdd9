use Rattle.ill_schema.specs.Profiles.{profile_of}
use Rattle.ill_read.proofs.ProfileOfPath.{stands_at}
use Rattle.std.proofs.Common.{◌≡◌, ◌⊎◌, false, nat_eq, Some, slice_get, sym, ap, inl, inr, ◌∙◌}
use Rattle.ill_refusals.specs.Fault.{is_indefinite, cut_fault}
use Rattle.ill_grammar.proofs.Judgements.{empty_judged, mark_judged, not_zero, other_judged}
use Rattle.ill_read.proofs.reader.Reader.step_unusual.Goals as goal
use Rattle.ill_read.proofs.reader.Reader.step_unusual.Goals.{else-first-eq0-via-then-first-eq0+else-awaits_end_mark, else-first-eq0-via-else-first-eq0}

pub returns-in_default-clause-goes : goal.returns-in_default-clause-goes
returns-in_default-clause-goes g c p s rest more b available_len joined bounded judged =
    let at = c.args.self.now.at in let w = c.args.window.now in
    c.refuse_cut.ensures.goes p w c.args.room s rest more b available_len joined bounded (judged ∙ empty_judged p b.place at (cut_fault (profile_of p) b.place at rest) w (sym c.in_default.ensures.value))

pub returns-then-awaits_end_mark-clause-goes : goal.returns-then-awaits_end_mark-clause-goes
returns-then-awaits_end_mark-clause-goes g c p s rest more b available_len joined bounded judged =
    let at = c.args.self.now.at in let w = c.args.window.now in
    let first : slice_get w 0 ≡ Some 0 = sym c.in-Some.ensures.value ∙ ap Some c.if-first-eq0.true in
    c.end_mark.ensures.goes p c.args.room s rest more b available_len joined bounded
    (judged ∙ mark_judged p b.place at (cut_fault (profile_of p) b.place at rest) w first (sym (c.awaits_end_mark.ensures.exact b.place (stands_at p g.D.Draft.holds c.args.self.now.path b.place b.stands)) ∙ c.if-awaits_end_mark.true))

pub returns-clause-goes : goal.returns-clause-goes
returns-clause-goes g c p s rest more b available_len joined bounded judged =
    let at = c.args.self.now.at in let w = c.args.window.now in
    let first = c.in-Some.first.now in
    let is : slice_get w 0 ≡ Some first = sym c.in-Some.ensures.value in
    let other : (is_indefinite b.place ≡ false) ⊎ (nat_eq first 0 ≡ false) = elim c.else-first-eq0.branch [
      | else-first-eq0-via-then-first-eq0+else-awaits_end_mark x ↦ inl (sym (x.awaits_end_mark.ensures.exact b.place (stands_at p g.D.Draft.holds c.args.self.now.path b.place b.stands)) ∙ x.if-awaits_end_mark.false)
      | else-first-eq0-via-else-first-eq0 x ↦ inr (not_zero first x.if-first-eq0.false)
    ] in
    c.unusual_element.ensures.goes p s rest more b available_len joined bounded (judged ∙ other_judged p b.place at (cut_fault (profile_of p) b.place at rest) w first is other)
