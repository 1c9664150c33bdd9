use Rattle.std.proofs.Common.{◌≡◌, ◌++◌, ◌<◌, ◌∙◌, ◌+◌, true, false, length, take, refl, sym, ap, subst, append-nil, arith}
use Rattle.std.proofs.lemmas.Result.{err_from_is_err_and}
use Rattle.ill_commands.specs.Lines.{is_last}
use Rattle.ill_commands.specs.code.After.{StandsAfter}
use Rattle.ill_commands.proofs.LineEnds.{line_whole, step_end, step_keep, step_same}
use Rattle.ill_commands.proofs.lines.reader.LineReader.feed_line.Goals as goal

pub returns-in_err-keep-clause-some : goal.returns-in_err-keep-clause-some
returns-in_err-keep-clause-some g c s put h =
    let most = g.A.AnswerLines.kept_len (g.A.AnswerLines.options c.args.answerer.now) in
    let p = err_from_is_err_and c.from_residual.result c.from_residual.ensures.1 in
    let e = c.in_err-keep.ensures in
    let same = step_same (g.A.AnswerLines.answers (g.A.AnswerLines.options c.args.answerer.now)) most s put c.args.self.now c.keep.new.self h (e.same, e.ready, e.good) in
    rw (p.1, p.2) (false, 0, refl, subst (λ l. StandsAfter (g.A.AnswerLines.answers (g.A.AnswerLines.options c.args.answerer.now)) most false l put c.keep.new.self) (sym (append-nil s)) same)

pub returns-then-size-octets-clause-done : goal.returns-then-size-octets-clause-done
returns-then-size-octets-clause-done g c s put h =
    let e = c.in_ok-keep.ensures in
    let line = take c.line_size-size.result c.args.octets.now in
    let is = c.kept_len.ensures in
    let kept = e.kept h.rest (h.is_kept ∙ ap (λ n. take n h.rest) (sym is)) ∙ ap (λ n. take n (h.rest ++ line)) is in
    step_keep _ _ s put c.args.self.now c.keep.new.self h line c.line_size-size.ensures.clean kept e.ready e.good

pub returns-in_err-verdict-clause-some : goal.returns-in_err-verdict-clause-some
returns-in_err-verdict-clause-some g c s put h =
    let p = err_from_is_err_and c.from_residual-in_err-verdict.result c.from_residual-in_err-verdict.ensures.1 in
    let e = c.in_ok-keep.ensures in
    let size = c.line_size-size.result in
    let line = take size c.args.octets.now in
    let is = c.kept_len.ensures in
    let kept = e.kept h.rest (h.is_kept ∙ ap (λ n. take n h.rest) (sym is)) ∙ ap (λ n. take n (h.rest ++ line)) is in
    let stands = step_keep _ _ s put c.args.self.now c.keep.new.self h line c.line_size-size.ensures.clean kept e.ready e.good in
    rw (p.1, p.2) (false, size, refl, step_same _ _ (s ++ line) put c.keep.new.self c.end_line.new.self stands c.in_err-verdict.ensures.same)

pub returns-then-is_last-clause-some : goal.returns-then-is_last-clause-some
returns-then-is_last-clause-some g c s put h =
    let e = c.in_ok-keep.ensures in
    let size = c.line_size-size.result in
    let octets = c.args.octets.now in
    let line = take size octets in
    let less : size < length octets = omega (arith, c.line_size-size.ensures.bound, c.if-size-octets.false) in
    let is = c.kept_len.ensures in
    let kept = e.kept h.rest (h.is_kept ∙ ap (λ n. take n h.rest) (sym is)) ∙ ap (λ n. take n (h.rest ++ line)) is in
    let stands = step_keep _ _ s put c.args.self.now c.keep.new.self h line c.line_size-size.ensures.clean kept e.ready e.good in
    let ended = step_end _ _ (s ++ line) put c.keep.new.self c.end_line.new.self stands c.in_ok-verdict.verdict c.in_ok-verdict.ensures.answers in
    let last = sym c.is_last.ensures ∙ c.if-is_last.true in (
      true,
      size + 1,
      refl,
      subst (λ b. StandsAfter (g.A.AnswerLines.answers (g.A.AnswerLines.options c.args.answerer.now)) (g.A.AnswerLines.kept_len (g.A.AnswerLines.options c.args.answerer.now)) b (s ++ take (size + 1) octets) put c.end_line.new.self) last
          (subst (λ l. StandsAfter (g.A.AnswerLines.answers (g.A.AnswerLines.options c.args.answerer.now)) (g.A.AnswerLines.kept_len (g.A.AnswerLines.options c.args.answerer.now)) (is_last c.in_ok-verdict.verdict) l put c.end_line.new.self)
          (line_whole s octets size less (c.line_size-size.ensures.stops less)) ended),
    )

pub returns-clause-done : goal.returns-clause-done
returns-clause-done g c s put h =
    let e = c.in_ok-keep.ensures in
    let size = c.line_size-size.result in
    let octets = c.args.octets.now in
    let line = take size octets in
    let less : size < length octets = omega (arith, c.line_size-size.ensures.bound, c.if-size-octets.false) in
    let is = c.kept_len.ensures in
    let kept = e.kept h.rest (h.is_kept ∙ ap (λ n. take n h.rest) (sym is)) ∙ ap (λ n. take n (h.rest ++ line)) is in
    let stands = step_keep _ _ s put c.args.self.now c.keep.new.self h line c.line_size-size.ensures.clean kept e.ready e.good in
    let ended = step_end _ _ (s ++ line) put c.keep.new.self c.end_line.new.self stands c.in_ok-verdict.verdict c.in_ok-verdict.ensures.answers in
    let on = sym c.is_last.ensures ∙ c.if-is_last.false in
    subst (λ b. StandsAfter (g.A.AnswerLines.answers (g.A.AnswerLines.options c.args.answerer.now)) (g.A.AnswerLines.kept_len (g.A.AnswerLines.options c.args.answerer.now)) b (s ++ take (size + 1) octets) put c.end_line.new.self) on
    (subst (λ l. StandsAfter (g.A.AnswerLines.answers (g.A.AnswerLines.options c.args.answerer.now)) (g.A.AnswerLines.kept_len (g.A.AnswerLines.options c.args.answerer.now)) (is_last c.in_ok-verdict.verdict) l put c.end_line.new.self)
    (line_whole s octets size less (c.line_size-size.ensures.stops less)) ended)
