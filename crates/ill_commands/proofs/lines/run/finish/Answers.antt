use Rattle.std.proofs.Common.{◌++◌, ◌∙◌, ◌<◌, ◌≡◌, [], true, false, length, subst, sym, ap, append-nil, vec_len, arith, refl}
use Rattle.std.proofs.KnownBytes.{Appends-trans}
use Rattle.std.proofs.lemmas.Result.{err_from_is_err_and}
use Rattle.ill_commands.specs.Lines.{LinesDone, is_last}
use Rattle.ill_commands.proofs.LineEnds.{none_of}
use Rattle.ill_commands.proofs.MadeResults.{Made, ends_stop, ends_write, is_some, is_zero, lines_done, made_last, made_none, made_written}
use Rattle.ill_commands.proofs.lines.run.finish.Goals as goal

pub returns-then-is_empty-clause-done : goal.returns-then-is_empty-clause-done
returns-then-is_empty-clause-done g c s first left left' taken end h =
    let now = c.args.lines.now in
    let zero = is_zero (vec_len now.part) (sym c.is_empty.ensures ∙ c.if-is_empty.true) in
    let empty = none_of now.part.items (omega (arith, zero, now.part.ok)) in
    let some = g.A.AnswerLines.keeps_some (g.A.AnswerLines.options c.args.answerer.now) in
    let made = made_none _ _ s h.0 now some h.2 empty in
    lines_done _ s h.0 now.is_good left left' first (g.W.Sink.contents c.args.sink.now)
    (subst (λ l. Made (g.A.AnswerLines.answers (g.A.AnswerLines.options c.args.answerer.now)) false s [] l now.is_good) (ap (λ l. h.0 ++ l) h.3 ∙ append-nil h.0) made) taken end h.1

pub returns-in_err-verdict-clause-fails : goal.returns-in_err-verdict-clause-fails
returns-in_err-verdict-clause-fails g c s first x h count =
    let p = err_from_is_err_and c.from_residual.result c.from_residual.ensures.1 in
    let now = c.args.lines.now in
    let held = g.W.Sink.contents c.args.sink.now in
    rw (p.1, p.2) (ends_stop _ s h.2.rest now.is_good x _ first held false _ h.0 refl (made_written _ _ false s first held now h) h.1)

pub returns-in_err-put_ready-clause-fails : goal.returns-in_err-put_ready-clause-fails
returns-in_err-put_ready-clause-fails g c s first x h count =
    let p = err_from_is_err_and c.from_residual-in_err-put_ready.result c.from_residual-in_err-put_ready.ensures.1 in
    let now = c.args.lines.now in
    let last = c.end_line.new.self in
    let len = is_some (vec_len now.part) (sym c.is_empty.ensures ∙ c.if-is_empty.false) in
    let some : 0 < length now.part.items = omega (arith, len, now.part.ok) in
    let made = made_last _ _ s h.0 now last c.in_ok-verdict.verdict h.2 some c.in_ok-verdict.ensures.answers in
    let broke = c.in_err-put_ready.ensures.some in
    rw (p.1, p.2, broke.1.2) (ends_write _ s [] last.is_good x _ first (g.W.Sink.contents c.args.sink.now) _ h.0 last.ready.items
    (g.W.Sink.contents c.put_ready.new.sink) c.args.written broke.1.0 made h.1 count broke.1.1 broke.1.3 broke.0)

pub returns-then-is_last-clause-fails : goal.returns-then-is_last-clause-fails
returns-then-is_last-clause-fails g c s first x h count =
    let now = c.args.lines.now in
    let last = c.end_line.new.self in
    let held = g.W.Sink.contents c.args.sink.now in
    let held' = g.W.Sink.contents c.put_ready.new.sink in
    let len = is_some (vec_len now.part) (sym c.is_empty.ensures ∙ c.if-is_empty.false) in
    let some : 0 < length now.part.items = omega (arith, len, now.part.ok) in
    let made = made_last _ _ s h.0 now last c.in_ok-verdict.verdict h.2 some c.in_ok-verdict.ensures.answers in
    let all = Appends-trans first held held' h.0 last.ready.items h.1 c.in_ok-put_ready.ensures.all in
    let ends = sym c.is_last.ensures ∙ c.if-is_last.true in
    ends_stop _ s [] last.is_good x _ first held' true _ (h.0 ++ last.ready.items) refl
    (subst (λ b. Made (g.A.AnswerLines.answers (g.A.AnswerLines.options c.args.answerer.now)) b s [] (h.0 ++ last.ready.items) last.is_good) ends made) all

pub returns-clause-done : goal.returns-clause-done
returns-clause-done g c s first left left' taken end h =
    let now = c.args.lines.now in
    let last = c.end_line.new.self in
    let held = g.W.Sink.contents c.args.sink.now in
    let held' = g.W.Sink.contents c.put_ready.new.sink in
    let len = is_some (vec_len now.part) (sym c.is_empty.ensures ∙ c.if-is_empty.false) in
    let some : 0 < length now.part.items = omega (arith, len, now.part.ok) in
    let made = made_last _ _ s h.0 now last c.in_ok-verdict.verdict h.2 some c.in_ok-verdict.ensures.answers in
    let on = sym c.is_last.ensures ∙ c.if-is_last.false in
    let goes = subst (λ b. Made (g.A.AnswerLines.answers (g.A.AnswerLines.options c.args.answerer.now)) b s [] (h.0 ++ last.ready.items) last.is_good) on made in
    let all = Appends-trans first held held' h.0 last.ready.items h.1 c.in_ok-put_ready.ensures.all in
    subst (LinesDone (g.A.AnswerLines.answers (g.A.AnswerLines.options c.args.answerer.now)) left left' first held') (sym c.in_ok-put_ready.ensures.good)
    (lines_done _ s (h.0 ++ last.ready.items) last.is_good left left' first held' goes taken end all)
