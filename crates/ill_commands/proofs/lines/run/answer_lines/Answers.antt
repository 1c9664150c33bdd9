use Rattle.std.proofs.Common.{◌≡◌, ◌++◌, ◌∙◌, [], ℕ, false, length, take, ap, subst, append-nil, refl, sym, arith, OnOk, IfErr, IfOk}
use Rattle.std.specs.Io.KnownBytes.{Consumes}
use Rattle.std.proofs.KnownBytes.{Consumes-kept, Consumes-nil, Consumes-trans}
use Rattle.std.proofs.lemmas.Result.{err_from_is_err_and, IfErr-weaker}
use Rattle.ill_normal.specs.Calls.{putting}
use Rattle.ill_commands.specs.Lines.{EndsWithin, LinesDone}
use Rattle.ill_commands.specs.code.After.{HasWritten, StandsAfter, StopsAfter}
use Rattle.ill_commands.proofs.MadeResults.{Made, at_start, ends_read, ends_stop, ends_write, has_written, made_of_fed, made_some, made_written}
use Rattle.ill_commands.proofs.lines.run.answer_lines.Goals as goal

pub loop-turn-init : goal.loop-turn-init
loop-turn-init g c =
    let start = at_start _ _ (g.W.Sink.contents c.args.sink.now) c.new-lines.result c.new-lines.ensures.part c.new-lines.ensures.ready c.new-lines.ensures.good in
    record {
      same = refl;
      taken = ([], Consumes-nil (g.R.Source.left c.args.source.now), start.0);
      counted = start.1;
      few = omega arith;
      source_stays = λ t. t;
      sink_stays = λ t. t;
    }

pub returns-in-Ok-eq0-clause-done : goal.returns-in-Ok-eq0-clause-done
returns-in-Ok-eq0-clause-done g c =
    let middle = g.R.Source.left c.loop-turn.source in
    let o = subst (λ (n : ℕ). Consumes middle (g.R.Source.left c.take.new.self) (take n c.take.new.buffer)) c.in-Ok-eq0.field-0-test c.in-Ok-eq0.ensures.octets.0 in
    let now = c.loop-turn.invariant.taken in
    let left = g.R.Source.left c.args.source.now in
    let left' = g.R.Source.left c.take.new.self in
    let all = subst (Consumes left left') (append-nil now.0) (Consumes-trans left middle left' now.0 [] now.1 o) in
    let done = subst (λ o. HasWritten (g.A.AnswerLines.answers o) (g.A.AnswerLines.kept_len o) false now.0 (g.W.Sink.contents c.args.sink.now) (g.W.Sink.contents c.loop-turn.sink) c.loop-turn.lines
    → IfOk c.finish.result (LinesDone (g.A.AnswerLines.answers o) left left' (g.W.Sink.contents c.args.sink.now) (g.W.Sink.contents c.finish.new.sink))) c.loop-turn.invariant.same
    (c.finish.ensures.done now.0 (g.W.Sink.contents c.args.sink.now) left left' all (c.in-Ok-eq0.ensures.octets.1 c.in-Ok-eq0.field-0-test (omega arith))) in
    done now.2

pub returns-in-Ok-eq0-clause-fails : goal.returns-in-Ok-eq0-clause-fails
returns-in-Ok-eq0-clause-fails g c =
    let middle = g.R.Source.left c.loop-turn.source in
    let o = subst (λ (n : ℕ). Consumes middle (g.R.Source.left c.take.new.self) (take n c.take.new.buffer)) c.in-Ok-eq0.field-0-test c.in-Ok-eq0.ensures.octets.0 in
    let now = c.loop-turn.invariant.taken in
    let first = g.W.Sink.contents c.args.sink.now in
    let broken = g.R.Source.is_broken c.take.new.self in
    let left = g.R.Source.left c.args.source.now in
    let left' = g.R.Source.left c.take.new.self in
    let all = subst (Consumes left left') (append-nil now.0) (Consumes-trans left middle left' now.0 [] now.1 o) in
    let fails = subst (λ o. (h : HasWritten (g.A.AnswerLines.answers o) (g.A.AnswerLines.kept_len o) false now.0 first (g.W.Sink.contents c.loop-turn.sink) c.loop-turn.lines) → c.loop-turn.written ≡ length h.0
    → IfErr c.finish.result (EndsWithin (g.A.AnswerLines.answers o) now.0 broken (putting first (g.W.Sink.contents c.finish.new.sink) (g.W.Sink.is_broken c.finish.new.sink)))) c.loop-turn.invariant.same
    (c.finish.ensures.fails now.0 first broken) in
    IfErr-weaker c.finish.result _ _ (λ fault e. (now.0, all, e)) (fails now.2 c.loop-turn.invariant.counted)

pub returns-in-Err-clause-fails : goal.returns-in-Err-clause-fails
returns-in-Err-clause-fails g c =
    let now = c.loop-turn.invariant.taken in
    let first = g.W.Sink.contents c.args.sink.now in
    let held = g.W.Sink.contents c.loop-turn.sink in
    let made = made_written _ _ false now.0 first held c.loop-turn.lines now.2 in
    let left = g.R.Source.left c.args.source.now in (
      now.0,
      Consumes-kept left (g.R.Source.left c.loop-turn.source) (g.R.Source.left c.take.new.self) now.0 now.1 c.in-Err.ensures.octets,
      ends_read _ now.0 now.2.2.rest c.loop-turn.lines.is_good (g.R.Source.is_broken c.take.new.self) _ first held now.2.0 made now.2.1 now.2.2.unended (c.in-Err.ensures.breaks.0 refl),
    )

pub returns-in_err-written-clause-fails : goal.returns-in_err-written-clause-fails
returns-in_err-written-clause-fails g c =
    let now = c.loop-turn.invariant.taken in
    let p = err_from_is_err_and c.from_residual.result c.from_residual.ensures.1 in
    let more = take c.in-Ok.count c.take.new.buffer in
    let taken = Consumes-trans (g.R.Source.left c.args.source.now) (g.R.Source.left c.loop-turn.source) (g.R.Source.left c.take.new.self) now.0 more now.1 c.in-Ok.ensures.octets.0 in
    let fed = c.feed-fed.new.self in
    let all = subst (λ o. StandsAfter (g.A.AnswerLines.answers o) (g.A.AnswerLines.kept_len o) false now.0 now.2.0 c.loop-turn.lines
    → OnOk c.feed-fed.result (StandsAfter (g.A.AnswerLines.answers o) (g.A.AnswerLines.kept_len o) false (now.0 ++ more) now.2.0 fed)) c.loop-turn.invariant.same (c.feed-fed.ensures.all now.0 now.2.0) in
    let some = subst (λ o. StandsAfter (g.A.AnswerLines.answers o) (g.A.AnswerLines.kept_len o) false now.0 now.2.0 c.loop-turn.lines
    → IfErr c.feed-fed.result (StopsAfter (g.A.AnswerLines.answers o) (g.A.AnswerLines.kept_len o) now.0 more now.2.0 fed)) c.loop-turn.invariant.same (c.feed-fed.ensures.some now.0 now.2.0) in
    let made = made_of_fed _ _ now.0 more now.2.0 fed c.feed-fed.result (all now.2.2) (some now.2.2) in
    let broke = c.in_err-written.ensures.some in
    rw (p.1, p.2, broke.1.2) (
      now.0 ++ more,
      taken,
      ends_write _ (now.0 ++ more) made.1.0 fed.is_good (g.R.Source.is_broken c.take.new.self) _ (g.W.Sink.contents c.args.sink.now) (g.W.Sink.contents c.loop-turn.sink) made.0 now.2.0 fed.ready.items
          (g.W.Sink.contents c.put_ready.new.sink) c.loop-turn.written broke.1.0 made.1.1 now.2.1 c.loop-turn.invariant.counted broke.1.1 broke.1.3 broke.0,
    )

pub returns-in_err-fed-clause-fails : goal.returns-in_err-fed-clause-fails
returns-in_err-fed-clause-fails g c =
    let now = c.loop-turn.invariant.taken in
    let p = err_from_is_err_and c.from_residual-in_err-fed.result c.from_residual-in_err-fed.ensures.1 in
    let more = take c.in-Ok.count c.take.new.buffer in
    let taken = Consumes-trans (g.R.Source.left c.args.source.now) (g.R.Source.left c.loop-turn.source) (g.R.Source.left c.take.new.self) now.0 more now.1 c.in-Ok.ensures.octets.0 in
    let first = g.W.Sink.contents c.args.sink.now in
    let held = g.W.Sink.contents c.put_ready.new.sink in
    let lines = c.put_ready.new.lines in
    let ensures = c.in_ok-written.ensures in
    let some = subst (λ o. StandsAfter (g.A.AnswerLines.answers o) (g.A.AnswerLines.kept_len o) false now.0 now.2.0 c.loop-turn.lines
    → StopsAfter (g.A.AnswerLines.answers o) (g.A.AnswerLines.kept_len o) now.0 more now.2.0 c.feed-fed.new.self c.in_err-fed.field-0.0) c.loop-turn.invariant.same (c.in_err-fed.ensures.some now.0 now.2.0) in
    let fed = some now.2.2 in
    let written = (has_written _ _ fed.0 (now.0 ++ take fed.1 more) now.2.0 first (g.W.Sink.contents c.loop-turn.sink) held c.feed-fed.new.self lines c.loop-turn.written _ fed.3 now.2.1 ensures.all
    ensures.ready ensures.part ensures.good c.loop-turn.invariant.counted ensures.count).0 in
    let made = made_some _ _ now.0 more written.0 lines fed.0 fed.1 written.2 in
    let whole = subst (λ l. Made (g.A.AnswerLines.answers (g.A.AnswerLines.options c.args.answerer.now)) fed.0 (now.0 ++ more) made.0 l lines.is_good) (ap (λ l. written.0 ++ l) written.3 ∙ append-nil written.0) made.1 in
    rw (p.1, p.2) (now.0 ++ more, taken, ends_stop _ (now.0 ++ more) made.0 lines.is_good (g.R.Source.is_broken c.take.new.self) _ first held fed.0 _ written.0 fed.2 whole written.1)

pub loop-turn-preserved : goal.loop-turn-preserved
loop-turn-preserved g c =
    let now = c.loop-turn.invariant.taken in
    let more = take c.in-Ok.count c.take.new.buffer in
    let taken = Consumes-trans (g.R.Source.left c.args.source.now) (g.R.Source.left c.loop-turn.source) (g.R.Source.left c.take.new.self) now.0 more now.1 c.in-Ok.ensures.octets.0 in
    let ensures = c.in_ok-written.ensures in
    let all = subst (λ o. StandsAfter (g.A.AnswerLines.answers o) (g.A.AnswerLines.kept_len o) false now.0 now.2.0 c.loop-turn.lines
    → StandsAfter (g.A.AnswerLines.answers o) (g.A.AnswerLines.kept_len o) false (now.0 ++ more) now.2.0 c.feed-fed.new.self) c.loop-turn.invariant.same (c.in_ok-fed.ensures.all now.0 now.2.0) in
    let written = has_written _ _ false (now.0 ++ more) now.2.0 (g.W.Sink.contents c.args.sink.now) (g.W.Sink.contents c.loop-turn.sink) (g.W.Sink.contents c.put_ready.new.sink) c.feed-fed.new.self
    c.put_ready.new.lines c.loop-turn.written _ (all now.2.2) now.2.1 ensures.all ensures.ready ensures.part ensures.good c.loop-turn.invariant.counted ensures.count in
    record {
      same = c.in_ok-fed.ensures.same ∙ c.loop-turn.invariant.same;
      taken = (now.0 ++ more, taken, written.0);
      counted = written.1;
      few = omega (arith, ensures.bound, c.loop-turn.invariant.few);
      source_stays = λ t. c.take.ensures.stays (c.loop-turn.invariant.source_stays t);
      sink_stays = λ t. c.put_ready.ensures.stays (c.loop-turn.invariant.sink_stays t);
    }

pub returns-clause-fails : goal.returns-clause-fails
returns-clause-fails g c =
    let now = c.loop-turn.invariant.taken in
    let first = g.W.Sink.contents c.args.sink.now in
    let held = g.W.Sink.contents c.loop-turn.sink in
    (now.0, now.1, ends_stop _ now.0 now.2.2.rest c.loop-turn.lines.is_good _ _ first held false _ now.2.0 refl (made_written _ _ false now.0 first held c.loop-turn.lines now.2) now.2.1)
