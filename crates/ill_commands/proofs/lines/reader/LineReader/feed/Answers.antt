use Rattle.std.proofs.Common.{◌≡◌, ◌+◌, ◌++◌, ◌∙◌, ◌-◌, false, length, take, drop, sym, ap, subst, arith}
use Rattle.std.proofs.lemmas.List.{length-drop}
use Rattle.std.proofs.lemmas.Result.{err_from_is_err_and}
use Rattle.ill_commands.specs.code.After.{StandsAfter}
use Rattle.ill_commands.proofs.LineEnds.{from_place, parts_whole}
use Rattle.ill_commands.proofs.lines.reader.LineReader.feed.Goals as goal

pub returns-in_err-at-clause-some : goal.returns-in_err-at-clause-some
returns-in_err-at-clause-some g c s put h =
    let p = err_from_is_err_and c.from_residual.result c.from_residual.ensures.1 in
    let octets = c.args.octets.now in
    let at = c.lines.at in
    let first = g.A.AnswerLines.options c.args.answerer.now in
    let same = c.lines.invariant.same in
    let now = subst (λ o. StandsAfter (g.A.AnswerLines.answers o) (g.A.AnswerLines.kept_len o) false (s ++ take at octets) put c.lines.self) (sym same) (c.lines.invariant.stands s put h) in
    let some = c.in_err-at.ensures.some (s ++ take at octets) put now in
    let stop = subst (λ o. StandsAfter (g.A.AnswerLines.answers o) (g.A.AnswerLines.kept_len o) some.0 ((s ++ take at octets) ++ take some.1 (take (length octets - at) (drop at octets))) put c.feed_line.new.self) same some.3 in
    rw (p.1, p.2) (some.0, at + some.1, some.2, subst (λ l. StandsAfter (g.A.AnswerLines.answers first) (g.A.AnswerLines.kept_len first) some.0 l put c.feed_line.new.self) (parts_whole s octets at some.1) stop)

pub lines-preserved : goal.lines-preserved
lines-preserved g c =
    let octets = c.args.octets.now in
    let at = c.lines.at in
    let n = c.in_ok-at.field-0 in
    let first = g.A.AnswerLines.options c.args.answerer.now in
    let same = c.lines.invariant.same in
    record {
      bound = omega (arith, c.in_ok-at.ensures.bound, c.lines.invariant.bound, length-drop at octets, ap length (from_place octets at));
      same = c.in_ok-at.ensures.same ∙ same;
      stands = λ s put h.
          let now = subst (λ o. StandsAfter (g.A.AnswerLines.answers o) (g.A.AnswerLines.kept_len o) false (s ++ take at octets) put c.lines.self) (sym same) (c.lines.invariant.stands s put h) in
          let next = subst (λ o. StandsAfter (g.A.AnswerLines.answers o) (g.A.AnswerLines.kept_len o) false ((s ++ take at octets) ++ take n (take (length octets - at) (drop at octets))) put c.feed_line.new.self) same
          (c.in_ok-at.ensures.done (s ++ take at octets) put now) in
          subst (λ l. StandsAfter (g.A.AnswerLines.answers first) (g.A.AnswerLines.kept_len first) false l put c.feed_line.new.self) (parts_whole s octets at n) next;
    }
