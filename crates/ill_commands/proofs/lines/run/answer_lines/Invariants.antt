use Rattle.std.proofs.Common.{◌≡◌, ◌*◌, ◌^◌, ◌≤◌, List, ℕ, false, length, IsTrue}
use Rattle.std.specs.Io.KnownBytes.{Consumes}
use Rattle.ill_commands.specs.code.After.{HasWritten}
use Rattle.ill_commands.proofs.lines.run.answer_lines.Given as goal

abbrev pub invariant-loop-turn : goal.invariant-loop-turn
invariant-loop-turn g l = record {
  same : g.A.AnswerLines.options l.answerer ≡ g.A.AnswerLines.options l.fn.answerer;
  taken : (s : List ℕ) × Consumes (g.R.Source.left l.fn.source) (g.R.Source.left l.source) s
      × HasWritten (g.A.AnswerLines.answers (g.A.AnswerLines.options l.fn.answerer)) (g.A.AnswerLines.kept_len (g.A.AnswerLines.options l.fn.answerer)) false s
      (g.W.Sink.contents l.fn.sink) (g.W.Sink.contents l.sink) l.lines;
  counted : l.written ≡ length taken.2.0;
  few : l.written ≤ l.turn * 2 ^ 64;
  source_stays : IsTrue (g.R.Source.is_broken l.fn.source) → IsTrue (g.R.Source.is_broken l.source);
  sink_stays : IsTrue (g.W.Sink.is_broken l.fn.sink) → IsTrue (g.W.Sink.is_broken l.sink);
}
