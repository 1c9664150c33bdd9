use Rattle.std.proofs.Common.{◌≡◌, ◌-◌, ◌≤◌, ◌++◌, List, ℕ, false, length, take}
use Rattle.ill_commands.specs.code.After.{StandsAfter}
use Rattle.ill_commands.proofs.lines.reader.LineReader.feed.Given as goal

abbrev pub invariant-lines : goal.invariant-lines
invariant-lines g l = record {
  bound : l.at ≤ length l.octets;
  same : g.A.AnswerLines.options l.answerer ≡ g.A.AnswerLines.options l.fn.answerer;
  stands : (s put : List ℕ)
      → StandsAfter (g.A.AnswerLines.answers (g.A.AnswerLines.options l.fn.answerer)) (g.A.AnswerLines.kept_len (g.A.AnswerLines.options l.fn.answerer)) false s put l.fn.self
      → StandsAfter (g.A.AnswerLines.answers (g.A.AnswerLines.options l.fn.answerer)) (g.A.AnswerLines.kept_len (g.A.AnswerLines.options l.fn.answerer)) false (s ++ take l.at l.octets) put l.self;
}

abbrev pub decreases-lines : goal.decreases-lines
decreases-lines g l = length l.octets - l.at
