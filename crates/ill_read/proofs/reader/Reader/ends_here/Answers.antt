use Rattle.std.proofs.Common.{◌∙◌, sym, arith}
use Rattle.ill_grammar.proofs.Judgements.{ends_at_bound}
use Rattle.ill_read.proofs.reader.Reader.ends_here.Goals as goal

pub returns-then-room-gt0-clause-exact : goal.returns-then-room-gt0-clause-exact
returns-then-room-gt0-clause-exact g c place h room =
    sym (ends_at_bound place c.args.self.now.at (λ e. let some = c.if-room-gt0.true in let none = room ∙ e in omega arith))
