use Rattle.std.proofs.Common.{sym, ◌∙◌}
use Rattle.ill_grammar.proofs.OpenFrames.{next_last}
use Rattle.ill_grammar.proofs.frames.Frames.place.Goals as goal

pub returns-in-Some-clause-shape : goal.returns-in-Some-clause-shape
returns-in-Some-clause-shape c = sym (next_last c.args.self.now.profile c.args.self.now.open.items c.in-Some.frame (sym c.innermost.ensures.last ∙ c.in-Some.is))
