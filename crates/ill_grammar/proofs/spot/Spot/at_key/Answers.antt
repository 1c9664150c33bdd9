use Rattle.std.proofs.Common.{refl, arith}
use Rattle.ill_grammar.proofs.SpotsDue.{usual_due}
use Rattle.ill_grammar.proofs.spot.Spot.at_key.Goals as goal

pub returns : goal.returns
returns c = usual_due c.args.self.offset c.args.key c.entry_at-entry.result _ (omega arith) c.entry_at-entry.ensures.there (omega arith) refl refl refl refl
