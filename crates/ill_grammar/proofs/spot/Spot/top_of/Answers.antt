use Rattle.std.proofs.Common.{ap, sym, ◌∙◌}
use Rattle.ill_grammar.specs.Standing.{next_at_top}
use Rattle.ill_grammar.specs.code.SpotTable.{next_at_offset}
use Rattle.ill_grammar.proofs.SpotsEnd.{module_top_there, top_there}
use Rattle.ill_grammar.proofs.spot.Spot.top_of.Goals as goal
use Rattle.ill_grammar.proofs.spot.Spot.top_of.Goals.{in-Two, in-Module}

pub returns : goal.returns
returns c = elim c.match-profile.branch [
  | in-Two w ↦ ap (λ r. next_at_offset r.0) w.result-is ∙ top_there ∙ ap next_at_top (sym w.in-Two.is)
  | in-Module w ↦ ap (λ r. next_at_offset r.0) w.result-is ∙ module_top_there ∙ ap next_at_top (sym w.in-Module.is)
]
