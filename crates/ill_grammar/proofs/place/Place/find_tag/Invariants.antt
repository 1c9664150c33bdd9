use Rattle.std.proofs.Common.{◌≡◌, drop}
use Rattle.ber_core.specs.Id.{tag_of_id}
use Rattle.ill_grammar.specs.code.Meant.{cells_meant}
use Rattle.ill_grammar.proofs.Scanning.{scan}
use Rattle.ill_grammar.proofs.Steps.{HasPassed}
use Rattle.ill_grammar.proofs.place.Place.find_tag.Given as goal

abbrev pub invariant-loop-position : goal.invariant-loop-position
invariant-loop-position l =
    (scan (tag_of_id l.id) l.self.parent.now.part l.self.parent.now.node l.self.position (drop l.self.position (cells_meant l.cells))
    ≡ scan (tag_of_id l.id) l.self.parent.now.part l.self.parent.now.node l.position (drop l.position (cells_meant l.cells)))
    × HasPassed (tag_of_id l.id) l.self.parent.now.node l.self.position l.position
