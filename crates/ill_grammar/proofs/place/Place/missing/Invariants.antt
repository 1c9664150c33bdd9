use Rattle.std.proofs.Common.{◌≡◌, drop}
use Rattle.ill_grammar.specs.code.Meant.{cells_meant}
use Rattle.ill_grammar.proofs.Missing.{needed}
use Rattle.ill_grammar.proofs.place.Place.missing.Given as goal

abbrev pub invariant-loop-position : goal.invariant-loop-position
invariant-loop-position l =
    needed l.self.parent.now.part l.self.parent.now.node l.self.position (drop l.self.position (cells_meant l.cells))
    ≡ needed l.self.parent.now.part l.self.parent.now.node l.position (drop l.position (cells_meant l.cells))
