use Rattle.std.proofs.Common.{◌≡◌, drop}
use Rattle.ill_grammar.specs.code.Judging.{outermost_end}
use Rattle.ill_grammar.proofs.frames.Frames.outermost_end.Given as goal

abbrev pub invariant-loop-frame : goal.invariant-loop-frame
invariant-loop-frame l = outermost_end l.frame-items ≡ outermost_end (drop l.frame-index l.frame-items)
