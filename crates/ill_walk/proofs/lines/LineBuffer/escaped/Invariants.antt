use Rattle.std.proofs.Common.{◌≡◌, ◌++◌, flat_map, take}
use Rattle.ill_walk.specs.Markup.{escape}
use Rattle.ill_walk.proofs.lines.LineBuffer.escaped.Given as goal

abbrev pub invariant-loop-octet : goal.invariant-loop-octet
invariant-loop-octet l = l.self.octets.items ≡ l.fn.self.octets.items ++ flat_map escape (take l.octet-index l.octets)
