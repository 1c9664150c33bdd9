use Rattle.std.proofs.Common.{◌≡◌, ◌++◌, flat_map, take}
use Rattle.ill_build.specs.Line.{escaped}
use Rattle.ill_build.proofs.line.put_name.Given as goal

abbrev pub invariant-loop-octet : goal.invariant-loop-octet
invariant-loop-octet l = l.pointer.items ≡ l.initial.pointer.items ++ flat_map escaped (take l.octet-index l.name)
