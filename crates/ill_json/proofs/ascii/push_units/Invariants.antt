use Rattle.std.proofs.Common.{◌≡◌, ◌++◌, flat_map, take}
use Rattle.ill_json.specs.Json.{unit_text}
use Rattle.ill_json.proofs.ascii.push_units.Given as goal

abbrev pub invariant-loop-unit : goal.invariant-loop-unit
invariant-loop-unit l = l.line.items ≡ l.fn.line.items ++ flat_map unit_text (take l.unit-index l.units)
