use Rattle.std.proofs.Common.{◌≡◌, flat_map}
use Rattle.ill_json.specs.Json.{plain}
use Rattle.ill_json.proofs.ascii.escaped.Given as goal

abbrev pub invariant-loop-character : goal.invariant-loop-character
invariant-loop-character l = l.line.items ≡ flat_map plain l.yielded
