use Rattle.std.proofs.Common.{map, take}
use Rattle.std.specs.Prelude.{string_bytes}
use Rattle.json.specs.Token.{string}
use Rattle.ill_json.specs.code.Adding.{Adds}
use Rattle.ill_json.proofs.place.put_texts.Given as goal

abbrev pub invariant-loop-text : goal.invariant-loop-text
invariant-loop-text l = Adds (map string (map string_bytes (take l.text-index l.texts))) l.fn.out l.out
