use Rattle.std.proofs.Common.{◌≡◌, ◌++◌, take}
use Rattle.std.specs.Prelude.{string_bytes}
use Rattle.ill_grammar.specs.Marks.{octets_in}
use Rattle.ill_schema.specs.Texts.{characters}
use Rattle.ill_json.proofs.writing.add_characters.Given as goal

abbrev pub invariant-loop-mark : goal.invariant-loop-mark
invariant-loop-mark l = string_bytes l.text ≡ string_bytes l.fn.text ++ characters (octets_in (take l.mark-index l.octets))
