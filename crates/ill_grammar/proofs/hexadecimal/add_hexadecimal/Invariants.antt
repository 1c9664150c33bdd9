use Rattle.std.proofs.Common.{◌≡◌, ◌++◌, take}
use Rattle.std.specs.Prelude.{string_bytes}
use Rattle.ill_grammar.specs.Marks.{octets_in}
use Rattle.ill_schema.specs.Texts.{hexadecimal}
use Rattle.ill_grammar.proofs.hexadecimal.add_hexadecimal.Given as goal

abbrev pub invariant-loop-mark : goal.invariant-loop-mark
invariant-loop-mark l = string_bytes l.text ≡ string_bytes l.fn.text ++ hexadecimal (octets_in (take l.mark-index l.octets))
