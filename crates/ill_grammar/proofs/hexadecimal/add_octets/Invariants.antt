use Rattle.std.proofs.Common.{◌≡◌, ◌++◌, take}
use Rattle.std.specs.Prelude.{string_bytes}
use Rattle.ill_schema.specs.Texts.{hexadecimal}
use Rattle.ill_grammar.proofs.hexadecimal.add_octets.Given as goal

abbrev pub invariant-loop-octet : goal.invariant-loop-octet
invariant-loop-octet l = string_bytes l.text ≡ string_bytes l.fn.text ++ hexadecimal (take l.octet-index l.octets)
