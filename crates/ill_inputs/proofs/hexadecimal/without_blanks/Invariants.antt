use Rattle.std.proofs.Common.{◌≡◌, take}
use Rattle.ill_inputs.specs.Hexadecimal.{without_blanks}
use Rattle.ill_inputs.proofs.hexadecimal.without_blanks.Given as goal

abbrev pub invariant-loop-octet : goal.invariant-loop-octet
invariant-loop-octet l = l.digits.items ≡ without_blanks (take l.octet-index l.text)
