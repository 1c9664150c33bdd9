use Rattle.std.proofs.Common.{◌≡◌, false, take}
use Rattle.ill_commands.specs.Lines.{has_line_end}
use Rattle.ill_commands.proofs.lines.reader.line_size.Given as goal

abbrev pub invariant-octets : goal.invariant-octets
invariant-octets l = has_line_end (take l.i l.octets) ≡ false
