use Rattle.std.proofs.Common.{◌≡◌, false, take}
use Rattle.ill_inputs.specs.Parts.{has_end}
use Rattle.ill_files.proofs.listed.split_name.Given as goal

abbrev pub invariant-loop-end : goal.invariant-loop-end
invariant-loop-end l = has_end 0 (take l.end l.list) ≡ false
