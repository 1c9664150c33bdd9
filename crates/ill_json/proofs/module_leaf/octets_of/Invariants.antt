use Rattle.std.proofs.Common.{◌≡◌, take}
use Rattle.ill_grammar.specs.Marks.{octets_in}
use Rattle.ill_json.proofs.module_leaf.octets_of.Given as goal

abbrev pub invariant-loop-mark : goal.invariant-loop-mark
invariant-loop-mark l = l.all.items ≡ octets_in (take l.mark-index l.octets)
