use Rattle.std.proofs.Common.{◌≡◌, drop}
use Rattle.std.specs.List.{list_all}
use Rattle.ber_leaf.specs.Profile.{is_graphic}
use Rattle.ill_grammar.specs.Marks.{octets_in}
use Rattle.ill_text.proofs.module_leaf.are_graphic.Given as goal

abbrev pub invariant-loop-mark : goal.invariant-loop-mark
invariant-loop-mark l = list_all is_graphic (octets_in l.marks) ≡ list_all is_graphic (octets_in (drop l.mark-index l.marks))
