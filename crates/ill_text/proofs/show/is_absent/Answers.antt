use Rattle.std.proofs.Common.{◌∙◌, ap, sym, not}
use Rattle.ill_grammar.specs.Marks.{is_there}
use Rattle.ill_grammar.proofs.MarkedValues.{entry_absent_first, entry_value}
use Rattle.ill_text.proofs.show.is_absent.Goals as goal

pub returns-in-Some : goal.returns-in-Some
returns-in-Some c e ms rest h q = ap not (c.has_default.ensures e (entry_absent_first e ms rest c.args.marks.now c.in-Some.part h q (sym c.absent_row.ensures ∙ c.in-Some.is)).0)

pub returns-in-None : goal.returns-in-None
returns-in-None c e ms rest h q = sym (ap (λ x. not (is_there x)) (entry_value e ms rest c.args.marks.now h q (sym c.absent_row.ensures ∙ c.in-None.is)).1)
