use Rattle.std.proofs.Common.{◌≡◌, ap, sym, rules, []}
use Rattle.ill_text.specs.code.Elements.{blank}
use Rattle.std.proofs.lemmas.List.{nil_from_length}
use Rattle.ill_text.proofs.Sent.{adds_as, adds_nothing}
use Rattle.ill_text.proofs.foreign.put_blank.Goals as goal

pub returns-else-not-is_empty-clause-adds : goal.returns-else-not-is_empty-clause-adds
returns-else-not-is_empty-clause-adds g c =
    let none : c.args.marks.now ≡ [] = nil_from_length c.args.marks.now (search rules) in
    adds_as _ _ _ _ (sym (ap blank none)) (adds_nothing _)
