use Rattle.std.proofs.Common.{Some, sym, ap, ◌∙◌, ℤ, rules, FitsSigned, w64}
use Rattle.std.proofs.lemmas.Int.{to_z-of_z}
use Rattle.ill_text.specs.Shown.{in_brackets, text_name}
use Rattle.ill_text.proofs.Sent.{adds_as, adds_nothing, adds_then}
use Rattle.ill_text.proofs.leaf.put_name.Goals as goal

pub returns-in-Some-clause-adds : goal.returns-in-Some-clause-adds
returns-in-Some-clause-adds g c =
    let fits : FitsSigned w64 c.args.number = search rules in
    let same = ap (λ (z : ℤ). in_brackets (text_name c.args.row.now z)) (to_z-of_z w64 c.args.number fits) in
    adds_as _ _ _ _ (ap (λ n. in_brackets n) (ap (λ x. Some x) c.as_bytes.ensures.value ∙ sym c.in-Some.ensures) ∙ same)
    (adds_then _ _ _ _ _ c.put.ensures.adds (adds_then _ _ _ _ _ c.put-in-Some.ensures.adds c.put-in-Some-2.ensures.adds))

pub returns-in-None-clause-adds : goal.returns-in-None-clause-adds
returns-in-None-clause-adds g c =
    let fits : FitsSigned w64 c.args.number = search rules in
    let same = ap (λ (z : ℤ). in_brackets (text_name c.args.row.now z)) (to_z-of_z w64 c.args.number fits) in
    adds_as _ _ _ _ (ap in_brackets (sym c.in-None.ensures) ∙ same) (adds_nothing _)
