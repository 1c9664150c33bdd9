use Rattle.std.proofs.Common.{◌∙◌, ap, ℤ, rules, FitsSigned, w64}
use Rattle.std.proofs.lemmas.Int.{to_z-of_z}
use Rattle.ber_leaf.specs.Simple.{whole}
use Rattle.ill_text.specs.Shown.{leaf_text, line}
use Rattle.ill_text.specs.code.FieldPaths.{path_of}
use Rattle.ill_text.proofs.Sent.{adds_as}
use Rattle.ill_text.proofs.leaf.put_whole.Goals as goal

pub returns-clause-adds : goal.returns-clause-adds
returns-clause-adds g c some few =
    let place = c.args.place.now in
    let fits : FitsSigned w64 c.number_in.result = search rules in
    adds_as _ _ _ _ (ap (λ (z : ℤ). line (path_of place.path.now) (leaf_text place.name.now (whole z)))
    (to_z-of_z w64 c.number_in.result fits ∙ c.number_in.ensures some few))
    c.put_number.ensures.adds
