use Rattle.std.proofs.Common.{◌≡◌, ◌≢◌, FitsSigned, Some, codes, of_z, rules, subst, to_z, w64}
use Rattle.std.proofs.lemmas.Int.{to_z-of_z}
use Rattle.json.specs.Find.{as_str}
use Rattle.json.specs.Value.{value_view}
use Rattle.ill_tables.specs.Numbers.{number_name}
use Rattle.ill_build.specs.declared.cause.BuildCause.{BuildCause}
use Rattle.ill_build.specs.Faulty.{IsFaultOf}
use Rattle.ill_build.specs.Path.{OnRefused}
use Rattle.ill_build.proofs.LeafTexts.{member_refused}
use Rattle.ill_build.proofs.number.check_name.Goals as goal

pub returns-in-Err-clause-refused : goal.returns-in-Err-clause-refused
returns-in-Err-clause-refused c =
    let j = value_view c.args.value.now in
    let k = value_view c.in_ok-member.member.now in
    let row = c.args.row.now in
    let z = c.args.number in
    let fits : FitsSigned w64 z = search rules in
    let same : to_z w64 (of_z w64 z) ≡ z = to_z-of_z w64 z fits in
    member_refused c.in-Err.stop c.within.result (codes "name") j k (λ x. IsFaultOf (as_str x) (λ text cause. (number_name row z ≢ Some text) × (cause ≡ BuildCause.OtherName))) c.within.ensures c.in_ok-member.ensures.said
    (subst (λ y. OnRefused c.in-Err.stop (IsFaultOf (as_str k) (λ text cause. (number_name row y ≢ Some text) × (cause ≡ BuildCause.OtherName)))) same c.in-Err.ensures.refused)
