use Rattle.std.proofs.Common.{codes}
use Rattle.json.specs.Find.{as_number}
use Rattle.json.specs.Value.{value_view}
use Rattle.ill_build.specs.Faulty.{IsCountFault, IsFaultOf}
use Rattle.ill_build.proofs.LeafTexts.{member_refused}
use Rattle.ill_build.proofs.leaf.count_member.Goals as goal

pub returns-in-Err-clause-refused : goal.returns-in-Err-clause-refused
returns-in-Err-clause-refused c =
    let j = value_view c.args.value.now in
    let k = value_view c.in_ok-member.member.now in
    member_refused c.in-Err.stop c.within.result (codes "bits") j k (λ x. IsFaultOf (as_number x) IsCountFault) c.within.ensures c.in_ok-member.ensures.said c.in-Err.ensures.refused
