use Rattle.std.proofs.Common.{◌≡◌, ◌≢◌, [], Err, FitsSigned, Some, arith, codes, of_z, rules, subst, to_z, w64}
use Rattle.std.proofs.lemmas.Int.{to_z-of_z}
use Rattle.json.specs.Find.{as_number, as_str}
use Rattle.json.specs.Value.{value_view}
use Rattle.ill_tables.specs.Numbers.{number_name, number_names}
use Rattle.ill_build.specs.declared.cause.BuildCause.{BuildCause}
use Rattle.ill_build.specs.Faulty.{IsFaultOf, IsMemberFault, IsNumberFault, IsWholeFault}
use Rattle.ill_build.proofs.LeafNumbers.{name_refused, number_refused}
use Rattle.ill_build.proofs.LeafTexts.{exit_refused}
use Rattle.ill_build.proofs.number.read_pair.Goals as goal

pub returns-in_err-number-clause-refused : goal.returns-in_err-number-clause-refused
returns-in_err-number-clause-refused c =
    let j = value_view c.args.value.now in
    let row = c.args.row.now in
    let stop = c.in_err-number.field-0.0 in
    let is : c.from_residual-in_err-number.result ≡ Err stop = grind arith in
    let names : number_names row ≢ [] = c.has_names.ensures.yes c.if-not-has_names.false in
    exit_refused c.from_residual-in_err-number.result stop (IsMemberFault (codes "number") (λ k. IsFaultOf (as_number k) IsNumberFault) j) (IsWholeFault row j) is
    (number_refused row j names c.in_ok-check_members.ensures.said) c.in_err-number.ensures.refused

pub returns-in_err-check_name-clause-refused : goal.returns-in_err-check_name-clause-refused
returns-in_err-check_name-clause-refused c =
    let j = value_view c.args.value.now in
    let row = c.args.row.now in
    let z = c.in_ok-number.number in
    let stop = c.in_err-check_name.field-0.0 in
    let is : c.from_residual-in_err-check_name.result ≡ Err stop = grind arith in
    let names : number_names row ≢ [] = c.has_names.ensures.yes c.if-not-has_names.false in
    let fits : FitsSigned w64 z = search rules in
    let same : to_z w64 (of_z w64 z) ≡ z = to_z-of_z w64 z fits in
    exit_refused c.from_residual-in_err-check_name.result stop
    (IsMemberFault (codes "name") (λ k. IsFaultOf (as_str k) (λ text cause. (number_name row (to_z w64 (of_z w64 z)) ≢ Some text) × (cause ≡ BuildCause.OtherName))) j) (IsWholeFault row j) is
    (λ cause path h.
    name_refused row j z names c.in_ok-check_members.ensures.said fits c.in_ok-number.ensures.said cause path
    (subst (λ x. IsMemberFault (codes "name") (λ k. IsFaultOf (as_str k) (λ text c. (number_name row x ≢ Some text) × (c ≡ BuildCause.OtherName))) j cause path) same h))
    c.in_err-check_name.ensures.refused
