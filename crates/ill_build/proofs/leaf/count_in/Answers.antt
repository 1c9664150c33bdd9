use Rattle.std.proofs.Common.{◌≡◌, Some, FitsSigned, w64, arith, inr, refl, rules, Err, ap, ◌∙◌}
use Rattle.std.proofs.lemmas.Int.{ints, to_z-of_z}
use Rattle.json.specs.Find.{as_number}
use Rattle.json.specs.Value.{value_view}
use Rattle.ill_build.specs.declared.cause.BuildCause.{BuildCause}
use Rattle.ill_build.specs.Faulty.{IsCountFault, IsFaultOf}
use Rattle.ill_build.proofs.LeafNumbers.{below_zero, too_long}
use Rattle.ill_build.proofs.Refusals.{here}
use Rattle.ill_build.proofs.leaf.count_in.Goals as goal

pub returns-in-Ok-2-clause-refused : goal.returns-in-Ok-2-clause-refused
returns-in-Ok-2-clause-refused c =
    let j = value_view c.args.value.now in
    let text = c.in-Some.text.now in
    let found : as_number j ≡ Some text = grind arith in
    let fits : FitsSigned w64 c.in-Ok.number = search rules in
    here c.refused-in-Ok-2.result BuildCause.NumberTooLong (IsFaultOf (as_number j) IsCountFault) c.refused-in-Ok-2.ensures
    (inr (text, found, below_zero text c.in-Ok.number fits c.in-Ok.ensures.whole (grind (arith, ints, to_z-of_z)), refl))

pub returns-in-Err-TooLong-clause-refused : goal.returns-in-Err-TooLong-clause-refused
returns-in-Err-TooLong-clause-refused c =
    let j = value_view c.args.value.now in
    let text = c.in-Some.text.now in
    let found : as_number j ≡ Some text = grind arith in
    here c.refused-in-Err-TooLong.result BuildCause.NumberTooLong (IsFaultOf (as_number j) IsCountFault) c.refused-in-Err-TooLong.ensures
    (inr (text, found, too_long text (c.whole_number.ensures.too_long (c.in-Err-TooLong.is ∙ ap (λ x. Err x) c.in-Err-TooLong.field-0-is)), refl))
