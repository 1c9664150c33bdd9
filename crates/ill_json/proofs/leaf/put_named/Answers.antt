use Rattle.std.proofs.Common.{ap, ℤ, Some, rules, FitsSigned, w64}
use Rattle.std.proofs.lemmas.Int.{to_z-of_z}
use Rattle.json.specs.Tree.{json_tokens}
use Rattle.ill_json.specs.Json.{number_json}
use Rattle.ill_json.proofs.Added.{adds_as, adds_then}
use Rattle.ill_json.proofs.leaf.put_named.Goals as goal

pub returns : goal.returns
returns c =
    let fits : FitsSigned w64 c.args.number = search rules in
    adds_as _ _ _ _ (ap (λ (z : ℤ). json_tokens (number_json z (Some c.args.name.now))) (to_z-of_z w64 c.args.number fits))
    (adds_then _ _ _ _ _ (adds_then _ _ _ _ _ (adds_then _ _ _ _ _ (adds_then _ _ _ _ _ (adds_then _ _ _ _ _ c.put.ensures c.put-2.ensures) c.whole.ensures) c.put-3.ensures) c.put-4.ensures) c.put-5.ensures)
