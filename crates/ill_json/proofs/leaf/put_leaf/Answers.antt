use Rattle.std.proofs.Common.{◌∙◌, ap, sym, subst, ℤ, rules, FitsSigned, w64}
use Rattle.std.proofs.lemmas.Int.{to_z-of_z}
use Rattle.ber_leaf.specs.Leaf.{value}
use Rattle.ber_leaf.specs.Simple.{whole}
use Rattle.json.specs.Tree.{json_tokens}
use Rattle.ill_grammar.specs.LeafTypes.{IsContentIn, leaf_is}
use Rattle.ill_grammar.specs.Marks.{octets_in}
use Rattle.ill_grammar.proofs.MarkedValues.{few_enumerated, few_octets}
use Rattle.ill_json.specs.Json.{leaf_json}
use Rattle.ill_json.proofs.Added.{adds_as}
use Rattle.ill_json.proofs.leaf.put_leaf.Goals as goal

pub returns-in-Integer : goal.returns-in-Integer
returns-in-Integer c p h =
    let o = octets_in c.args.octets.now in
    let content = subst (λ l. IsContentIn p (leaf_is l) o) c.in-Integer.is h in
    let few = few_octets p o content in
    let fits : FitsSigned w64 c.number_in.result = search rules in
    let n = to_z-of_z w64 c.number_in.result fits ∙ c.number_in.ensures few.0 few.1 in
    adds_as _ _ _ _ (ap (λ (z : ℤ). json_tokens (leaf_json c.args.name.now (whole z))) n ∙ ap (λ l. json_tokens (leaf_json c.args.name.now (value (leaf_is l) o))) (sym c.in-Integer.is)) c.put_number.ensures

pub returns-in-Enumerated : goal.returns-in-Enumerated
returns-in-Enumerated c p h =
    let o = octets_in c.args.octets.now in
    let content = subst (λ l. IsContentIn p (leaf_is l) o) c.in-Enumerated.is h in
    let few = few_enumerated p o content in
    let fits : FitsSigned w64 c.number_in-in-Enumerated.result = search rules in
    let n = to_z-of_z w64 c.number_in-in-Enumerated.result fits ∙ c.number_in-in-Enumerated.ensures few.0 few.1 in
    adds_as _ _ _ _ (ap (λ (z : ℤ). json_tokens (leaf_json c.args.name.now (whole z))) n ∙ ap (λ l. json_tokens (leaf_json c.args.name.now (value (leaf_is l) o))) (sym c.in-Enumerated.is)) c.put_number-in-Enumerated.ensures
