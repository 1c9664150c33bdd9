use Rattle.std.proofs.Common.{◌≡◌, ◌+◌, ◌-◌, ◌∙◌, ap, sym, subst, ℕ, length, take, drop, arith}
use Rattle.ber_leaf.specs.Leaf.{value}
use Rattle.ill_grammar.specs.LeafTypes.{IsContentIn, leaf_is}
use Rattle.ill_grammar.proofs.MarkedValues.{leaf_parts, whole_rest}
use Rattle.json.specs.Tree.{json_tokens}
use Rattle.ill_json.specs.Json.{leaf_json}
use Rattle.ill_json.proofs.Added.{adds_as}
use Rattle.ill_json.proofs.value.put_marked_leaf.Goals as goal

pub returns-clause-adds : goal.returns-clause-adds
returns-clause-adds c p octets rest content e =
    let n = c.leading_octets-count.result in
    let parts = leaf_parts octets rest c.args.marks.now n e c.leading_octets-count.ensures.exact in
    let at : c.min.result ≡ n + 1 = omega (arith, c.min.ensures, parts.2) in
    let is = c.put_leaf.ensures p (subst (IsContentIn p (leaf_is c.args.leaf)) (sym parts.0) content) in
    (ap (λ (k : ℕ). take (length c.args.marks.now - k) (drop k c.args.marks.now)) at ∙ whole_rest (n + 1) c.args.marks.now ∙ parts.1, adds_as _ _ _ _ (ap (λ o. json_tokens (leaf_json c.args.name.now (value (leaf_is c.args.leaf) o))) parts.0) is)
