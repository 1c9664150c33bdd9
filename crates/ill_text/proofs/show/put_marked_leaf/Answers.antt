use Rattle.std.proofs.Common.{◌≡◌, ◌+◌, ◌-◌, ◌∙◌, ap, sym, subst, ℕ, length, take, drop, arith}
use Rattle.ber_leaf.specs.Leaf.{value}
use Rattle.ill_grammar.specs.LeafTypes.{IsContentIn, leaf_is}
use Rattle.ill_text.specs.Shown.{leaf_text, line}
use Rattle.ill_text.specs.code.FieldPaths.{path_of}
use Rattle.ill_grammar.proofs.MarkedValues.{leaf_parts, whole_rest}
use Rattle.ill_text.proofs.Sent.{adds_as}
use Rattle.ill_text.proofs.show.put_marked_leaf.Goals as goal

pub returns-clause-adds : goal.returns-clause-adds
returns-clause-adds g c p octets rest content e =
    let marks = c.args.marks.now in
    let place = c.args.place.now in
    let n = c.put_leaf-count.result in
    let parts = leaf_parts octets rest marks n e c.put_leaf-count.ensures.exact in
    let at : c.min.result ≡ n + 1 = omega (arith, c.min.ensures, parts.2) in
    let is = c.put_leaf-count.ensures.adds p (subst (IsContentIn p (leaf_is c.args.leaf)) (sym parts.0) content) in (
      ap (λ (k : ℕ). take (length marks - k) (drop k marks)) at ∙ whole_rest (n + 1) marks ∙ parts.1,
      adds_as _ _ _ _ (ap (λ o. line (path_of place.path.now) (leaf_text place.name.now (value (leaf_is c.args.leaf) o))) parts.0) is,
    )
