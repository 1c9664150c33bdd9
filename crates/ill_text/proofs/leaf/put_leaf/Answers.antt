use Rattle.std.proofs.Common.{ap, sym, subst, take}
use Rattle.ber_leaf.specs.Leaf.{value}
use Rattle.ill_grammar.specs.LeafTypes.{IsContentIn, leaf_is}
use Rattle.ill_text.specs.Shown.{leaf_text, line}
use Rattle.ill_grammar.specs.Marks.{octets_in}
use Rattle.ill_text.specs.code.FieldPaths.{path_of}
use Rattle.ill_grammar.proofs.MarkedValues.{few_enumerated, few_octets}
use Rattle.ill_text.proofs.Sent.{adds_as}
use Rattle.ill_text.proofs.leaf.put_leaf.Goals as goal

pub returns-in-Integer-clause-adds : goal.returns-in-Integer-clause-adds
returns-in-Integer-clause-adds g c p h =
    let place = c.args.place.now in
    let o = octets_in (take c.put_whole.result c.args.marks.now) in
    let few = few_octets p o (subst (λ l. IsContentIn p (leaf_is l) o) c.in-Integer.is h) in
    adds_as _ _ _ _ (ap (λ l. line (path_of place.path.now) (leaf_text place.name.now (value (leaf_is l) o))) (sym c.in-Integer.is))
    (c.put_whole.ensures.adds few.0 few.1)

pub returns-in-Enumerated-clause-adds : goal.returns-in-Enumerated-clause-adds
returns-in-Enumerated-clause-adds g c p h =
    let place = c.args.place.now in
    let o = octets_in (take c.put_whole-in-Enumerated.result c.args.marks.now) in
    let few = few_enumerated p o (subst (λ l. IsContentIn p (leaf_is l) o) c.in-Enumerated.is h) in
    adds_as _ _ _ _ (ap (λ l. line (path_of place.path.now) (leaf_text place.name.now (value (leaf_is l) o))) (sym c.in-Enumerated.is))
    (c.put_whole-in-Enumerated.ensures.adds few.0 few.1)
