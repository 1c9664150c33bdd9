use Rattle.std.proofs.Common.{FitsSigned, w64, ap, ◌∙◌, sym, rules}
use Rattle.std.proofs.lemmas.Int.{to_z-of_z}
use Rattle.ber_leaf.specs.Leaf.{octet_count}
use Rattle.ber_leaf.proofs.Integers.{length-normal}
use Rattle.ber_leaf.proofs.integer.WholeLeaf.normal_size.Goals as goal

pub returns : goal.returns
returns c =
    let fits : FitsSigned w64 c.args.value.now = search rules in
    let reached = simp to_z-of_z at c.magnitude.ensures in
    c.octet_count.ensures ∙ ap octet_count reached ∙ sym (length-normal c.args.value.now)
