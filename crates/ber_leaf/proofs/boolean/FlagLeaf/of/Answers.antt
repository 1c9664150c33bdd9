use Rattle.std.proofs.Common.{not, nat_eq, length, ap, ◌∙◌}
use Rattle.std.specs.List.{list_all}
use Rattle.ber_leaf.specs.Leaf.{boolean}
use Rattle.ber_leaf.specs.Simple.{flag}
use Rattle.ber_leaf.proofs.Leaves.{content_holds, no_fault, one_octet}
use Rattle.ber_leaf.proofs.boolean.FlagLeaf.of.Goals as goal

pub read-requires : goal.read-requires
read-requires c = ap length c.deref.ensures.value ∙ one_octet c.args.octets.items (no_fault boolean _ c.requires)

pub returns : goal.returns
returns c =
    let held = content_holds boolean _ c.requires in
    (held.0, held.1, ap flag c.read.ensures ∙ ap (λ o. flag (not (list_all (nat_eq 0) o))) c.deref.ensures.value)
