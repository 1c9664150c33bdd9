use Rattle.std.proofs.Common.{◌≡◌, ◌∙◌, length, arith, ap, rules, FitsSigned, w64}
use Rattle.std.proofs.lemmas.Int.{to_z-of_z}
use Rattle.ber_leaf.specs.Leaf.{integer, integer_of}
use Rattle.ber_leaf.specs.Profile.{profile_two}
use Rattle.ber_leaf.specs.Simple.{whole}
use Rattle.ber_leaf.proofs.Leaves.{content_holds, no_fault}
use Rattle.ber_leaf.proofs.Integers.{integer_size}
use Rattle.ber_leaf.proofs.integer.WholeLeaf.of.Goals as goal

pub returns : goal.returns
returns c =
    let held = content_holds integer _ c.requires in
    let fits : FitsSigned w64 c.read.result = search rules in
    (held.0, held.1, ap whole (to_z-of_z w64 c.read.result fits ∙ c.read.ensures ∙ ap integer_of c.deref.ensures.value))

pub read-requires : goal.read-requires
read-requires c =
    let size = integer_size profile_two c.args.octets.items (no_fault integer _ c.requires) in
    let here : length c.deref.result.now ≡ length c.args.octets.items = ap length c.deref.ensures.value in
    record { some = omega (arith, size.0, here); few = omega (arith, size.1, here) }
