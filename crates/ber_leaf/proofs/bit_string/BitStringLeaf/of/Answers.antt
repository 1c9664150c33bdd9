use Rattle.std.proofs.Common.{◌≡◌, ℕ, List, ◌++◌, length, take, drop, IsTrue, sym, ap, ◌∙◌, subst, take_at}
use Rattle.ber_leaf.specs.declared.fault.LeafFault.{LeafFault}
use Rattle.ber_leaf.specs.Content.{IsContent}
use Rattle.ber_leaf.specs.Leaf.{bit_string, bit_count, bit_octets, is_bits}
use Rattle.ber_leaf.specs.Simple.{bits}
use Rattle.ber_leaf.specs.Bits.{IsNormalBits, cleared_content}
use Rattle.ber_leaf.proofs.Bits.{clear_is_normal, length-content, same_bits}
use Rattle.ber_leaf.proofs.Leaves.{content_holds, no_fault, tested}
use Rattle.ber_leaf.proofs.bit_string.BitStringLeaf.of.Goals as goal

are_bits : (o : List ℕ) → IsContent bit_string o → IsTrue (is_bits o)
are_bits o h = tested (is_bits o) LeafFault.BadBits (no_fault bit_string o h)

-- the vector has what was written over all of its octets
written : (o new : List ℕ) (n : ℕ) → new ≡ cleared_content o → length o ≡ n → take n (new ++ drop (length new) o) ≡ cleared_content o
written o new n e l =
    let size : n ≡ length new = sym l ∙ sym (length-content o) ∙ sym (ap length e) in
    take_at new (drop (length new) o) n (sym size) ∙ e

pub clear_unused-requires : goal.clear_unused-requires
clear_unused-requires c = subst (λ o. IsTrue (is_bits o)) (sym c.deref_mut.ensures.value) (are_bits c.args.octets.items c.requires)

pub invariant_of-result : goal.invariant_of-result
invariant_of-result c =
    let o = c.args.octets.items in
    let e = written o c.clear_unused.new.content c.args.octets.len (c.clear_unused.ensures ∙ ap cleared_content c.deref_mut.ensures.value) (sym (ap length c.deref_mut.ensures.value) ∙ c.deref_mut.ensures.len) in
    subst IsNormalBits (sym e) (clear_is_normal o (content_holds bit_string o c.requires).0 (are_bits o c.requires))

pub returns : goal.returns
returns c =
    let o = c.args.octets.items in
    let e = written o c.clear_unused.new.content c.args.octets.len (c.clear_unused.ensures ∙ ap cleared_content c.deref_mut.ensures.value) (sym (ap length c.deref_mut.ensures.value) ∙ c.deref_mut.ensures.len) in
    let held = content_holds bit_string o c.requires in
    (held.0, held.1, ap (λ z. bits (bit_count z) (bit_octets z)) e ∙ same_bits o)
