use Rattle.std.proofs.Common.{refl, rules}
use Rattle.ber_leaf.specs.Leaf.{octet_string}
use Rattle.ber_leaf.proofs.Leaves.{content, items_are_octets}
use Rattle.ber_leaf.proofs.octet_string.OctetString.new.Goals as goal

pub invariant_of-result : goal.invariant_of-result
invariant_of-result c = content octet_string c.args.octets.items (items_are_octets c.args.octets.items (search rules)) refl
