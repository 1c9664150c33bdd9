use Rattle.std.proofs.Common.{◌≡◌, drop}
use Rattle.ber_leaf.specs.Leaf.{goes_on}
use Rattle.ber_leaf.proofs.object_identifier.is_oid.Given as goal

abbrev pub invariant-loop-octet : goal.invariant-loop-octet
invariant-loop-octet l = goes_on l.before (drop l.octet-index l.octets) ≡ goes_on 0 l.octets
