use Rattle.std.proofs.Common.{◌≡◌, ℕ, min, drop}
use Rattle.ill_schema.specs.Texts.{numbers_after}
use Rattle.oid_text.specs.Numbers.{are_short}
use Rattle.oid_text.proofs.octets.are_short.Given as goal

abbrev pub invariant-loop-octet : goal.invariant-loop-octet
invariant-loop-octet l =
    (so_far : ℕ) × (l.number ≡ min so_far 18_446_744_073_709_551_615) × (are_short (numbers_after 0 l.octets) ≡ are_short (numbers_after so_far (drop l.octet-index l.octets)))
