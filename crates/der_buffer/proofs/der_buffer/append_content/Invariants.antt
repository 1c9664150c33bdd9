use Rattle.std.proofs.Common.{◌≡◌, ◌+◌, ◌-◌, ◌≤◌, ◌++◌, length, take}
use Rattle.std.specs.Vec.{vec_len, vec_capacity}
use Rattle.der_buffer.proofs.der_buffer.append_content.Given as goal

abbrev pub invariant-loop-octet : goal.invariant-loop-octet
invariant-loop-octet l =
    (l.octets.items ≡ l.fn.octets.items ++ take l.octet-index l.content)
    × (vec_len l.octets + (length l.content - l.octet-index) ≤ vec_capacity l.octets)
