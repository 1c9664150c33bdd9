use Rattle.std.proofs.Common.{arith}
use Rattle.ber_foreign.proofs.Elements.{element_joined, element_len, no_id, no_len}
use Rattle.ber_foreign.proofs.element.first_element.Goals as goal

pub returns-in_err-id : goal.returns-in_err-id
returns-in_err-id c = rw c.from_residual.ensures (no_id c.args.octets.now c.in_err-id.ensures)

pub returns-in_err-len : goal.returns-in_err-len
returns-in_err-len c =
    rw c.from_residual-in_err-len.ensures (no_len c.args.octets.now c.in_ok-id.after_id.now c.in_ok-id.id c.in_ok-id.ensures (omega arith) c.in_err-len.ensures)

pub returns-then-len-after_len : goal.returns-then-len-after_len
returns-then-len-after_len c =
    λ b. let le = element_len c.args.octets.now c.in_ok-id.after_id.now c.in_ok-len.after_len.now c.in_ok-id.id c.in_ok-len.len c.in_ok-id.ensures c.in_ok-len.ensures b in omega (arith, le)

pub returns : goal.returns
returns c =
    element_joined c.args.octets.now c.in_ok-id.after_id.now c.in_ok-len.after_len.now _ _ c.in_ok-id.id c.in_ok-len.len c.in_ok-id.ensures c.in_ok-len.ensures (omega arith) c.split_at.ensures.front c.split_at.ensures.back
