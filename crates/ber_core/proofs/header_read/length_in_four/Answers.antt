use Rattle.std.proofs.Common.{ℕ, ◌<◌, slice_index_or, arith}
use Rattle.ber_core.proofs.HeadersRead.{four_length}
use Rattle.ber_core.proofs.header_read.length_in_four.Goals as goal

pub returns : goal.returns
returns c =
    let w = c.args.octets.now in
    let octet : (i : ℕ) → slice_index_or w i 0 < 256 = λ i. omega (arith, c.type_inv.octets i) in
    λ constructed. (omega arith, c.in-len6-up.len_at_least, (_, four_length constructed w c.in-len6-up.len_at_least c.requires, omega (arith, octet 2, octet 3, octet 4, octet 5)))
