use Rattle.std.proofs.Common.{◌+◌, ◌-◌, length, ap, arith}
use Rattle.std.proofs.lemmas.Slice.{drop-put_mid}
use Rattle.ill_read.proofs.usual.writing.copy.Goals as goal

pub returns-clause-behind : goal.returns-clause-behind
returns-clause-behind c =
    let n = length c.args.octets.now in
    let long = ap length c.copy_from_slice.ensures.after in
    drop-put_mid c.args.to (c.args.to + n - c.args.to) c.args.out.now c.copy_from_slice.new.self (c.args.to + n) (omega arith) (omega (arith, c.requires.room)) (omega (arith, long))
