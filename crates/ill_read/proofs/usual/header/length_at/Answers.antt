use Rattle.std.proofs.Common.{get_or, sym, subst, arith}
use Rattle.ber_tree.specs.Length.{IsLength}
use Rattle.ber_tree.specs.Length as lengths
use Rattle.ill_read.proofs.UsualWrites.{one_octet}
use Rattle.ill_read.proofs.usual.header.length_at.Goals as goal

pub returns-then-first-lt128-clause-is : goal.returns-then-first-lt128-clause-is
returns-then-first-lt128-clause-is c few =
    let octets = c.args.input.octets.now in
    subst (IsLength (get_or octets c.args.at 0)) (sym (one_octet octets c.args.at (omega (arith, c.requires, c.args.input.within)))) (lengths.short (omega (arith, c.if-first-lt128.true)))
