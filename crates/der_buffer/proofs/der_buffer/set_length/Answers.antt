use Rattle.std.proofs.Common.{arith}
use Rattle.der_buffer.proofs.OpenElements.{short_length_set}
use Rattle.der_buffer.proofs.der_buffer.set_length.Goals as goal

pub returns-then-size-lt128 : goal.returns-then-size-lt128
returns-then-size-lt128 c =
    short_length_set c.args.octets.now.items c.args.contents_start _ c.requires.opened c.requires.within
    (omega (arith, c.len.ensures, c.args.octets.now.ok.0)) c.if-size-lt128.true
