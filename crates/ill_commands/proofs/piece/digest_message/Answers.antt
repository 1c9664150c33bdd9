use Rattle.std.proofs.Common.{refl}
use Rattle.ill_commands.proofs.MadePieces.{makes_digest}
use Rattle.ill_commands.proofs.piece.digest_message.Goals as goal

pub returns : goal.returns
returns c octets h =
    let w = c.args.work in
    let line = rw (c.normal_digest-digest.ensures, c.deref.ensures.value) at c.in_ok-line.ensures in
    makes_digest w c.args.place _ c.args.message.now octets h _ c.in_ok-line.line (c.is_good_if-is_good.ensures w.profile _ octets h refl) line
