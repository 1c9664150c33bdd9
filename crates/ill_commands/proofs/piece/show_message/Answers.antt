use Rattle.std.proofs.Common.{refl}
use Rattle.ill_commands.proofs.MadePieces.{makes_shown}
use Rattle.ill_commands.proofs.piece.show_message.Goals as goal

pub returns : goal.returns
returns c octets h =
    let w = c.args.work in
    makes_shown w c.args.place _ c.args.message.now octets h c.is_good_if-is_good.result c.args.message.now.outline c.in_ok-text.text (rw c.replace-outline.ensures.value at c.in_ok-text.ensures) (h.outline refl)
    (c.is_good_if-is_good.ensures w.profile _ octets h refl)
