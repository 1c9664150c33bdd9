use Rattle.std.proofs.Common.{refl}
use Rattle.ill_commands.proofs.MadePieces.{makes_checked}
use Rattle.ill_commands.proofs.piece.check_message.Goals as goal

pub returns : goal.returns
returns c octets h = makes_checked c.args.work c.args.place c.in_ok-line.line _ c.checked_of-found.result (c.checked_of-found.ensures c.args.work.profile _ octets h refl) c.in_ok-line.ensures
