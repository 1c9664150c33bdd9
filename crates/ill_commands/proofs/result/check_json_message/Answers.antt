use Rattle.std.proofs.Common.{refl}
use Rattle.ill_commands.proofs.MadePieces.{makes_check_json}
use Rattle.ill_commands.proofs.result.check_json_message.Goals as goal

pub returns : goal.returns
returns c octets h = makes_check_json c.args.work c.args.place c.in_ok-line.line _ c.checked_of-found.result (c.checked_of-found.ensures c.args.work.profile _ octets h refl) c.in_ok-line.ensures
