use Rattle.std.proofs.Common.{refl}
use Rattle.ill_commands.proofs.MadePieces.{makes_digest_json}
use Rattle.ill_commands.proofs.result.digest_json_message.Goals as goal

pub returns : goal.returns
returns c octets h =
    let line = rw (c.normal_digest-digest.ensures, c.deref.ensures.value) at c.in_ok-line.ensures in
    makes_digest_json c.args.work c.args.place c.in_ok-line.line _ c.checked_of-found.result (c.checked_of-found.ensures c.args.work.profile _ octets h refl) c.args.message.now.normal.items h.normal line
