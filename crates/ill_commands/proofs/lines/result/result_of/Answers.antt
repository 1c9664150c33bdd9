use Rattle.std.proofs.Common.{IfOk, Ok, sym, subst}
use Rattle.ill_commands.specs.HexLines.{IsResult}
use Rattle.ill_commands.proofs.lines.result.result_of.Goals as goal

pub returns-in-Ok : goal.returns-in-Ok
returns-in-Ok c =
    let found = subst (λ l. IfOk c.message_result.result (λ found. IsResult c.args.work (Ok l) found.words.items found.is_good)) c.deref.ensures.value c.message_result.ensures in
    subst (λ o. IfOk c.message_result.result (λ found. IsResult c.args.work o found.words.items found.is_good)) (sym c.in-Ok.ensures.octets) found
