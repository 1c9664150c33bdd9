use Rattle.std.proofs.Common.{◌≡◌, true, false, refl, rules}
use Rattle.ill_commands.proofs.MadePieces.{makes_hex, makes_normal}
use Rattle.ill_commands.proofs.piece.canonical_message.Goals as goal

pub returns-then-not-work : goal.returns-then-not-work
returns-then-not-work c = λ place octets h.
    let w = c.args.work in
    let no : w.hex ≡ false = search rules in
    rw c.replace.ensures.value (makes_normal w place _ c.args.message.now octets h _ no (c.is_good_if-is_good.ensures w.profile _ octets h refl))

pub returns : goal.returns
returns c = λ place octets h.
    let w = c.args.work in
    let yes : w.hex ≡ true = search rules in
    makes_hex w place _ c.args.message.now octets h _ c.in_ok-line.line yes (c.is_good_if-is_good.ensures w.profile _ octets h refl) (rw c.deref.ensures.value at c.in_ok-line.ensures)
