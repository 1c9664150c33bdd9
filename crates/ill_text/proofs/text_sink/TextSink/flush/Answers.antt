use Rattle.std.proofs.Common.{◌≡◌, ◌≤◌, ◌+◌, true, false, refl, length, arith, rules}
use Rattle.ill_text.specs.code.Sending.{counted}
use Rattle.ill_text.proofs.Sent.{adds_broken, flushed_all, flushed_some}
use Rattle.ill_text.proofs.text_sink.TextSink.flush.Goals as goal

pub returns-then-self-clause-adds : goal.returns-then-self-clause-adds
returns-then-self-clause-adds g c = let e : c.args.self.now.broken ≡ true = search rules in adds_broken _ _ _ c.args.self.now e

pub returns-in-Ok-clause-adds : goal.returns-in-Ok-clause-adds
returns-in-Ok-clause-adds g c =
    let o = c.args.self.now in
    let whole : o.broken ≡ false = search rules in
    let le : o.len ≤ length o.waiting = search rules in
    let n : c.saturating_add-self.result ≡ counted (o.written + o.len) = omega (arith, c.saturating_add-self.ensures) in
    flushed_all _ _ _ _ o _ le whole whole c.in-Ok.ensures.all n refl

pub returns-in-Err-clause-adds : goal.returns-in-Err-clause-adds
returns-in-Err-clause-adds g c =
    let o = c.args.self.now in
    let whole : o.broken ≡ false = search rules in
    flushed_some _ _ _ _ o _ c.in-Err.count whole c.end.ensures.broke c.in-Err.ensures.some c.in-Err.ensures.fewer c.end.ensures.written (c.in-Err.ensures.breaks refl)
