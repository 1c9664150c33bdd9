use Rattle.std.proofs.Common.{◌≡◌, ◌+◌, refl, length, arith}
use Rattle.ill_text.specs.code.Sending.{counted}
use Rattle.ill_text.proofs.Sent.{empty_all, empty_some}
use Rattle.ill_text.proofs.text_sink.TextSink.send.Goals as goal

pub returns-in-Ok-clause-adds : goal.returns-in-Ok-clause-adds
returns-in-Ok-clause-adds g c =
    let o = c.args.self.now in
    let n : c.saturating_add-self.result ≡ counted (o.written + length c.args.octets.now) = omega (arith, c.saturating_add-self.ensures) in
    empty_all c.args.octets.now _ _ _ _ o _ c.requires.empty c.requires.whole c.requires.whole c.in-Ok.ensures.all n c.requires.empty

pub returns-in-Err-clause-adds : goal.returns-in-Err-clause-adds
returns-in-Err-clause-adds g c =
    let o = c.args.self.now in
    empty_some c.args.octets.now _ _ _ _ o _ c.in-Err.count c.requires.empty c.requires.whole c.end.ensures.broke c.in-Err.ensures.some c.in-Err.ensures.fewer c.end.ensures.written (c.in-Err.ensures.breaks refl)
