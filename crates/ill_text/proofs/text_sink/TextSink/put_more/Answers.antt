use Rattle.std.proofs.Common.{◌≡◌, true, [], rules}
use Rattle.ill_text.proofs.Sent.{adds_broken, adds_then}
use Rattle.ill_text.proofs.text_sink.TextSink.put_more.Goals as goal

pub returns-then-self-clause-adds : goal.returns-then-self-clause-adds
returns-then-self-clause-adds g c =
    let e : c.flush.new.self.broken ≡ true = search rules in
    adds_then [] c.args.octets.now _ _ _ c.flush.ensures.adds (adds_broken _ _ _ c.flush.new.self e)

pub returns-then-octets-gt-BUFFER_LEN-clause-adds : goal.returns-then-octets-gt-BUFFER_LEN-clause-adds
returns-then-octets-gt-BUFFER_LEN-clause-adds g c = adds_then [] c.args.octets.now _ _ _ c.flush.ensures.adds c.send.ensures.adds

pub returns-clause-adds : goal.returns-clause-adds
returns-clause-adds g c = adds_then [] c.args.octets.now _ _ _ c.flush.ensures.adds (c.keep.ensures _ _)
