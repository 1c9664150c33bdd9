use Rattle.std.proofs.Common.{rules, ◌≡◌, ◌<◌, length, take, refl, subst}
use Rattle.std.specs.Io.KnownBytes.{Appends}
use Rattle.ill_cli.proofs.results.WriteResultsWriteItems.refused.Goals as goal

pub returns-in-Ok-put-clause-puts : goal.returns-in-Ok-put-clause-puts
returns-in-Ok-put-clause-puts g c =
    let held = g.W.Sink.contents c.args.sink.now in
    let held' = g.W.Sink.contents c.put_all-put.new.sink in
    let is = c.in-Ok.ensures in
    let len : c.len-len.result ≡ length c.in-Ok.refused.line.items = search rules in
    (c.in-Ok.refused.line.items, ((is.0, c.in-Ok.refused.kind, is.1), len), subst (Appends held held') c.deref.ensures.value c.in-Ok-put.ensures.all)

pub returns-in-Err-put-clause-fails : goal.returns-in-Err-put-clause-fails
returns-in-Err-put-clause-fails g c =
    let held = g.W.Sink.contents c.args.sink.now in
    let held' = g.W.Sink.contents c.put_all-put.new.sink in
    let n = c.in-Err-put.count in
    let is = c.in-Ok.ensures in
    let line = c.deref.ensures.value in (
      (
        c.in-Ok.refused.line.items,
        (is.0, c.in-Ok.refused.kind, is.1),
        subst (λ octets. Appends held held' (take n octets)) line c.in-Err-put.ensures.some,
        subst (λ octets. n < length octets) line c.in-Err-put.ensures.fewer,
      ),
      c.in-Err-put.ensures.breaks refl,
    )
