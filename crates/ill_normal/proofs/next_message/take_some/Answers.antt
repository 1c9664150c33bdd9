use Rattle.std.proofs.Common.{rules, ◌≡◌, ◌≤◌, ◌++◌, length, take, drop, refl, sym, subst, ap, ◌∙◌, arith}
use Rattle.std.proofs.lemmas.List.{length-take-le, take-append-le, take-take}
use Rattle.std.specs.Io.KnownBytes.{Consumes}
use Rattle.std.proofs.KnownBytes.{Consumes-nil}
use Rattle.ill_normal.proofs.TakenElements.{fed_no_more, takes_needed, takes_none, takes_seen}
use Rattle.ber_core.proofs.Shown.{drops_shown}
use Rattle.ber_framing.specs.Framed.{IsPartOfFrame}
use Rattle.ill_normal.specs.code.Taking.{Takes}
use Rattle.ill_normal.proofs.next_message.take_some.Goals as goal

pub returns-in-Ok-consume-clause-takes : goal.returns-in-Ok-consume-clause-takes
returns-in-Ok-consume-clause-takes g c =
    let hand = c.buffered-hand.result.now in
    let n = c.feed-seen.result in
    let fed = c.feed-seen.ensures in
    takes_seen _ _ _ _ _ _ hand n c.if-seen-gt0.true fed.count
    (drops_shown (g.R.Source.left c.args.source.now) (g.R.Source.left c.consume.new.self) hand n c.buffered-hand.ensures.front fed.count c.in-Ok-consume.ensures.octets)
    fed.fed fed.within c.in-Ok.ensures

pub returns-in-Err-consume-clause-part : goal.returns-in-Err-consume-clause-part
returns-in-Err-consume-clause-part g c is b h =
    let hand = c.buffered-hand.result.now in
    let fed = c.feed-seen.ensures in
    let fewer = c.in-Err-consume.ensures.part in
    let k = fewer.0 in
    let le : k ≤ length hand = omega (arith, fewer.1, fed.count) in (
      take k hand,
      drops_shown (g.R.Source.left c.args.source.now) (g.R.Source.left c.consume.new.self) hand k c.buffered-hand.ensures.front le fewer.2,
      fed.within b k h fewer.1,
      λ n lt. let size = length-take-le k hand le in
          subst (λ z. IsPartOfFrame (b ++ z)) (sym (take-take n k hand (omega (arith, lt, size)))) (fed.within b n h (omega (arith, lt, size, fewer.1))),
    )

pub returns-then-wanted-eq0-clause-takes : goal.returns-then-wanted-eq0-clause-takes
returns-then-wanted-eq0-clause-takes g c =
    let fed = c.feed-seen.ensures in
    let same = fed_no_more c.args.framer.now c.feed-seen.new.self c.buffered-hand.result.now c.feed-seen.result c.if-seen-gt0.false fed.fed in
    takes_none _ _ _ _ _ _ (Consumes-nil (g.R.Source.left c.args.source.now)) same
    (λ b h p. let some = c.missing_len.ensures.some b (same b h) p in absurd (omega (arith, some, c.min-wanted.ensures, c.if-wanted-eq0.true, c.requires))) refl

pub returns-in-Ok-record_octets-clause-takes : goal.returns-in-Ok-record_octets-clause-takes
returns-in-Ok-record_octets-clause-takes g c =
    let seen = c.feed-seen.ensures in
    let same = fed_no_more c.args.framer.now c.feed-seen.new.self c.buffered-hand.result.now c.feed-seen.result c.if-seen-gt0.false seen.fed in
    let n = c.in-Ok-take.count in
    let given = c.take.new.buffer in
    let xs = take n (given ++ drop c.min-wanted.result c.args.buffer.now) in
    let le = c.in-Ok-take.ensures.count in
    let len : length given ≡ c.min-wanted.result = search rules in
    let front : xs ≡ take n given = take-append-le n given (drop c.min-wanted.result c.args.buffer.now) le in
    let size : length xs ≡ n = ap length front ∙ length-take-le n given le in
    subst (λ k. Takes (g.R.Source.left c.args.source.now) (g.R.Source.left c.take.new.self) c.args.framer.now c.feed.new.self c.args.recorded.now.items c.record_octets-2.new.recorded.items k) size
    (takes_needed _ _ _ _ _ _ xs c.feed.result c.missing_len.result
    (subst (Consumes (g.R.Source.left c.args.source.now) (g.R.Source.left c.take.new.self)) (sym front) c.in-Ok-take.ensures.octets.0)
    c.feed.ensures.count (omega (arith, size, le, len, c.min-wanted.ensures))
    (λ b w h lt. c.missing_len.ensures.any b w (same b h) lt) (λ b h. c.feed.ensures.fed b (same b h)) c.feed.ensures.all
    (λ z. c.in-Ok-take.ensures.octets.1 (omega (arith, size, z)) (omega (arith, len, c.if-wanted-eq0.false))) c.in-Ok-record_octets.ensures)
