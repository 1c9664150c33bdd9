use Rattle.std.proofs.Common.{[], ◌≡◌, rules}
use Rattle.test_encoding.proofs.FrameEndings.{ends_once, judged_once}
use Rattle.test_encoding.proofs.frames.frames_end_in_one_way.Goals as goal

pub prove-unreachable-requires : goal.prove-unreachable-requires
prove-unreachable-requires c =
    let first = c.feed-first.ensures in
    let second = c.feed-second.ensures in
    c.if-prove.true
    (ends_once c.args.octets.now c.feed-first.result c.feed-second.result c.feed-first.new.self c.feed-second.new.self first.count second.count
    (first.fed [] c.new-one.ensures) (second.fed [] c.new-other.ensures) (λ k. first.within [] k c.new-one.ensures) (λ k. second.within [] k c.new-other.ensures)
    first.all second.all)

pub prove-unreachable-requires-2 : goal.prove-unreachable-requires-2
prove-unreachable-requires-2 c =
    let same : c.framing.result ≡ c.framing-2.result = judged_once c.args.octets.now c.feed-first.result c.feed-second.result c.framing.result c.framing-2.result c.if-prove.false
    (c.framing.ensures _ (c.feed-first.ensures.fed [] c.new-one.ensures)) (c.framing-2.ensures _ (c.feed-second.ensures.fed [] c.new-other.ensures)) in
    search rules
