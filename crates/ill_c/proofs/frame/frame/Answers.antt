use Rattle.std.proofs.Common.{[], refl, take}
use Rattle.ill_c.proofs.Framings.{never_framed}
use Rattle.ill_c.proofs.frame.frame.Goals as goal

pub returns-in-Unframed : goal.returns-in-Unframed
returns-in-Unframed c =
    let octets = c.args.octets.now in
    let fed = c.new-framer.ensures in
    let unframed = c.in-Unframed.ensures (take c.feed-count.result octets) (c.feed-count.ensures.fed [] fed) in
    (never_framed octets c.feed-count.result c.feed-count.ensures.count unframed (λ m lt. c.feed-count.ensures.within [] m fed lt), refl)
