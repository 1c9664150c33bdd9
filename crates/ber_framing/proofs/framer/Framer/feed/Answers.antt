use Rattle.std.proofs.Common.{◌-◌, ◌++◌, take, drop, length, length-drop, arith, inl, inr, subst, append-nil, []}
use Rattle.std.proofs.lemmas.Bool.{cases_lt}
use Rattle.std.proofs.lemmas.List.{length-take}
use Rattle.ber_framing.specs.Framed.{IsPartOfFrame}
use Rattle.ber_framing.proofs.FrameEnds.{next_octets, within_next}
use Rattle.ber_framing.proofs.framer.Framer.feed.Goals as goal

pub loop-count-preserved : goal.loop-count-preserved
loop-count-preserved c =
    let xs = c.args.octets.now in
    let count = c.loop-count.count in record {
      bound = omega (arith, c.step-count.ensures.count, length-take (length xs - count) (drop count xs), length-drop count xs);
      within = λ b k h lt. elim (cases_lt k count) [
        | inl less ↦ c.loop-count.invariant.within b k h less
        | inr ge ↦
            let fed = c.loop-count.invariant.fed b h in
            within_next b xs count k ge
            (c.step-count.ensures.within (b ++ take count xs) (k - count) fed (subst IsPartOfFrame (append-nil (b ++ take count xs)) (c.missing_len.ensures.any (b ++ take count xs) [] fed c.if-missing_len-gt0.true)) (omega arith))
      ];
      fed = λ b h. next_octets c.step-count.new.self b xs count c.step-count.result
          (c.step-count.ensures.fed (b ++ take count xs) (c.loop-count.invariant.fed b h));
    }
