use Rattle.ber_core.proofs.Sinks.{left_over, sends_step}
use Rattle.ber_core.proofs.sink.putting.put_all.Goals as goal

pub loop-at-preserved : goal.loop-at-preserved
loop-at-preserved g c =
    let n = c.in-Ok.count in
    let at = c.loop-at.at in
    record {
      bound = left_over c.args.octets.now at n c.loop-at.invariant.bound c.in-Ok.ensures.count;
      in_sink = sends_step _ _ _ c.args.octets.now at n c.in-Ok.ensures.count c.loop-at.invariant.in_sink c.in-Ok.ensures.octets;
      stays = λ h. c.in-Ok.ensures.stays (c.loop-at.invariant.stays h);
    }
