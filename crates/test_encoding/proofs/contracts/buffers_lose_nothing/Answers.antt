use Rattle.std.proofs.Common.{◌≡◌, length, ◌∙◌, arith}
use Rattle.ber_core.proofs.Shown.{drops_shown}
use Rattle.test_encoding.proofs.Runs.{shown_runs}
use Rattle.test_encoding.proofs.contracts.buffers_lose_nothing.Goals as goal

pub returns : goal.returns
returns c =
    let hand = c.buffered.result.now in
    let shown = c.in-Ok-from_slice.shown.items in
    let count : c.len.result ≡ length hand = c.len.ensures ∙ c.in-Ok-from_slice.ensures.len in
    shown_runs _ _ _ _ c.args.octets.now _ shown _ hand c.len.result
    c.in-Ok.ensures.left
    c.in-Ok-from_slice.ensures.items
    count
    c.in-Ok-take.ensures.octets.0
    (drops_shown _ _ hand c.len.result c.buffered.ensures.front (omega (arith, count)) c.in-Ok-consume.ensures.octets)
    c.in-Ok-take-2.ensures.octets.0
