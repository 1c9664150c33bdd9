use Rattle.std.proofs.Common.{◌≡◌, ◌++◌, ℕ, List, Result, Ok, Err, IfErr, arith}
use Rattle.ill_read.specs.Feeding.{FeedsTo, HasFailedWith}
use Rattle.ill_read.specs.declared.decoder.Decoder.{Decoder}
use Rattle.ill_read.specs.declared.decoder.Progress.{Progress}
use Rattle.ill_read.specs.declared.failure.Failure.{Failure}
use Rattle.test_messages.proofs.read.contracts.failures_are_kept.Goals as goal

kept : (d : Decoder) (fed : List ℕ) (r s : Result Progress Failure) (n : ℕ) → FeedsTo d fed r → ((f : Failure) → HasFailedWith d f → n ≡ 0)
    → ((f : Failure) → HasFailedWith d f → s ≡ Err f) → IfErr r (λ failure. (n ≡ 0) × (s ≡ Err failure))
kept d fed (Ok progress) s n h need again = tt
kept d fed (Err failure) s n h need again = (need failure h.0, again failure h.0)

pub returns : goal.returns
returns c =
    let f = c.requires.fed in
    kept c.feed.new.self (f.0 ++ c.args.piece.now) c.feed.result c.feed-2.result c.need.result (c.feed.ensures.open f.0 f.1)
    c.need.ensures.needs.failed (λ e h. (c.feed-2.ensures.failed e h).0)

pub feed-requires-2 : goal.feed-requires-2
feed-requires-2 c = (c.need.result, c.need.ensures.needs, omega arith)
