use Rattle.std.proofs.Common.{◌≡◌, ◌≢◌, ℕ, List, ◌++◌, length, Result, Ok, Err, refl, sym, ap}
use Rattle.ill_schema.specs.Message.{apdu_of}
use Rattle.ill_refusals.specs.Fault.{fault_of}
use Rattle.ill_refusals.proofs.Refusals.{same_refusal}
use Rattle.ill_read.proofs.FedPieces.{accepts_whole}
use Rattle.ill_read.specs.Feeding.{FeedsTo}
use Rattle.ill_read.specs.declared.decoder.Decoder.{Decoder}
use Rattle.ill_read.specs.declared.decoder.Progress.{Progress}
use Rattle.ill_read.specs.declared.failure.Failure.{Failure}
use Rattle.test_messages.proofs.read.contracts.decoders_return_what_they_were_fed.Goals as goal

fed_once : (d e : Decoder) (fed : List ℕ) (q r : Result Progress Failure) → FeedsTo d fed q → FeedsTo e fed r
    → q ≢ Err Failure.OutOfMemory → r ≢ Err Failure.OutOfMemory → q ≡ r
fed_once d e fed (Ok Progress.More) (Ok Progress.More) p q a b = refl
fed_once d e fed (Ok Progress.Done) (Ok Progress.Done) p q a b = refl
fed_once d e fed (Ok Progress.More) (Ok Progress.Done) p q a b = absurd (p.1.2 (apdu_of q.0) (length fed) (accepts_whole (apdu_of q.0) fed q.2.spells))
fed_once d e fed (Ok Progress.Done) (Ok Progress.More) p q a b = absurd (q.1.2 (apdu_of p.0) (length fed) (accepts_whole (apdu_of p.0) fed p.2.spells))
fed_once d e fed (Ok Progress.More) (Err (Failure.Refused y)) p q a b = absurd (q.1.1 (ap (λ f. f.cause) (p.1.1 (fault_of y) q.1.0.0)))
fed_once d e fed (Err (Failure.Refused x)) (Ok Progress.More) p q a b = absurd (p.1.1 (ap (λ f. f.cause) (q.1.1 (fault_of x) p.1.0.0)))
fed_once d e fed (Ok Progress.Done) (Err (Failure.Refused y)) p q a b = absurd (q.1.0.2 (apdu_of p.0) (length fed) (accepts_whole (apdu_of p.0) fed p.2.spells))
fed_once d e fed (Err (Failure.Refused x)) (Ok Progress.Done) p q a b = absurd (p.1.0.2 (apdu_of q.0) (length fed) (accepts_whole (apdu_of q.0) fed q.2.spells))
fed_once d e fed (Err (Failure.Refused x)) (Err (Failure.Refused y)) p q a b =
    ap (λ z. Err (Failure.Refused z)) (sym (same_refusal y x (p.1.0.1 (fault_of y) q.1.0.0)))
fed_once d e fed (Err Failure.OutOfMemory) r p q a b = absurd (a refl)
fed_once d e fed q (Err Failure.OutOfMemory) p r a b = absurd (b refl)

pub returns : goal.returns
returns c a b =
    let f = c.requires.fed in
    fed_once c.feed.new.self c.feed-2.new.self (f.0 ++ c.args.piece.now) c.feed.result c.feed-2.result
    (c.feed.ensures.open f.0 f.1) (c.feed-2.ensures.open f.0 f.2) a b
