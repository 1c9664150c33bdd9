use Rattle.std.proofs.Common.{◌≡◌, ◌≤◌, [], ◌++◌, append-nil, length, take, refl, sym, ap, subst, arith}
use Rattle.std.proofs.KnownBytes.{Consumes-kept, Consumes-nil}
use Rattle.std.proofs.lemmas.List.{length-take, length-take-le, take-take}
use Rattle.ber_core.proofs.Shown.{drops_shown}
use Rattle.ill_schema.specs.Profiles.{profile_of}
use Rattle.ill_read.specs.Answers.{IsUnfinishedIn}
use Rattle.ill_read.specs.code.Filling.{HasLooked, NoneEndsWithin}
use Rattle.ill_read.proofs.LookedOctets.{looked_nothing}
use Rattle.ill_read.proofs.SourceReads.{part_unfinished}
use Rattle.ill_read.proofs.read.more.Goals as goal

pub returns-in-Ok-clause-taken : goal.returns-in-Ok-clause-taken
returns-in-Ok-clause-taken g c =
    let hand = c.buffered-hand.result.now in
    let most = c.min-most.result in
    let n = c.read_buffered-seen.result in
    let within : n ≤ length (take most hand) = c.read_buffered-seen.ensures.count in
    let bound : n ≤ most = omega (arith, within, length-take most hand) in
    let le : n ≤ length hand = omega (arith, within, length-take most hand) in
    let size : length (take n hand) ≡ n = length-take-le n hand le in (
      omega (arith, bound, c.min-most.ensures),
      record {
        piece = take n hand;
        size = size;
        taken = drops_shown (g.R.Source.left c.args.source.now) (g.R.Source.left c.consume.new.self) hand n c.buffered-hand.ensures.front le c.in-Ok.ensures.octets;
        recorded = c.in_default.ensures;
        fed = λ p b h exact.
            let looked = subst (λ z. HasLooked p g.D.Draft.holds g.D.Draft.has c.read_buffered-seen.new.self (b ++ z)) (take-take n most hand bound) (c.read_buffered-seen.ensures.looked p b h exact) in
            record { fed = looked.fed; exact = looked.exact; ended = λ e. absurd (omega (arith, ap length e, size, c.if-seen-gt0.true)) };
      },
    )

pub returns-in-Err-consume-clause-front : goal.returns-in-Err-consume-clause-front
returns-in-Err-consume-clause-front g c =
    let hand = c.buffered-hand.result.now in
    let fewer = c.in-Err-consume.ensures.part in
    let k = fewer.0 in
    let n = c.read_buffered-seen.result in
    let within : n ≤ length (take c.min-most.result hand) = c.read_buffered-seen.ensures.count in
    let size = length-take c.min-most.result hand in
    let le : k ≤ length hand = omega (arith, within, size, fewer.1) in (
      take k hand,
      drops_shown (g.R.Source.left c.args.source.now) (g.R.Source.left c.consume.new.self) hand k c.buffered-hand.ensures.front le fewer.2,
      omega (arith, length-take-le k hand le, fewer.1, within, size, c.min-most.ensures),
    )

pub returns-in-Err-consume-clause-unfinished : goal.returns-in-Err-consume-clause-unfinished
returns-in-Err-consume-clause-unfinished g c is p b h exact =
    let hand = c.buffered-hand.result.now in
    let most = c.min-most.result in
    let fewer = c.in-Err-consume.ensures.part in
    let k = fewer.0 in
    let n = c.read_buffered-seen.result in
    let within : n ≤ length (take most hand) = c.read_buffered-seen.ensures.count in
    let bound : n ≤ most = omega (arith, within, length-take most hand) in
    let le_n : n ≤ length hand = omega (arith, within, length-take most hand) in
    let le : k ≤ length hand = omega (arith, le_n, fewer.1) in
    let none = subst (λ z. NoneEndsWithin p (b ++ z)) (take-take n most hand bound) (c.read_buffered-seen.ensures.looked p b h exact).exact in
    (take k hand, drops_shown (g.R.Source.left c.args.source.now) (g.R.Source.left c.consume.new.self) hand k c.buffered-hand.ensures.front le fewer.2, part_unfinished p b hand n k le_n fewer.1 none)

pub returns-in-Ok-append-clause-taken : goal.returns-in-Ok-append-clause-taken
returns-in-Ok-append-clause-taken g c =
    let n = c.in-Ok-take_octets.count in (
      c.in-Ok-take_octets.ensures.count.0,
      record {
        piece = take n c.take_octets.new.buffer;
        size = length-take-le n c.take_octets.new.buffer c.in-Ok-take_octets.ensures.count.1;
        taken = c.in-Ok-take_octets.ensures.taken;
        recorded = c.in-Ok-append.ensures;
        fed = λ p b h exact.
            let x = looked_nothing p g.D.Draft.holds g.D.Draft.has c.read_buffered-seen.new.self b _ c.read_buffered-seen.result (omega (arith, c.if-seen-gt0.false)) (c.read_buffered-seen.ensures.looked p b h exact) in
            c.in-Ok-take_octets.ensures.fed p b x.fed x.exact;
      },
    )

pub returns-in-Err-take_octets-clause-unfinished : goal.returns-in-Err-take_octets-clause-unfinished
returns-in-Err-take_octets-clause-unfinished g c is p b h exact =
    let x = looked_nothing p g.D.Draft.holds g.D.Draft.has c.read_buffered-seen.new.self b _ c.read_buffered-seen.result (omega (arith, c.if-seen-gt0.false)) (c.read_buffered-seen.ensures.looked p b h exact) in
    let none = c.in-Err-take_octets.ensures.unfinished refl p b x.fed in
    ([], Consumes-kept _ _ (g.R.Source.left c.take_octets.new.source) [] (Consumes-nil (g.R.Source.left c.args.source.now)) (c.in-Err-take_octets.ensures.untaken refl), subst (IsUnfinishedIn (profile_of p)) (sym (append-nil b)) none)
