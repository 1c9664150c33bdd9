use Rattle.std.proofs.Common.{◌+◌, length-append, take, drop, refl, sym, subst, arith}
use Rattle.std.proofs.lemmas.List.{length-take-le, take-append-le}
use Rattle.ill_schema.specs.Profiles.{profile_of}
use Rattle.ill_read.specs.code.Usual.{IsNormalFormOf}
use Rattle.ill_read.proofs.UsualLevels.{message_begins, message_ends}
use Rattle.ill_read.proofs.usual.read_usual.Goals as goal

pub read_whole-requires-clause-reading : goal.read_whole-requires-clause-reading
read_whole-requires-clause-reading c = (c.args.profile, message_begins c.args.profile _ _ _ c.top_of.ensures refl refl refl refl (omega arith) (omega (arith, c.requires.room, length-take-le (c.args.input.bound + 128) c.args.out.now c.requires.room)))

pub returns-clause-within : goal.returns-clause-within
returns-clause-within c =
    let n = c.args.input.bound + 128 in
    let r = c.in_ok-at.ensures.reading c.args.profile (message_begins c.args.profile _ _ _ c.top_of.ensures refl refl refl refl (omega arith) (omega (arith, c.requires.room, length-take-le (c.args.input.bound + 128) c.args.out.now c.requires.room))) in
    (omega (arith, r.taken, c.args.input.within), omega (arith, r.written.2, length-append c.read_whole.new.out (drop n c.args.out.now)))

pub returns-clause-normal : goal.returns-clause-normal
returns-clause-normal c =
    let n = c.args.input.bound + 128 in
    let r = c.in_ok-at.ensures.reading c.args.profile (message_begins c.args.profile _ _ _ c.top_of.ensures refl refl refl refl (omega arith) (omega (arith, c.requires.room, length-take-le (c.args.input.bound + 128) c.args.out.now c.requires.room))) in
    subst (λ w. IsNormalFormOf (profile_of c.args.profile) w (take c.in_ok-at.at.reach.taken c.args.input.octets.now)) (sym (take-append-le c.in_ok-at.at.reach.written c.read_whole.new.out (drop n c.args.out.now) (omega (arith, r.written.2))))
    (message_ends c.args.profile _ c.in_ok-at.at c.read_whole.new.out (c.is_complete.ensures.complete c.if-not-is_complete.false) (c.is_complete.ensures.in_sequence c.if-not-is_complete.false) (omega (arith, c.if-at.false)) r)
