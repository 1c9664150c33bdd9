use Rattle.std.proofs.Common.{◌≡◌, [], ◌++◌, Err, length-append, ap, ◌∙◌, inl, sym, subst, arith}
use Rattle.std.proofs.KnownBytes.{Appends-trans, Consumes-trans}
use Rattle.std.proofs.lemmas.List.{nil_from_length}
use Rattle.ill_read.specs.declared.failure.ReadFailure.TheVariants.{ReadFault}
use Rattle.ill_read.proofs.SourceReads.{full_closed}
use Rattle.ill_read.proofs.read.fill.Goals as goal

pub returns-in-Ok-eq0-clause-filled : goal.returns-in-Ok-eq0-clause-filled
returns-in-Ok-eq0-clause-filled g c p opened =
    let i = c.loop-room.invariant.0 in
    let t = c.in-Ok-eq0.ensures.taken.1 in
    let was = i.3 p opened in
    let x = t.fed p i.0 was.0 was.1 in
    let none : t.piece ≡ [] = nil_from_length t.piece (omega (arith, t.size, c.in-Ok-eq0.field-0-test)) in
    record {
      filled = record { octets = i.0 ++ t.piece; taken = Consumes-trans _ _ _ i.0 t.piece i.1 t.taken; fed = x.fed; exact = x.exact; ended = x.ended none };
      recorded = Appends-trans _ _ _ i.0 t.piece i.4 t.recorded;
    }

pub returns-in-Ok-eq0-clause-taken : goal.returns-in-Ok-eq0-clause-taken
returns-in-Ok-eq0-clause-taken g c =
    let i = c.loop-room.invariant.0 in
    let t = c.in-Ok-eq0.ensures.taken.1 in
    let size = i.2 in
    (i.0 ++ t.piece, Consumes-trans _ _ _ i.0 t.piece i.1 t.taken, omega (arith, size, t.size, c.in-Ok-eq0.field-0-test, length-append i.0 t.piece))

pub returns-in-Err-clause-taken : goal.returns-in-Err-clause-taken
returns-in-Err-clause-taken g c =
    let i = c.loop-room.invariant.0 in
    let f = c.in-Err.ensures.front in
    let size = i.2 in let le = f.2 in
    (i.0 ++ f.0, Consumes-trans _ _ _ i.0 f.0 i.1 f.1, omega (arith, size, le, length-append i.0 f.0))

pub returns-in-Err-clause-unfinished : goal.returns-in-Err-clause-unfinished
returns-in-Err-clause-unfinished g c p opened is_err =
    let i = c.loop-room.invariant.0 in
    let is : c.in-Err.failure ≡ ReadFault = cc in
    let was = i.3 p opened in
    let more = c.more.ensures.unfinished (c.in-Err.is ∙ ap Err is) p i.0 was.0 was.1 in
    (i.0 ++ more.0, Consumes-trans _ _ _ i.0 more.0 i.1 more.1, more.2)

pub loop-room-preserved : goal.loop-room-preserved
loop-room-preserved g c =
    let i = c.loop-room.invariant.0 in
    let t = c.in-Ok.ensures.taken.1 in
    let size = i.2 in let fits = c.in-Ok.ensures.taken.0 in
    let recorded = Appends-trans _ _ _ i.0 t.piece i.4 t.recorded in (
      (
        i.0 ++ t.piece,
        Consumes-trans _ _ _ i.0 t.piece i.1 t.taken,
        omega (arith, size, fits, t.size, length-append i.0 t.piece),
        λ p opened. let was = i.3 p opened in let x = t.fed p i.0 was.0 was.1 in (x.fed, x.exact),
        recorded,
      ),
      λ h. c.in-Ok.ensures.stays (c.loop-room.invariant.1 h),
      c.more.ensures.profile ∙ c.loop-room.invariant.2,
    )

pub returns-clause-filled : goal.returns-clause-filled
returns-clause-filled g c p opened =
    let i = c.loop-room.invariant.0 in
    let size = i.2 in let none = c.loop-room-test.false in
    let was = i.3 p opened in
    record {
      filled = record { octets = i.0; taken = i.1; fed = was.0; exact = was.1; ended = inl (full_closed p g.D.Draft.holds g.D.Draft.has c.loop-room.reader i.0 was.0 (omega (arith, size, none))) };
      recorded = i.4;
    }

pub more-requires-clause-takes : goal.more-requires-clause-takes
more-requires-clause-takes g c = subst g.D.Draft.takes (sym c.loop-room.invariant.2) c.requires.takes
