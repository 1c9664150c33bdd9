use Rattle.ill_schema.specs.Profiles.{profile_of}
use Rattle.std.proofs.Common.{subst}
use Rattle.ill_refusals.specs.code.Judge.{judge}
use Rattle.ill_read.specs.code.Progress.{Closes}
use Rattle.ill_read.proofs.DecoderSteps.{after_step, is_refused}
use Rattle.ill_read.proofs.reader.Reader.close.Goals as goal

pub returns-in-Ok-clause-goes : goal.returns-in-Ok-clause-goes
returns-in-Ok-clause-goes g c p s rest can progress =
    let d = c.args.self.now in let b = can.0 in
    c.move_on.ensures.goes p s rest (subst g.D.Draft.takes b.stands.3 c.requires.takes) (after_step p g.D.Draft.holds d.path c.close.new.self d.at s rest (Closes c.args.marks) c.in-Ok.whole b progress can.1
    (c.in-Ok.ensures.exact p b.place c.args.marks d.at rest (judge (profile_of p) b.place d.at rest) b.stands can.1))

pub returns-in-Err-clause-goes : goal.returns-in-Err-clause-goes
returns-in-Err-clause-goes g c p s rest can progress =
    let d = c.args.self.now in let b = can.0 in
    let made = c.in-Err.ensures.exact p b.place c.args.marks d.at rest (judge (profile_of p) b.place d.at rest) b.stands can.1 in
    c.fail.ensures.goes p s rest (is_refused p g.D.Draft.holds d.path c.close.new.self d.at s rest (Closes c.args.marks) c.in-Err.failure b progress can.1 made)
