use Rattle.ill_schema.specs.Profiles.{profile_of}
use Rattle.std.proofs.Common.{sym, subst, Ok, false}
use Rattle.ill_refusals.specs.code.Step.{step_after}
use Rattle.ill_read.specs.code.Judged.{IsStep}
use Rattle.ill_read.specs.code.Progress.{Opens}
use Rattle.ill_read.specs.Answers.{IsRefusedIn}
use Rattle.ill_read.proofs.DecoderSteps.{after_step}
use Rattle.ill_read.proofs.reader.Reader.open.Goals as goal

pub returns-in-Ok-clause-goes : goal.returns-in-Ok-clause-goes
returns-in-Ok-clause-goes g c p s rest can progress =
    let d = c.args.self.now in let b = can.0 in
    let made = subst (λ x. IsStep p g.D.Draft.holds c.open.new.self (Ok false) (step_after x b.place d.at rest)) (sym can.1.1) (c.in-Ok.ensures.exact p b.place b.stands can.1.0) in
    c.move_on.ensures.goes p s rest (subst g.D.Draft.takes b.stands.3 c.requires.takes) (after_step p g.D.Draft.holds d.path c.open.new.self d.at s rest (Opens c.args.opening) false b progress can.1 made)

pub returns-in-Err-clause-goes : goal.returns-in-Err-clause-goes
returns-in-Err-clause-goes g c p s rest can progress = c.fail.ensures.goes p s rest (subst (IsRefusedIn (profile_of p) s) (sym c.from.ensures) tt)
