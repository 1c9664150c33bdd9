use Rattle.std.proofs.Common.{◌∙◌, sym, subst}
use Rattle.ill_read.specs.code.ReaderCode.{HasStopped}
use Rattle.ill_read.proofs.reader.Reader.read_elements.Goals as goal

pub returns-clause-stopped : goal.returns-clause-stopped
returns-clause-stopped g c p s h =
    let i = c.loop-size.invariant in
    subst (HasStopped p g.D.Draft.holds g.D.Draft.has c.step.new.self s) i.1 (c.in_default.ensures.goes p s (i.3 p s h))

pub returns-clause-profile : goal.returns-clause-profile
returns-clause-profile g c = c.step.ensures.profile ∙ c.loop-size.invariant.4

pub step-requires : goal.step-requires
step-requires g c = record { takes = subst g.D.Draft.takes (sym c.loop-size.invariant.4) c.requires.takes }
