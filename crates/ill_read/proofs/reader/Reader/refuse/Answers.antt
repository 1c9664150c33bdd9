use Rattle.std.proofs.Common.{◌≡◌, ◌≢◌, true, false, sym, subst, ◌∙◌}
use Rattle.ill_schema.specs.declared.refusal.Cause.{Cause}
use Rattle.ill_read.specs.Paths.{HoldsAt}
use Rattle.ill_grammar.specs.Standing.{StandsLast}
use Rattle.ill_read.specs.code.ReaderCode.{HasRead, InState}
use Rattle.ill_read.proofs.MessageEnds.{stops_open, stops_refused}
use Rattle.ill_read.proofs.reader.Reader.refuse.Goals as goal
use Rattle.ill_read.proofs.reader.Reader.refuse.Goals.{in-Truncated, in_default}

pub returns-then-not-matches-clause-goes : goal.returns-then-not-matches-clause-goes
returns-then-not-matches-clause-goes g c p s rest can =
    let d = c.args.self.now in
    let other : c.args.refusal.cause ≢ Cause.Truncated = elim c.match-matches.branch [
      | in-Truncated w ↦ absurd (let q : false ≡ true = sym c.if-not-matches.true ∙ w.matches-is in cc)
      | in_default w ↦ λ e. w.in_default.not-Truncated e
    ] in
    stops_refused p (HoldsAt p g.D.Draft.holds d.path) d.at s rest c.args.refusal can.0 can.1 other

pub returns-else-not-matches-clause-goes : goal.returns-else-not-matches-clause-goes
returns-else-not-matches-clause-goes g c p s rest can =
    let d = c.args.self.now in
    let ends : c.args.refusal.cause ≡ Cause.Truncated = elim c.match-matches.branch [
      | in-Truncated w ↦ w.in-Truncated.is
      | in_default w ↦ absurd (let q : true ≡ false = sym c.if-not-matches.false ∙ w.matches-is in cc)
    ] in
    subst (λ st. InState p st s (HasRead p g.D.Draft.has d s) (StandsLast p (HoldsAt p g.D.Draft.holds d.path) d.at s rest)) (sym c.requires.open) (stops_open p (HoldsAt p g.D.Draft.holds d.path) d.at s rest c.args.refusal can.0 can.1 ends)
