use Rattle.ill_schema.specs.Profiles.{profile_of}
use Rattle.ill_read.proofs.ProfileOfPath.{stands_at}
use Rattle.std.proofs.Common.{◌≡◌, ◌-◌, ◌∙◌, ℕ, List, [], Bor, true, false, take, length, refl, sym, ap, subst, arith, take_all}
use Rattle.ill_refusals.specs.Place.{bound}
use Rattle.ill_read.specs.Paths.{HoldsAt}
use Rattle.ill_grammar.specs.Standing.{StandsAt, StandsBefore}
use Rattle.ill_read.specs.code.ReaderCode.{HasRead, InState}
use Rattle.ill_read.specs.declared.reader.State.TheVariants.{Open}
use Rattle.ill_grammar.proofs.Judgements.{ended_judged, within_judged}
use Rattle.ill_read.proofs.reader.Reader.step.Goals as goal
use Rattle.ill_read.proofs.reader.Reader.step.Goals.{in-Open, in_default, then-rest-room, else-rest-room}

pub returns-then-ends_here-clause-goes : goal.returns-then-ends_here-clause-goes
returns-then-ends_here-clause-goes g c p s h =
    let d = c.args.self.now in let rest = c.args.rest.now in
    let opened : d.state ≡ Open = elim c.match-matches.branch [
      | in-Open w ↦ w.in-Open.is
      | in_default w ↦ absurd (let q : true ≡ false = sym c.if-not-matches.false ∙ w.matches-is in cc)
    ] in
    let b = subst (λ st. InState p st s (HasRead p g.D.Draft.has d s) (StandsBefore p (HoldsAt p g.D.Draft.holds d.path) d.at s rest)) opened h in
    let stands : StandsAt d.path.frames b.place = stands_at p g.D.Draft.holds d.path b.place b.stands in
    let here : c.saturating_sub-room.result ≡ bound (profile_of p) b.place - d.at = c.saturating_sub-room.ensures ∙ ap (λ n. n - d.at) (c.bound.ensures.exact b.place stands) in
    c.end_element.ensures.goes p [] (bound (profile_of p) b.place - d.at) (length rest) (omega arith) s rest rest b refl refl refl
    (ended_judged p b.place d.at rest (sym (c.ends_here.ensures.exact b.place stands here) ∙ c.if-ends_here.true))

pub returns-clause-goes : goal.returns-clause-goes
returns-clause-goes g c p s h =
    let d = c.args.self.now in let rest = c.args.rest.now in
    let opened : d.state ≡ Open = elim c.match-matches.branch [
      | in-Open w ↦ w.in-Open.is
      | in_default w ↦ absurd (let q : true ≡ false = sym c.if-not-matches.false ∙ w.matches-is in cc)
    ] in
    let b = subst (λ st. InState p st s (HasRead p g.D.Draft.has d s) (StandsBefore p (HoldsAt p g.D.Draft.holds d.path) d.at s rest)) opened h in
    let stands : StandsAt d.path.frames b.place = stands_at p g.D.Draft.holds d.path b.place b.stands in
    let room = c.saturating_sub-room.result in
    let front : c.if-rest-room.window.now ≡ take room rest = elim c.if-rest-room.branch [
      | then-rest-room w ↦ ap (λ (x : Bor (List ℕ)). x.now) w.window-is ∙ sym (take_all room rest (omega (arith, w.if-rest-room.true)))
      | else-rest-room w ↦ ap (λ (x : Bor (List ℕ)). x.now) w.window-is
    ] in
    let here : room ≡ bound (profile_of p) b.place - d.at = c.saturating_sub-room.ensures ∙ ap (λ n. n - d.at) (c.bound.ensures.exact b.place stands) in
    c.step_within.ensures.goes p s rest b refl front here
    (within_judged p b.place d.at rest c.if-rest-room.window.now (sym (c.ends_here.ensures.exact b.place stands here) ∙ c.if-ends_here.false) (front ∙ ap (λ m. take m rest) here))
