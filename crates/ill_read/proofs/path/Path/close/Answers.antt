use Rattle.std.proofs.Common.{◌≡◌, ◌⊎◌, Ok, Err, inl, inr, ◌∙◌, refl, sym, subst}
use Rattle.std.specs.Prelude.{⊤}
use Rattle.ill_refusals.specs.code.Step.{step_after}
use Rattle.ill_grammar.specs.Due.{read_as}
use Rattle.ill_grammar.specs.Two.{is_found_of}
use Rattle.ill_grammar.specs.declared.element.Element.TheVariants.{BitSegment, Segment}
use Rattle.ill_read.specs.code.Drafts.{ChecksText, HasClosed}
use Rattle.ill_read.specs.code.Judged.{IsStep}
use Rattle.ill_read.specs.declared.path.Path.{Path}
use Rattle.ill_read.proofs.ClosedElements.{segment_closed, element_closed, element_refused, handed_on}
use Rattle.ill_grammar.specs.Standing.{next_at}
use Rattle.ill_grammar.proofs.OfTwo.{after_of, closed_of}
use Rattle.ill_read.proofs.path.Path.close.Goals as goal

pub returns-in-Segment-clause-exact : goal.returns-in-Segment-clause-exact
returns-in-Segment-clause-exact g c p place marks at rest j stands end =
    let is : (read_as c.pop-frame.result.found ≡ Segment) ⊎ (read_as c.pop-frame.result.found ≡ BitSegment) = elim c.in-Segment.is [ inl x ↦ inl (sym c.element.ensures.element ∙ x) | inr x ↦ inr (sym c.element.ensures.element ∙ x) ] in
    segment_closed p g.D.Draft.holds c.args.self.now (record { frames = c.pop-frame.new.self; draft = c.args.self.now.draft }) c.pop-frame.result place marks at rest j stands end c.pop-frame.ensures.rest c.pop-frame.ensures.last is c.pop-frame.ensures.profile refl

pub returns-in_err-close-clause-exact : goal.returns-in_err-close-clause-exact
returns-in_err-close-clause-exact g c p place marks at rest j stands end =
    let new : Path _ = record { frames = c.pop-frame.new.self; draft = c.close.new.self } in
    let checks = subst (λ q. ChecksText q g.D.Draft.holds c.args.self.now.draft c.pop-frame.result (Err c.in_err-close.field-0.0)) (c.pop-frame.ensures.profile ∙ stands.3) c.in_err-close.ensures.text in
    handed_on (λ r. IsStep p g.D.Draft.holds new r (step_after j place at rest)) c.from_residual.result c.in_err-close.field-0.0 c.from_residual.ensures.1
    (element_refused p g.D.Draft.holds c.args.self.now c.pop-frame.new.self.open.items c.pop-frame.result new place marks at rest j c.in_err-close.field-0.0 stands end c.pop-frame.ensures.rest
    c.pop-frame.ensures.last (λ s. c.in_default.not-Segment (c.element.ensures.element ∙ s), λ s. c.in_default.not-BitSegment (c.element.ensures.element ∙ s)) checks)

pub returns-clause-exact : goal.returns-clause-exact
returns-clause-exact g c p place marks at rest j stands end =
    let profile = c.pop-frame.ensures.profile ∙ stands.3 in
    let checks = λ (x : ⊤). subst (λ q. ChecksText q g.D.Draft.holds c.args.self.now.draft c.pop-frame.result (Ok x)) profile c.in_ok-close.ensures.text in
    let closed = subst (λ q. HasClosed q g.D.Draft.holds c.args.self.now.draft c.pop-frame.result (next_at q c.pop-frame.new.self.open.items) c.close.new.self) profile
    (subst (λ n. HasClosed c.pop-frame.new.self.profile g.D.Draft.holds c.args.self.now.draft c.pop-frame.result n c.close.new.self) c.place.ensures.shape c.in_ok-close.ensures.closed) in
    element_closed p g.D.Draft.holds c.args.self.now c.pop-frame.new.self.open.items c.pop-frame.result c.close.new.self c.move_to.new.self place marks at rest j c.move_to.result stands end c.pop-frame.ensures.rest
    c.pop-frame.ensures.last (λ s. c.in_default.not-Segment (c.element.ensures.element ∙ s), λ s. c.in_default.not-BitSegment (c.element.ensures.element ∙ s)) checks closed
    c.after.result c.after.ensures.place c.move_to.ensures.passed (c.move_to.ensures.profile ∙ c.pop-frame.ensures.profile) c.move_to.ensures.draft

pub move_to-requires : goal.move_to-requires
move_to-requires g c =
    let found = c.pop-frame.result.found in
    let is_of = closed_of c.args.self.now.frames.profile c.pop-frame.result c.pop-frame.ensures.is_of in
    record { is_of = after_of c.pop-frame.new.self.profile found c.after.result (subst (λ q. is_found_of q found ≡ _) (sym c.pop-frame.ensures.profile) is_of) c.after.ensures.place }
