use Rattle.std.proofs.Common.{◌<◌, ◌≤◌, ℕ, None, Some, sym, ap, subst, ◌∙◌}
use Rattle.ber_core.specs.Id.{tag_of_id}
use Rattle.ber_leaf.specs.Profile.{profile_two}
use Rattle.ill_grammar.specs.Due.{next_is}
use Rattle.ill_grammar.specs.code.Judging.{IsFormed}
use Rattle.ill_refusals.specs.Fault.{fault}
use Rattle.ill_refusals.specs.Next.{due}
use Rattle.ill_refusals.specs.code.Judge.{faulty}
use Rattle.ill_grammar.proofs.DueCells.{is-coming, shape-next}
use Rattle.ill_grammar.proofs.OpenFrames.{found_of, frames_open}
use Rattle.ill_grammar.proofs.Judgements.{deep_judged, unexpected_judged, formed_judged, misformed_judged}
use Rattle.ill_grammar.proofs.frames.Frames.judge_tag.Goals as goal

pub returns-then-depth-ge-MAX_DEPTH-clause-exact : goal.returns-then-depth-ge-MAX_DEPTH-clause-exact
returns-then-depth-ge-MAX_DEPTH-clause-exact c place h i cut w =
    deep_judged c.args.self.now.profile place _ _ c.args.at i cut w (subst (λ (x : ℕ). 32 ≤ x) (c.depth.ensures ∙ frames_open c.args.self.now.profile place _ _ h.1) c.if-depth-ge-MAX_DEPTH.true)

pub returns-in_default-clause-exact : goal.returns-in_default-clause-exact
returns-in_default-clause-exact c place h i cut w =
    unexpected_judged c.args.self.now place _ _ c.args.at i cut w h (subst (λ (x : ℕ). x < 32) (c.depth.ensures ∙ frames_open c.args.self.now.profile place _ _ h.1) c.if-depth-ge-MAX_DEPTH.false)
    (ap (λ n. due profile_two (tag_of_id c.args.id) (next_is n)) (sym c.place.ensures.shape) ∙ ap (due profile_two (tag_of_id c.args.id)) (sym (shape-next c.place.result)) ∙ c.in_default.ensures.due)
    ∙ ap (λ x. faulty (fault x c.args.at)) (sym c.unexpected.ensures)

pub returns-in-Some-form_fault-clause-exact : goal.returns-in-Some-form_fault-clause-exact
returns-in-Some-form_fault-clause-exact c place h i cut w =
    let f = c.in-Some.found in
    misformed_judged c.args.self.now place c.place.result c.args.at c.args.id f _ h (subst (λ (x : ℕ). x < 32) (c.depth.ensures ∙ frames_open c.args.self.now.profile place _ _ h.1) c.if-depth-ge-MAX_DEPTH.false) c.place.ensures.shape
    (is-coming (tag_of_id c.args.id) c.place.result f c.in-Some.ensures.due) (subst (λ b. IsFormed f b (Some c.in-Some-form_fault.cause)) c.constructed.ensures (subst (IsFormed f c.constructed.result) c.in-Some-form_fault.is c.form_fault.ensures)) i cut w

pub returns-in-None-clause-exact : goal.returns-in-None-clause-exact
returns-in-None-clause-exact c place h =
    let f = c.in-Some.found in
    formed_judged c.args.self.now place c.place.result c.args.id f h (subst (λ (x : ℕ). x < 32) (c.depth.ensures ∙ frames_open c.args.self.now.profile place _ _ h.1) c.if-depth-ge-MAX_DEPTH.false) c.place.ensures.shape
    (is-coming (tag_of_id c.args.id) c.place.result f c.in-Some.ensures.due) (subst (λ b. IsFormed f b None) c.constructed.ensures (subst (IsFormed f c.constructed.result) c.in-None.is c.form_fault.ensures))

pub returns-in-None-clause-is_of : goal.returns-in-None-clause-is_of
returns-in-None-clause-is_of c =
    found_of c.args.self.now.profile c.place.result c.in-Some.found c.place.ensures.is_of (λ two. c.in-Some.ensures.two two)
