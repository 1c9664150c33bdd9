use Rattle.std.proofs.Common.{◌≡◌, ◌<◌, ℕ, Some, sym, ap, subst, ◌∙◌}
use Rattle.ber_leaf.specs.Profile.{profile_two}
use Rattle.ill_schema.specs.Profiles.{profile_of}
use Rattle.ill_grammar.specs.Due.{next_is}
use Rattle.ill_refusals.specs.Next.{missing}
use Rattle.ill_refusals.specs.Place.{next_in}
use Rattle.ill_grammar.proofs.DueCells.{shape-next}
use Rattle.ill_grammar.proofs.OpenFrames.{frames_open, next_open}
use Rattle.ill_grammar.proofs.Judgements.{end_missing}
use Rattle.ill_grammar.proofs.frames.Frames.missing_fault.Goals as goal

pub returns : goal.returns
returns c place h marks =
    let p = c.args.self.now.profile in
    let n = next_open p place _ _ h.1 in
    let e : missing profile_two (next_in (profile_of p) place) ≡ Some c.in-Some.part =
    ap (missing profile_two) (sym n ∙ ap next_is (sym c.place.ensures.shape) ∙ sym (shape-next c.place.result)) ∙ sym c.missing.ensures ∙ c.in-Some.is in
    end_missing p place c.args.at marks c.in-Some.part (subst (λ (x : ℕ). 0 < x) (frames_open p place _ _ h.1) c.requires.depth) e
