use Rattle.std.proofs.Common.{◌-◌, length, slice_get, ap, ◌∙◌}
use Rattle.ill_grammar.proofs.OpenFrames.{last_of}
use Rattle.ill_grammar.proofs.frames.Frames.innermost.Goals as goal

pub returns-clause-is_of : goal.returns-clause-is_of
returns-clause-is_of c =
    let frames = c.args.self.now in
    last_of frames.profile frames.open.items c.copied.result frames.are_of (c.copied.ensures ∙ c.last.ensures.value ∙ ap (λ fs. slice_get fs (length fs - 1)) c.as_slice.ensures.value)
