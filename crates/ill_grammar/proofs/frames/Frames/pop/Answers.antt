use Rattle.std.proofs.Common.{IfSome, IsTrue, ◌∷◌, [], subst}
use Rattle.ill_grammar.specs.Two.{are_of}
use Rattle.ill_grammar.proofs.OpenFrames.{last_of}
use Rattle.ill_grammar.proofs.frames.Frames.pop.Goals as goal

pub returns-clause-is_of : goal.returns-clause-is_of
returns-clause-is_of c =
    let frames = c.args.self.now in
    subst (λ o. IfSome o (λ frame. IsTrue (are_of frames.profile (frame ∷ [])))) c.unwrap.ensures (last_of frames.profile frames.open.items c.pop.result frames.are_of c.pop.ensures.value)
