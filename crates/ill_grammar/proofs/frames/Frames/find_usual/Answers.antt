use Rattle.std.proofs.Common.{◌<◌, IsTrue, None, subst, length, arith}
use Rattle.ber_core.specs.Id.{tag_of_id}
use Rattle.ill_grammar.specs.code.Judging.{IsFormed, is_usual}
use Rattle.ill_grammar.specs.Due.{read_as}
use Rattle.ill_grammar.proofs.DueCells.{is-coming}
use Rattle.ill_grammar.proofs.OpenFrames.{found_of, frames_open}
use Rattle.ill_grammar.proofs.Judgements.{formed_judged}
use Rattle.ill_grammar.proofs.frames.Frames.find_usual.Goals as goal

pub returns-then-is_usual-clause-begun : goal.returns-then-is_usual-clause-begun
returns-then-is_usual-clause-begun c place h =
    let f = c.in_ok-found.found in
    let shallow : length place < 32 = omega (arith, c.depth.ensures, frames_open c.args.self.now.profile place _ _ h.1, c.args.self.now.few, c.if-depth-eq-MAX_DEPTH.false) in
    formed_judged c.args.self.now place c.place.result c.args.id f h shallow c.place.ensures.shape
    (is-coming (tag_of_id c.args.id) c.place.result f c.in_ok-found.ensures.due) (subst (λ b. IsFormed f b None) c.constructed.ensures (c.is_usual.ensures.formed c.if-is_usual.true))

pub returns-then-is_usual-clause-is_of : goal.returns-then-is_usual-clause-is_of
returns-then-is_usual-clause-is_of c =
    found_of c.args.self.now.profile c.place.result c.in_ok-found.found c.place.ensures.is_of (λ two. c.in_ok-found.ensures.two two)

pub returns-then-is_usual-clause-usual : goal.returns-then-is_usual-clause-usual
returns-then-is_usual-clause-usual c = subst (λ b. IsTrue (is_usual (read_as c.in_ok-found.found) b)) c.constructed.ensures (c.is_usual.ensures.usual c.if-is_usual.true)
