use Rattle.std.proofs.Common.{ap, arith, length, length-append, subst, sym}
use Rattle.ill_schema.specs.Profiles.{profile_of}
use Rattle.ill_refusals.specs.code.Judge.{judge_end}
use Rattle.ill_grammar.specs.code.Judging.{IsEnd}
use Rattle.ill_read.proofs.ProfileOfPath.{stands_at}
use Rattle.ill_read.proofs.reader.Reader.end_element.Goals as goal

pub returns-clause-goes : goal.returns-clause-goes
returns-clause-goes g c p window room available_len fits s rest more b counted joined bounded judged =
    let at = c.args.self.now.at in
    let complete = c.lacks_part.ensures.complete c.requires.depth c.if-lacks_part.false at b.place (stands_at p g.D.Draft.holds c.args.self.now.path b.place b.stands) c.args.marks in
    c.close.ensures.goes p s rest (b, subst (IsEnd p b.place c.args.marks) (sym judged) (subst (λ q. IsEnd q b.place c.args.marks (judge_end (profile_of q) b.place at c.args.marks)) b.stands.3 complete))
    (c.requires.depth, omega (arith, fits, ap length joined, length-append window more))

pub returns-then-lacks_part-clause-goes : goal.returns-then-lacks_part-clause-goes
returns-then-lacks_part-clause-goes g c p window room available_len fits s rest more b counted joined bounded judged =
    c.refuse_missing.ensures.goes p window room available_len c.args.marks s rest more b counted joined bounded judged
