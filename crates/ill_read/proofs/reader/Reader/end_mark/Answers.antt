use Rattle.ill_schema.specs.Profiles.{profile_of}
use Rattle.std.proofs.Common.{◌∙◌, arith}
use Rattle.ill_refusals.specs.Fault.{cut_fault}
use Rattle.ill_grammar.proofs.Judgements.{mark_ends, mark_part, mark_wrong, not_zero}
use Rattle.ill_read.proofs.reader.Reader.end_mark.Goals as goal

pub returns-in_default-clause-goes : goal.returns-in_default-clause-goes
returns-in_default-clause-goes g c p room s rest more b available_len joined bounded judged =
    let at = c.args.self.now.at in let w = c.args.window.now in
    c.refuse_cut.ensures.goes p w room s rest more b available_len joined bounded (judged ∙ mark_part p b.place at (cut_fault (profile_of p) b.place at rest) w c.in_default.ensures.lookup.3)

pub returns-then-second-eq0-clause-goes : goal.returns-then-second-eq0-clause-goes
returns-then-second-eq0-clause-goes g c p room s rest more b available_len joined bounded judged =
    let at = c.args.self.now.at in let w = c.args.window.now in
    let there = c.in-Some.ensures.lookup.3 in
    c.end_element.ensures.goes p w room c.args.available_len (omega (arith, there.0)) s rest more b available_len joined bounded
    (judged ∙ mark_ends p b.place at (cut_fault (profile_of p) b.place at rest) w c.in-Some.second.now there.0 there.1 c.if-second-eq0.true)

pub returns-clause-goes : goal.returns-clause-goes
returns-clause-goes g c p room s rest more b available_len joined bounded judged =
    let at = c.args.self.now.at in let w = c.args.window.now in
    let there = c.in-Some.ensures.lookup.3 in
    c.refuse.ensures.goes p s rest (b, judged ∙ mark_wrong p b.place at (cut_fault (profile_of p) b.place at rest) w c.in-Some.second.now there.0 there.1 (not_zero _ c.if-second-eq0.false))
