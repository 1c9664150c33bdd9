use Rattle.ill_schema.specs.Profiles.{profile_of}
use Rattle.std.proofs.Common.{◌∙◌, ap}
use Rattle.ill_refusals.specs.Fault.{cut_fault}
use Rattle.ill_grammar.proofs.Judgements.{element_body}
use Rattle.ill_read.proofs.reader.Reader.element_with_any_header.Goals as goal

pub returns-in-PartIdentifier-clause-goes : goal.returns-in-PartIdentifier-clause-goes
returns-in-PartIdentifier-clause-goes g c p s rest more b available_len joined bounded judged =
    let at = c.args.self.now.at in let w = c.args.window.now in
    c.refuse_cut.ensures.goes p w c.args.room s rest more b available_len joined bounded (judged ∙ ap (element_body p b.place at (cut_fault (profile_of p) b.place at rest) w) c.in-PartIdentifier.ensures)

pub returns-in-NoIdentifier-clause-goes : goal.returns-in-NoIdentifier-clause-goes
returns-in-NoIdentifier-clause-goes g c p s rest more b available_len joined bounded judged =
    let at = c.args.self.now.at in let w = c.args.window.now in
    c.refuse.ensures.goes p s rest (b, judged ∙ ap (element_body p b.place at (cut_fault (profile_of p) b.place at rest) w) c.in-NoIdentifier.ensures)
