use Rattle.std.proofs.Common.{length, subst, arith, ap, length-append}
use Rattle.ber_core.specs.Id.{tag_of_id}
use Rattle.ill_schema.specs.Profiles.{profile_of}
use Rattle.ill_refusals.specs.code.Judge.{judge}
use Rattle.ill_grammar.specs.code.Judging.{Fits, IsBegin, IsExtent}
use Rattle.std.proofs.Common.{Ok}
use Rattle.ill_read.proofs.reader.Reader.open_or_read_foreign.Goals as goal

pub returns-in-Opens-clause-goes : goal.returns-in-Opens-clause-goes
returns-in-Opens-clause-goes g c p s rest more b joined begun judged =
    let w = c.args.window.now in let id = c.args.id in let at = c.args.self.now.at in
    let fits = subst (Fits id (length w)) c.in-Opens.is c.requires.extent in
    let extent = subst (λ x. IsExtent p c.args.found id at w (Ok x) (judge (profile_of p) b.place at rest)) c.in-Opens.is judged in
    c.open.ensures.goes p s rest (b, (subst (IsBegin c.args.self.now.path.frames b.place (tag_of_id id) c.args.found) fits.0 begun, extent))
    (fits.1, omega (arith, fits.2, ap length joined, length-append w more))

pub returns-in-Reads-clause-goes : goal.returns-in-Reads-clause-goes
returns-in-Reads-clause-goes g c p s rest more b joined begun judged =
    let w = c.args.window.now in let id = c.args.id in let at = c.args.self.now.at in
    let fits = subst (Fits id (length w)) c.in-Reads.is c.requires.extent in
    let extent = subst (λ x. IsExtent p c.args.found id at w (Ok x) (judge (profile_of p) b.place at rest)) c.in-Reads.is judged in
    c.read_foreign.ensures.goes p s rest more b joined (subst (IsBegin c.args.self.now.path.frames b.place (tag_of_id id) c.args.found) fits.0 begun, extent)
