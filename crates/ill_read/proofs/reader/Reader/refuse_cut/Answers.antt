use Rattle.std.proofs.Common.{◌≡◌}
use Rattle.ill_refusals.specs.Fault.{cut_fault, fault_of}
use Rattle.ill_schema.specs.Profiles.{profile_of}
use Rattle.ill_read.proofs.ProfileOfPath.{stands_at}
use Rattle.std.proofs.Common.{◌∙◌, sym, ap, subst}
use Rattle.ill_refusals.specs.code.Judge.{faulty}
use Rattle.ill_read.proofs.reader.Reader.refuse_cut.Goals as goal

pub returns-clause-goes : goal.returns-clause-goes
returns-clause-goes g c p window room s rest more b available_len joined bounded judged =
    c.refuse.ensures.goes p s rest (b, judged ∙ ap faulty (sym (subst (λ q. fault_of c.cut_fault-refusal.result ≡ cut_fault (profile_of q) b.place c.args.self.now.at rest) b.stands.3 (c.cut_fault-refusal.ensures rest available_len b.place (stands_at p g.D.Draft.holds c.args.self.now.path b.place b.stands)))))
