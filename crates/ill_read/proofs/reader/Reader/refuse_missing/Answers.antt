use Rattle.std.proofs.Common.{◌≡◌, ◌∙◌, subst}
use Rattle.ill_schema.specs.Profiles.{profile_of}
use Rattle.ill_refusals.specs.Fault.{fault_of}
use Rattle.ill_refusals.specs.code.Judge.{faulty, judge_end}
use Rattle.ill_read.proofs.ProfileOfPath.{stands_at}
use Rattle.ill_read.proofs.reader.Reader.refuse_missing.Goals as goal

pub returns-clause-goes : goal.returns-clause-goes
returns-clause-goes g c p window room available_len marks s rest more b counted joined bounded judged =
    c.refuse.ensures.goes p s rest (b, judged ∙ subst (λ q. judge_end (profile_of q) b.place c.args.self.now.at marks ≡ faulty (fault_of c.missing_fault-refusal.result)) b.stands.3 (c.missing_fault-refusal.ensures b.place (stands_at p g.D.Draft.holds c.args.self.now.path b.place b.stands) marks))
