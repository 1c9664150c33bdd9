use Rattle.ill_schema.specs.Profiles.{profile_of}
use Rattle.std.proofs.Common.{◌≡◌, ◌+◌, ◌-◌, ◌∙◌, ℕ, List, length, take, drop, sym, ap, subst, arith, length-append}
use Rattle.ber_core.specs.Id.{tag_of_id}
use Rattle.ill_refusals.specs.Fault.{element_fault}
use Rattle.ill_refusals.specs.code.Judge.{judge, or_faulty, reads}
use Rattle.ill_grammar.specs.Due.{read_as}
use Rattle.ill_grammar.specs.Elements.{element_is}
use Rattle.ill_refusals.specs.code.Step.{step_after}
use Rattle.ill_read.specs.code.Judged.{IsJudgement, IsStep}
use Rattle.ill_grammar.specs.code.Judging.{content_in}
use Rattle.ill_read.specs.code.Progress.{Reads}
use Rattle.ill_read.specs.code.Stepping.{ReadsExactly}
use Rattle.ill_read.proofs.DecoderSteps.{after_step, is_refused}
use Rattle.ill_grammar.proofs.Judgements.{content_further}
use Rattle.ill_read.proofs.PrimitiveElements.{reads_judged}
use Rattle.ill_read.proofs.reader.Reader.read.Goals as goal

taken : (header size : ℕ) (octets : List ℕ) → take (header + size - header) (drop header octets) ≡ content_in header size octets
taken header size octets = let n : header + size - header ≡ size = omega arith in ap (λ k. take k (drop header octets)) n

pub returns-in-Ok-clause-goes : goal.returns-in-Ok-clause-goes
returns-in-Ok-clause-goes g c p s rest more b joined judged =
    let d = c.args.self.now in let r = c.args.reading in let octets = c.args.octets.now in
    let further : content_in r.header r.size octets ≡ content_in r.header r.size rest =
    content_further r.header r.size octets more c.requires.header.1 ∙ ap (content_in r.header r.size) (sym joined) in
    let at_rest : IsJudgement p d.path.frames b.place d.at rest (Reads r) (judge (profile_of p) b.place d.at rest) =
    (judged.0, judged.1 ∙ ap (λ x. or_faulty (element_fault (profile_of p) (element_is (read_as r.found)) x) d.at (reads (tag_of_id r.id) r.header x)) further) in
    let made = reads_judged p g.D.Draft.holds d.path c.take.new.self b.place r d.at rest (judge (profile_of p) b.place d.at rest) c.take.result b.stands at_rest
    (subst (λ x. ReadsExactly g.D.Draft.holds d.path r d.at x c.take.new.self c.take.result) (taken r.header r.size octets ∙ further) c.take.ensures.exact) in
    c.move_on.ensures.goes p s rest (subst g.D.Draft.takes b.stands.3 c.requires.takes) (after_step p g.D.Draft.holds d.path c.take.new.self d.at s rest (Reads r) c.in-Ok.whole b
    (c.requires.header.0, omega (arith, c.requires.header.1, ap length joined, length-append octets more)) at_rest
    (subst (λ x. IsStep p g.D.Draft.holds c.take.new.self x (step_after (judge (profile_of p) b.place d.at rest) b.place d.at rest)) c.in-Ok.is made))

pub returns-in-Err-clause-goes : goal.returns-in-Err-clause-goes
returns-in-Err-clause-goes g c p s rest more b joined judged =
    let d = c.args.self.now in let r = c.args.reading in let octets = c.args.octets.now in
    let further : content_in r.header r.size octets ≡ content_in r.header r.size rest =
    content_further r.header r.size octets more c.requires.header.1 ∙ ap (content_in r.header r.size) (sym joined) in
    let at_rest : IsJudgement p d.path.frames b.place d.at rest (Reads r) (judge (profile_of p) b.place d.at rest) =
    (judged.0, judged.1 ∙ ap (λ x. or_faulty (element_fault (profile_of p) (element_is (read_as r.found)) x) d.at (reads (tag_of_id r.id) r.header x)) further) in
    let made = reads_judged p g.D.Draft.holds d.path c.take.new.self b.place r d.at rest (judge (profile_of p) b.place d.at rest) c.take.result b.stands at_rest
    (subst (λ x. ReadsExactly g.D.Draft.holds d.path r d.at x c.take.new.self c.take.result) (taken r.header r.size octets ∙ further) c.take.ensures.exact) in
    c.fail.ensures.goes p s rest (is_refused p g.D.Draft.holds d.path c.take.new.self d.at s rest (Reads r) c.in-Err.failure b
    (c.requires.header.0, omega (arith, c.requires.header.1, ap length joined, length-append octets more)) at_rest
    (subst (λ x. IsStep p g.D.Draft.holds c.take.new.self x (step_after (judge (profile_of p) b.place d.at rest) b.place d.at rest)) c.in-Err.is made))
