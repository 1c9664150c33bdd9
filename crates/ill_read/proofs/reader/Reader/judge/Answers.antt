use Rattle.ill_refusals.specs.Fault.{fault_of}
use Rattle.ill_refusals.specs.code.Judge.{faulty}
use Rattle.ill_grammar.specs.code.Judging.{judge_identified}
use Rattle.ill_schema.specs.Profiles.{profile_of}
use Rattle.ill_read.proofs.ProfileOfPath.{headed_in, stands_at}
use Rattle.std.proofs.Common.{◌≡◌, ◌<◌, ◌++◌, ◌∙◌, get_or, length, Ok, IsTrue, subst, sym, arith}
use Rattle.ber_core.specs.Id.{tag_of_id, form_of_id}
use Rattle.ber_tree.specs.Identifier.{identifier}
use Rattle.ber_tree.specs.Octets.{are_octets}
use Rattle.ber_tree.proofs.Octets.{octets_fit}
use Rattle.ill_refusals.specs.Fault.{cut_fault}
use Rattle.ber_core.proofs.ReadOctets.{read_is_identifier}
use Rattle.ill_grammar.specs.Standing.{StandsAt}
use Rattle.ill_refusals.specs.code.Judge.{judge_length}
use Rattle.ill_grammar.specs.Due.{read_as}
use Rattle.ill_grammar.specs.Elements.{element_is}
use Rattle.ill_grammar.specs.code.Judging.{IsExtent}
use Rattle.ill_grammar.proofs.Judgements.{behind_identifier}
use Rattle.ill_read.proofs.reader.Reader.judge.Goals as goal

pub returns-in-Err-clause-goes : goal.returns-in-Err-clause-goes
returns-in-Err-clause-goes g c p s rest more b available_len joined bounded judged =
    let w = c.args.window.now in let id = c.args.id in let at = c.args.self.now.at in
    let ok : IsTrue (are_octets w) = octets_fit w (λ k. let l : get_or w k 0 < 256 = omega (arith, c.type_inv.window k) in l) in
    let read = c.requires.header in
    let cut = cut_fault (profile_of p) b.place at rest in
    let front = identifier (tag_of_id id) (form_of_id id) in
    let spelled : w ≡ front ++ read.0 = (read_is_identifier w (tag_of_id id) (form_of_id id) read.0 ok read.1).1 in
    c.refuse.ensures.goes p s rest (
      b,
      judged ∙ behind_identifier p b.place at cut w front read.0 (tag_of_id id) (form_of_id id) spelled read.1
          ∙ subst (λ q. judge_identified q b.place (tag_of_id id) (form_of_id id) at (length front) cut read.0 ≡ faulty (fault_of c.in-Err.refusal)) b.stands.3 (c.in-Err.ensures.exact b.place (stands_at p g.D.Draft.holds c.args.self.now.path b.place b.stands) (length front) cut read.0),
    )

pub returns-in-Err-judge_length-clause-goes : goal.returns-in-Err-judge_length-clause-goes
returns-in-Err-judge_length-clause-goes g c p s rest more b available_len joined bounded judged =
    let w = c.args.window.now in let id = c.args.id in let at = c.args.self.now.at in
    let ok : IsTrue (are_octets w) = octets_fit w (λ k. let l : get_or w k 0 < 256 = omega (arith, c.type_inv.window k) in l) in
    let read = c.requires.header in
    let front = identifier (tag_of_id id) (form_of_id id) in
    let spelled : w ≡ front ++ read.0 = (read_is_identifier w (tag_of_id id) (form_of_id id) read.0 ok read.1).1 in
    let stands : StandsAt c.args.self.now.path.frames b.place = stands_at p g.D.Draft.holds c.args.self.now.path b.place b.stands in
    let same = headed_in p c.args.self.now.path b.place (tag_of_id id) c.in-Ok.found (form_of_id id) at (cut_fault (profile_of p) b.place at rest) w front read.0 b.stands.3 stands (c.in-Ok.ensures.exact b.place stands) spelled read.1 in
    c.refuse-in-Err-judge_length.ensures.goes p s rest (
      b,
      judged ∙ same ∙ subst (λ q. judge_length (profile_of q) b.place (element_is (read_as c.in-Ok.found)) (tag_of_id id) (form_of_id id) at (length front) (cut_fault (profile_of q) b.place at rest) read.0 ≡ faulty (fault_of c.in-Err-judge_length.refusal)) b.stands.3
          (c.in-Err-judge_length.ensures.exact rest front read.0 available_len spelled read.2 c.in-Ok.found b.place stands bounded),
    )

pub returns-clause-goes : goal.returns-clause-goes
returns-clause-goes g c p s rest more b available_len joined bounded judged =
    let w = c.args.window.now in let id = c.args.id in let at = c.args.self.now.at in
    let ok : IsTrue (are_octets w) = octets_fit w (λ k. let l : get_or w k 0 < 256 = omega (arith, c.type_inv.window k) in l) in
    let read = c.requires.header in
    let front = identifier (tag_of_id id) (form_of_id id) in
    let spelled : w ≡ front ++ read.0 = (read_is_identifier w (tag_of_id id) (form_of_id id) read.0 ok read.1).1 in
    let stands : StandsAt c.args.self.now.path.frames b.place = stands_at p g.D.Draft.holds c.args.self.now.path b.place b.stands in
    let begun = c.in-Ok.ensures.exact b.place stands in
    let same = headed_in p c.args.self.now.path b.place (tag_of_id id) c.in-Ok.found (form_of_id id) at (cut_fault (profile_of p) b.place at rest) w front read.0 b.stands.3 stands begun spelled read.1 in
    let extent = subst (λ q. IsExtent q c.in-Ok.found id at w (Ok c.in-Ok-judge_length.extent) (judge_length (profile_of q) b.place (element_is (read_as c.in-Ok.found)) (tag_of_id id) (form_of_id id) at (length front) (cut_fault (profile_of q) b.place at rest) read.0)) b.stands.3
    (c.in-Ok-judge_length.ensures.exact rest front read.0 available_len spelled read.2 c.in-Ok.found b.place stands bounded) in
    c.open_or_read.ensures.goes p s rest more b joined begun (subst (IsExtent p c.in-Ok.found id at w (Ok c.in-Ok-judge_length.extent)) (sym (judged ∙ same)) extent)
