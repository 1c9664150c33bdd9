use Rattle.ber_core.specs.HeaderRead.{IsHeaderRead, IsLengthRead}
use Rattle.ber_core.specs.Reading.{read_length}
use Rattle.ber_core.specs.declared.header_read.HeaderRead.TheVariants.{Identified}
use Rattle.ill_schema.specs.Profiles.{profile_of}
use Rattle.ill_read.proofs.Windows.{window_joined}
use Rattle.ill_read.proofs.ProfileOfPath.{headed_in, stands_at}
use Rattle.std.proofs.lemmas.List.{take-append-drop}
use Rattle.std.proofs.Common.{◌≡◌, ◌<◌, ◌++◌, ◌∙◌, take, drop, get_or, length, Ok, IsTrue, ap, subst, sym, arith}
use Rattle.ber_core.specs.Id.{tag_of_id, form_of_id}
use Rattle.ber_tree.specs.Identifier.{identifier}
use Rattle.ber_tree.specs.Octets.{are_octets}
use Rattle.ber_tree.proofs.Octets.{octets_fit}
use Rattle.ill_refusals.specs.Fault.{cut_fault}
use Rattle.ber_core.proofs.ReadOctets.{octets_right, read_is_identifier, read_is_indefinite}
use Rattle.ber_core.specs.declared.header.Len.TheVariants.{Indefinite}
use Rattle.ber_core.specs.declared.header_read.LengthRead.TheVariants.{Whole}
use Rattle.ill_grammar.specs.Standing.{StandsAt}
use Rattle.ill_refusals.specs.code.Judge.{judge_length}
use Rattle.ill_grammar.specs.Due.{read_as}
use Rattle.ill_grammar.specs.Elements.{element_is}
use Rattle.ill_grammar.specs.code.Judging.{IsExtent}
use Rattle.ill_grammar.proofs.Judgements.{identified_judged}
use Rattle.ill_read.proofs.reader.Reader.step_within.Goals as goal

pub returns-clause-goes : goal.returns-clause-goes
returns-clause-goes g c p s rest b counted is bounded judged =
    let w = c.args.window.now in let id = c.in-Some.id in let at = c.args.self.now.at in
    let ok : IsTrue (are_octets w) = octets_fit w (λ k. let l : get_or w k 0 < 256 = omega (arith, c.type_inv.window k) in l) in
    let read : IsHeaderRead (Identified id c.in-Some-length_after.length_read) w = (drop 1 w, c.in-Some.ensures, subst (λ f. IsLengthRead c.in-Some-length_after.length_read (read_length f (drop 1 w)) w) c.constructed.ensures c.in-Some-length_after.ensures) in
    let front = identifier (tag_of_id id) (form_of_id id) in
    let spelled : w ≡ front ++ read.0 = (read_is_identifier w (tag_of_id id) (form_of_id id) read.0 ok read.1).1 in
    let stands : StandsAt c.args.self.now.path.frames b.place = stands_at p g.D.Draft.holds c.args.self.now.path b.place b.stands in
    let found = c.in-Some-find_usual.found in
    let begun = c.in-Some-find_usual.ensures.begun b.place stands in
    let same = headed_in p c.args.self.now.path b.place (tag_of_id id) found (form_of_id id) at (cut_fault (profile_of p) b.place at rest) w front read.0 b.stands.3 stands begun spelled read.1 in
    let extent = subst (λ q. IsExtent q found id at w (Ok c.in-Some-reach.extent) (judge_length (profile_of q) b.place (element_is (read_as found)) (tag_of_id id) (form_of_id id) at (length front) (cut_fault (profile_of q) b.place at rest) read.0)) b.stands.3
    (c.in-Some-reach.ensures.exact rest front read.0 spelled read.2 found b.place stands bounded) in
    c.open_or_take.ensures.goes p s rest b (is ∙ ap (λ m. take m rest) bounded) begun (subst (IsExtent p found id at w (Ok c.in-Some-reach.extent)) (sym (judged ∙ identified_judged p b.place at (cut_fault (profile_of p) b.place at rest) w read.0 (tag_of_id id) (form_of_id id) read.1 ∙ same)) extent)

pub reach-requires-clause-form : goal.reach-requires-clause-form
reach-requires-clause-form g c header is =
    let w = c.args.window.now in let f = form_of_id c.in-Some.id in
    let ok : IsTrue (are_octets w) = octets_fit w (λ k. let l : get_or w k 0 < 256 = omega (arith, c.type_inv.window k) in l) in
    let read : IsLengthRead (Whole Indefinite header) (read_length f (drop 1 w)) w =
    subst (λ l. IsLengthRead l (read_length f (drop 1 w)) w) is (subst (λ b. IsLengthRead c.in-Some-length_after.length_read (read_length b (drop 1 w)) w) c.constructed.ensures c.in-Some-length_after.ensures) in
    (read_is_indefinite f (drop 1 w) (drop header w) (octets_right (take 1 w) (drop 1 w) (subst (λ x. IsTrue (are_octets x)) (sym (take-append-drop 1 w)) ok)) read.2).0

pub returns-in_default-clause-goes : goal.returns-in_default-clause-goes
returns-in_default-clause-goes g c p s rest b counted is = c.step_unusual.ensures.goes p s rest (drop c.args.room rest) b counted (window_joined c.args.room rest c.args.window.now is)

pub returns-in_default-length_after-clause-goes : goal.returns-in_default-length_after-clause-goes
returns-in_default-length_after-clause-goes g c p s rest b counted is = c.step_unusual-in_default-length_after.ensures.goes p s rest (drop c.args.room rest) b counted (window_joined c.args.room rest c.args.window.now is)

pub returns-in_default-find_usual-clause-goes : goal.returns-in_default-find_usual-clause-goes
returns-in_default-find_usual-clause-goes g c p s rest b counted is = c.step_unusual-in_default-find_usual.ensures.goes p s rest (drop c.args.room rest) b counted (window_joined c.args.room rest c.args.window.now is)

pub returns-in_default-reach-clause-goes : goal.returns-in_default-reach-clause-goes
returns-in_default-reach-clause-goes g c p s rest b counted is = c.step_unusual-in_default-reach.ensures.goes p s rest (drop c.args.room rest) b counted (window_joined c.args.room rest c.args.window.now is)
