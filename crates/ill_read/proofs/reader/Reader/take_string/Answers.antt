use Rattle.std.proofs.Common.{◌≡◌, ◌-◌, ◌<◌, ◌≤◌, ◌∙◌, length, sym, ap, subst, arith}
use Rattle.std.proofs.lemmas.List.{length-take}
use Rattle.ber_core.specs.Id.{tag_of_id}
use Rattle.ill_schema.specs.Profiles.{profile_of}
use Rattle.ill_refusals.specs.Place.{bound}
use Rattle.ill_refusals.specs.code.Judge.{judge, opens}
use Rattle.ill_grammar.specs.Due.{read_as}
use Rattle.ill_grammar.specs.Elements.{element_is}
use Rattle.ill_grammar.specs.LeafTypes.{IsContentIn, leaf_is}
use Rattle.ill_grammar.specs.declared.element.Element.TheVariants.{Wrapper}
use Rattle.ill_grammar.proofs.OpenFrames.{frames_open}
use Rattle.ill_read.specs.Answers.{IsRefusedIn}
use Rattle.ill_read.specs.code.Progress.{Opens}
use Rattle.ill_read.specs.code.ReaderCode.{CanStep}
use Rattle.ill_read.proofs.StringSteps.{string_passed}
use Rattle.ill_read.proofs.StringsInTags.{wrapped_of}
use Rattle.ill_read.proofs.reader.Reader.take_string.Goals as goal

pub returns-in-Ok-Some-clause-goes : goal.returns-in-Ok-Some-clause-goes
returns-in-Ok-Some-clause-goes g c p s rest window can is found =
    let d = c.args.self.now in let b = can.0 in let o = c.args.opening in let l = c.args.leaf in
    let x = wrapped_of (read_as o.found) l c.requires.string in
    let first : judge (profile_of p) b.place d.at rest ≡ opens (tag_of_id o.id) (element_is (Wrapper x.0)) o.header o.end = can.1.1 ∙ ap (λ e. opens (tag_of_id o.id) (element_is e) o.header o.end) x.1 in
    let shallow : length b.place < 31 = omega (arith, c.requires.room, frames_open p b.place d.path.frames.open.items b.stands.0 b.stands.1) in
    let right = subst (λ q. IsContentIn q (leaf_is l) c.args.content.now) b.stands.3 c.requires.content in
    let exact = c.take_string.ensures.exact c.in-Ok-Some.whole cc in
    c.move_on.ensures.goes p s rest (subst g.D.Draft.takes b.stands.3 c.requires.takes)
    (string_passed p g.D.Draft.holds d.path c.take_string.new.self d.at s rest window x.0 l (tag_of_id o.id) o.header o.end c.args.content.now c.args.size c.in-Ok-Some.whole b shallow x.2 first is found right.1
    (λ k r. exact p b.place k r b.stands can.1.0))

pub returns-in-Ok-None-clause-goes : goal.returns-in-Ok-None-clause-goes
returns-in-Ok-None-clause-goes g c p s rest window can is found =
    let d = c.args.self.now in let o = c.args.opening in
    let left = c.take_string.ensures.left cc in
    let reaches : o.header ≤ length rest = omega (arith, c.requires.header.1, found.fits, ap length is, length-take (bound (profile_of p) can.0.place - d.at) rest) in
    c.open.ensures.goes p s rest (subst (λ q. CanStep p g.D.Draft.holds (record d { path = q }) s rest (Opens o)) (sym left) can) (c.requires.header.0, reaches)

pub returns-in-Err-clause-goes : goal.returns-in-Err-clause-goes
returns-in-Err-clause-goes g c p s rest window can is found = c.fail.ensures.goes p s rest (subst (IsRefusedIn (profile_of p) s) (sym c.from.ensures) tt)
