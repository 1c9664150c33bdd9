use Rattle.std.proofs.Common.{◌≡◌, ◌∙◌, refl, ap, subst}
use Rattle.ill_grammar.specs.Due.{shape_at}
use Rattle.ill_read.specs.code.Drafts.{HasOpened}
use Rattle.ill_read.proofs.OpenedElements.{opens_at}
use Rattle.ber_core.specs.Id.{tag_of_id}
use Rattle.ill_grammar.specs.Due.{IsDueIn, behind, next_place, read_due, slot_in}
use Rattle.ill_grammar.specs.Standing.{next_at}
use Rattle.ill_refusals.specs.Place.{bound}
use Rattle.ill_schema.specs.Profiles.{profile_of}
use Rattle.ill_grammar.proofs.OfTwo.{first_of, opened_of}
use Rattle.ill_read.proofs.ProfileOfPath.{stands_at}
use Rattle.ill_read.proofs.path.Path.open.Goals as goal

pub returns-clause-exact : goal.returns-clause-exact
returns-clause-exact g c p place stands begin =
    let old = c.args.self.now in
    let items = old.frames.open.items in
    let found = c.args.opening.found in
    let same = stands.3 in
    opens_at p g.D.Draft.holds old (record { frames = c.push.new.self; draft = c.open_in.new.draft }) c.args.opening _ place c.bound.result stands
    (subst (λ q. IsDueIn (tag_of_id c.args.opening.id) (next_at q items) (read_due found)) same begin.is_due)
    (subst (λ q. shape_at (next_place found) ≡ behind (next_at q items) (slot_in found)) same begin.goes_on) begin.allowed (ap shape_at c.first.ensures.place ∙ begin.begins) (subst (λ q. c.bound.result ≡ bound (profile_of q) place) same (c.bound.ensures.exact place (stands_at p g.D.Draft.holds old place stands))) c.unwrap_or.ensures (subst (λ n. HasOpened g.D.Draft.holds old.draft n c.args.opening c.in_ok-contents_start.contents_start c.open_in.new.draft) (c.place.ensures.shape ∙ ap (λ q. next_at q items) same) c.in_ok-contents_start.ensures) c.push.ensures.items c.push.ensures.profile refl

pub push-requires-clause-is_of : goal.push-requires-clause-is_of
push-requires-clause-is_of g c = opened_of c.args.self.now.frames.profile _ c.requires.is_of (first_of c.args.self.now.frames.profile c.args.opening.found c.first.result c.requires.is_of c.first.ensures.place)
