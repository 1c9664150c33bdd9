use Rattle.std.proofs.Common.{◌≡◌, sym, subst}
use Rattle.ill_grammar.specs.Due.{shape}
use Rattle.ill_grammar.specs.LeafTypes.{IsContentIn, leaf_is}
use Rattle.ill_grammar.specs.Standing.{next_at}
use Rattle.ill_grammar.proofs.OfTwo.{after_of}
use Rattle.ill_read.specs.code.Drafts.{HasString}
use Rattle.ill_read.specs.code.Stepping.{GoesOn}
use Rattle.ill_read.proofs.StringsInTags.{string_taken}
use Rattle.ill_read.proofs.path.Path.take_string.Goals as goal

pub move_to-requires : goal.move_to-requires
move_to-requires g c = record { is_of = after_of c.args.self.now.frames.profile c.args.opening.found c.after.result c.requires.is_of c.after.ensures.place }

pub returns-clause-exact : goal.returns-clause-exact
returns-clause-exact g c whole is p place at rest stands begin =
    let old = c.args.self.now in
    let o = c.args.opening in
    let l = c.args.leaf in
    let octets = c.args.content.now in
    let items = old.frames.open.items in
    let same : c.move_to.result ≡ whole = cc in
    let taken = c.in_ok-string_in_tag.ensures.added cc in
    let here = subst (λ d. HasString old.frames.profile g.D.Draft.holds old.draft (shape c.place-place.result) o l octets d) (sym c.move_to.ensures.draft) taken in
    let there = subst (λ n. HasString old.frames.profile g.D.Draft.holds old.draft n o l octets c.move_to.new.self.draft) c.place-place.ensures.shape here in
    string_taken p g.D.Draft.holds old c.move_to.new.self place o l octets whole at rest stands begin c.requires.string (subst (λ q. IsContentIn q (leaf_is l) octets) stands.3 c.requires.content)
    (subst (λ q. HasString q g.D.Draft.holds old.draft (next_at q items) o l octets c.move_to.new.self.draft) stands.3 there) c.move_to.ensures.profile c.after.result c.after.ensures.place
    (subst (GoesOn c.after.result items c.move_to.new.self.frames.open.items) same c.move_to.ensures.passed)
