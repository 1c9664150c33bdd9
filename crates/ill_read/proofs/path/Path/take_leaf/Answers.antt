use Rattle.std.proofs.Common.{sym, subst}
use Rattle.ill_grammar.specs.LeafTypes.{IsContentIn, leaf_is}
use Rattle.ill_grammar.specs.Due.{shape}
use Rattle.ill_read.specs.code.Drafts.{HasLeaf}
use Rattle.ill_read.proofs.PrimitiveElements.{leaf_read}
use Rattle.ill_grammar.specs.Standing.{next_at}
use Rattle.ill_grammar.proofs.OfTwo.{after_of}
use Rattle.ill_read.proofs.path.Path.take_leaf.Goals as goal

pub leaf-requires-clause-content : goal.leaf-requires-clause-content
leaf-requires-clause-content g c =
    let content = c.args.content.now in
    (c.in_default.ensures.octets, sym c.in_default.ensures.fault)

pub move_to-requires : goal.move_to-requires
move_to-requires g c = record { is_of = after_of c.args.self.now.frames.profile c.args.reading.found c.after.result c.requires.is_of c.after.ensures.place }

pub returns-clause-exact : goal.returns-clause-exact
returns-clause-exact g c p place header at rest stands begin =
    let content = c.args.content.now in
    let old = c.args.self.now in
    let l = c.args.leaf in
    let right = subst (λ q. IsContentIn q (leaf_is l) content) stands.3 (c.in_default.ensures.octets, sym c.in_default.ensures.fault) in
    let has = subst (λ d. HasLeaf old.frames.profile g.D.Draft.holds old.draft (shape c.place.result) c.args.reading l content d) (sym c.move_to.ensures.draft) c.in_ok-leaf.ensures in
    leaf_read p g.D.Draft.holds old c.move_to.new.self place c.args.reading l c.args.start content c.move_to.result header at rest stands begin c.requires.leaf right
    (subst (λ q. HasLeaf q g.D.Draft.holds old.draft (next_at q old.frames.open.items) c.args.reading l content c.move_to.new.self.draft) stands.3
    (subst (λ n. HasLeaf old.frames.profile g.D.Draft.holds old.draft n c.args.reading l content c.move_to.new.self.draft) c.place.ensures.shape has))
    c.move_to.ensures.profile c.after.result c.after.ensures.place c.move_to.ensures.passed
