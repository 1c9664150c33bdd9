use Rattle.std.proofs.Common.{◌<◌, IsTrue, get_or, ap, sym, subst, arith, ◌∙◌}
use Rattle.ber_tree.specs.Octets.{are_octets}
use Rattle.ber_tree.proofs.Octets.{octets_fit}
use Rattle.ill_refusals.specs.Fault.{element_fault}
use Rattle.ill_schema.specs.Profiles.{profile_of}
use Rattle.ill_grammar.specs.Due.{read_as, shape}
use Rattle.ill_grammar.specs.Elements.{element_is}
use Rattle.ill_read.specs.code.Drafts.{HasModuleElement, IsRightContent}
use Rattle.ill_read.proofs.PrimitiveElements.{module_element_read}
use Rattle.ill_grammar.specs.Standing.{next_at}
use Rattle.ill_read.proofs.path.Path.take_module_element.Goals as goal

pub module_element-requires-clause-content : goal.module_element-requires-clause-content
module_element-requires-clause-content g c =
    let content = c.args.content.now in
    let ok : IsTrue (are_octets content) = octets_fit content (λ k. let small : get_or content k 0 < 256 = omega (arith, c.type_inv.content k) in small) in
    (ok, sym (c.in_default.ensures ∙ ap (λ e. element_fault (profile_of c.args.self.now.frames.profile) (element_is e) content) c.element.ensures.element))

pub returns-clause-exact : goal.returns-clause-exact
returns-clause-exact g c p place header at rest stands begin =
    let content = c.args.content.now in
    let old = c.args.self.now in
    let e = read_as c.args.reading.found in
    let ok : IsTrue (are_octets content) = octets_fit content (λ k. let small : get_or content k 0 < 256 = omega (arith, c.type_inv.content k) in small) in
    let sound = sym (c.in_default.ensures ∙ ap (λ e. element_fault (profile_of old.frames.profile) (element_is e) content) c.element.ensures.element) in
    let right = subst (λ q. IsRightContent q e content) stands.3 (ok, sound) in
    let has = subst (λ d. HasModuleElement old.frames.profile g.D.Draft.holds old.draft (shape c.place.result) c.args.reading content d) (sym c.move_to.ensures.draft) c.in_ok-module_element.ensures in
    module_element_read p g.D.Draft.holds old c.move_to.new.self place c.args.reading c.args.start content c.move_to.result header at rest stands begin c.requires.other right
    (subst (λ q. HasModuleElement q g.D.Draft.holds old.draft (next_at q old.frames.open.items) c.args.reading content c.move_to.new.self.draft) stands.3
    (subst (λ n. HasModuleElement old.frames.profile g.D.Draft.holds old.draft n c.args.reading content c.move_to.new.self.draft) c.place.ensures.shape has))
    c.move_to.ensures.profile c.after.result c.after.ensures.place c.move_to.ensures.passed
