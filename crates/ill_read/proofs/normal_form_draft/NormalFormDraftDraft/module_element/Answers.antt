use Rattle.std.proofs.Common.{◌≡◌, ◌∙◌, ◌++◌, None, sym, ap, subst}
use Rattle.ber_core.specs.Der.{encoding}
use Rattle.ber_core.specs.Id.{tag_of_id}
use Rattle.ber_tree.specs.Tree.{primitive}
use Rattle.ber_leaf.specs.Bits.{cleared_content}
use Rattle.ber_leaf.specs.Segments.{join_bits}
use Rattle.ill_refusals.specs.Fault.{element_fault}
use Rattle.ill_schema.specs.Profiles.{profile_of}
use Rattle.ill_grammar.specs.Due.{read_as, shape}
use Rattle.ill_grammar.specs.Elements.{element_is}
use Rattle.ill_grammar.specs.declared.element.Element.TheVariants.{BitString}
use Rattle.ill_read.proofs.OctetDrafts.{one_segment, other_added, other_octets, other_same}
use Rattle.ill_read.proofs.normal_form_draft.NormalFormDraftDraft.module_element.Goals as goal

pub returns-in-BitString : goal.returns-in-BitString
returns-in-BitString c l below content h due is =
    let old = c.args.self.now in
    let octets = c.args.content.now in
    let tag = tag_of_id c.args.reading.id in
    let e : read_as c.args.reading.found ≡ BitString = sym c.element.ensures.element ∙ c.in-BitString.is in
    let right = subst (λ x. element_fault (profile_of c.args._profile) (element_is x) octets ≡ None) e c.requires.content.1 in
    let bits : c.content.result.now ≡ cleared_content octets =
    c.content.ensures ∙ c.clear_unused.ensures ∙ ap cleared_content (c.in_ok-push.ensures ∙ ap (λ x. join_bits x octets) c.in_ok-begin.ensures ∙ one_segment c.args._profile octets right) in
    other_added c.args._profile old (record { octets = c.primitive.new.self; bits = c.clear_unused.new.self }) l below (shape c.args._place) c.args.reading octets content c.requires.other c.requires.content h due is
    (c.in_ok-primitive.ensures.encoding c.args.reading.form ∙ ap (λ x. old.octets ++ encoding (primitive tag x)) (bits ∙ ap (λ x. other_octets x octets) (sym e)))

pub returns : goal.returns
returns c l below content h due is =
    let old = c.args.self.now in
    let octets = c.args.content.now in
    let tag = tag_of_id c.args.reading.id in
    let e = read_as c.args.reading.found in
    other_added c.args._profile old (record old { octets = c.primitive-2.new.self }) l below (shape c.args._place) c.args.reading octets content c.requires.other c.requires.content h due is
    (c.in_ok-primitive-2.ensures.encoding c.args.reading.form ∙ ap (λ x. old.octets ++ encoding (primitive tag x)) (sym (other_same e octets (λ s. c.in_default.not-BitString (c.element.ensures.element ∙ s)))))
