use Rattle.std.proofs.Common.{◌∙◌, ap, ap₂, subst, sym}
use Rattle.ber_core.specs.Id.{tag_of_id}
use Rattle.ill_grammar.specs.declared.element.Element.TheVariants.{Leaf}
use Rattle.ill_read.specs.code.Drafts.{IsDueAt}
use Rattle.ill_read.proofs.ProfileOfPath.{content_two}
use Rattle.ber_leaf.specs.Leaf.{value}
use Rattle.ill_schema.specs.Content.{simple}
use Rattle.ill_grammar.specs.Places.{alternative_of}
use Rattle.ill_grammar.specs.Due.{shape, slot_in}
use Rattle.ill_grammar.specs.LeafTypes.{IsContentIn, leaf_is}
use Rattle.ill_grammar.specs.Contents.{with_alternative}
use Rattle.ill_read.specs.code.Drafts.{rows_before}
use Rattle.ill_read.specs.code.OpenValues.{HasAdded}
use Rattle.ill_read.proofs.ValueDrafts.{values_added}
use Rattle.ill_read.proofs.value_draft.ValueDraftDraft.leaf.Goals as goal

pub value-value-requires : goal.value-value-requires
value-value-requires c = content_two c.args._profile (leaf_is c.args.leaf) _ c.requires.takes (subst (IsContentIn c.args._profile (leaf_is c.args.leaf)) (sym c.in_ok-from_slice.ensures.items) c.requires.content)

pub returns : goal.returns
returns c after l below h due_in =
    let due = subst (λ q. IsDueAt q l (shape c.args.place) (tag_of_id c.args.reading.id) (slot_in c.args.reading.found) (alternative_of c.args.reading.found) (Leaf c.args.leaf)) c.requires.takes due_in in
    let f = c.args.reading.found in
    let old = c.args.self.now.held.entries.items in
    let new = c.add.new.self.entries.items in
    let read = c.value-value.ensures ∙ ap (λ o. simple (value (leaf_is c.args.leaf) o)) c.in_ok-from_slice.ensures.items in
    let is = c.in_ok-value.ensures ∙ ap₂ with_alternative c.alternative.ensures read in
    let added = subst (λ rows. HasAdded rows c.in_ok-value.value old new) (ap₂ rows_before c.at.ensures c.of.ensures) c.in_ok-add.ensures in
    values_added c.args.self.now (record c.args.self.now { held = c.add.new.self }) l below (shape c.args.place) (slot_in f) c.in_ok-value.value
    (with_alternative (alternative_of f) (simple (value (leaf_is c.args.leaf) c.args.content.now))) h.held due.next is added h.text
