use Rattle.std.proofs.Common.{◌∙◌, ◌∷◌, Err, ap₂, subst, sym}
use Rattle.ill_grammar.specs.Places.{alternative_of}
use Rattle.ill_grammar.specs.Due.{read_as, shape, slot_in}
use Rattle.ill_read.specs.code.Drafts.{IsChecked, IsRightText, rows_before}
use Rattle.ill_read.specs.code.OpenValues.{HasAdded, IsFound}
use Rattle.ill_grammar.specs.Contents.{with_alternative}
use Rattle.ill_read.proofs.ClosedElements.{handed_on}
use Rattle.ill_read.proofs.ValueDrafts.{values_added}
use Rattle.ill_grammar.specs.Standing.{IsHeld}
use Rattle.ill_read.proofs.ProfileOfPath.{found_two}
use Rattle.ill_read.proofs.value_draft.ValueDraftDraft.close.Goals as goal

pub ended-requires : goal.ended-requires
ended-requires c = found_two c.args._profile c.args.frame.found c.requires.takes c.requires.is_of

pub returns-in_err-value-clause-text : goal.returns-in_err-value-clause-text
returns-in_err-value-clause-text c tag entries below text h =
    handed_on (IsChecked c.args._profile c.args.frame text) c.from_residual.result c.in_err-value.field-0.0 c.from_residual.ensures.1 (subst (λ q. IsChecked q c.args.frame text (Err c.in_err-value.field-0.0)) (sym c.requires.takes) (c.in_err-value.ensures tag entries below text h))

pub returns-in_default-clause-text : goal.returns-in_default-clause-text
returns-in_default-clause-text c tag entries below text h = subst (λ q. IsRightText q (read_as c.args.frame.found) text) (sym c.requires.takes) (c.in_ok-value.ensures tag entries below text h).0

pub returns-in_default-clause-closed : goal.returns-in_default-clause-closed
returns-in_default-clause-closed c tag entries trees l below text content h held_in right is value_of due =
    let held = subst (λ q. IsHeld q (read_as c.args.frame.found) (shape c.args.frame.place) entries trees) c.requires.takes held_in in
    let found = (c.in_ok-value.ensures tag entries (l ∷ below) text h).1 trees content held is in
    absurd (subst (λ x. IsFound x content) c.in_default.is found.0)

pub returns-clause-text : goal.returns-clause-text
returns-clause-text c tag entries below text h = subst (λ q. IsRightText q (read_as c.args.frame.found) text) (sym c.requires.takes) (c.in_ok-value.ensures tag entries below text h).0

pub returns-clause-closed : goal.returns-clause-closed
returns-clause-closed c tag entries trees l below text content h held_in right is value_of due =
    let held = subst (λ q. IsHeld q (read_as c.args.frame.found) (shape c.args.frame.place) entries trees) c.requires.takes held_in in
    let found = (c.in_ok-value.ensures tag entries (l ∷ below) text h).1 trees content held is in
    let value = subst (λ x. IsFound x content) c.in-Some.is found.0 in
    let f = c.args.frame.found in
    let is = c.in_ok-value-2.ensures ∙ ap₂ with_alternative c.alternative.ensures value in
    let old = c.ended.new.self.held.entries.items in
    let new = c.add.new.self.entries.items in
    let added = subst (λ rows. HasAdded rows c.in_ok-value-2.value old new) (ap₂ rows_before c.at.ensures c.of.ensures) c.in_ok-add.ensures in
    values_added c.ended.new.self (record c.ended.new.self { held = c.add.new.self }) l below (shape c.args.place) (slot_in f) c.in_ok-value-2.value (with_alternative (alternative_of f) content)
    found.1.held due.next is added found.1.text
