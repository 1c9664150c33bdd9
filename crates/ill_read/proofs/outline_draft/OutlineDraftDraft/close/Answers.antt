use Rattle.std.proofs.Common.{subst, sym}
use Rattle.ill_grammar.specs.Due.{shape}
use Rattle.ill_grammar.specs.Standing.{level_of}
use Rattle.ill_read.specs.code.Drafts.{HasClosed, IsChecked}
use Rattle.ill_read.specs.code.OctetDrafts.{AreOctets}
use Rattle.ill_read.specs.code.Outlines.{HasEnding}
use Rattle.ill_read.specs.declared.outline_draft.OutlineDraft.{OutlineDraft}
use Rattle.std.proofs.Common.{◌∷◌}
use Rattle.ill_read.proofs.ClosedElements.{handed_on}
use Rattle.ill_read.proofs.Outlines.{outline_closed}
use Rattle.ill_read.proofs.outline_draft.OutlineDraftDraft.close.Goals as goal

pub returns-in_err-close-clause-text : goal.returns-in_err-close-clause-text
returns-in_err-close-clause-text c tag entries below text h =
    let octets = subst (λ d. AreOctets d (level_of c.args.frame tag entries ∷ below) text) (sym c.in_ok-mark_held.ensures.octets) h.octets in
    handed_on (IsChecked c.args.profile c.args.frame text) c.from_residual-in_err-close.result c.in_err-close.field-0.0 c.from_residual-in_err-close.ensures.1 (c.in_err-close.ensures.text tag entries below text octets)

pub returns-clause-text : goal.returns-clause-text
returns-clause-text c tag entries below text h =
    c.in_ok-close.ensures.text tag entries below text (subst (λ d. AreOctets d (level_of c.args.frame tag entries ∷ below) text) (sym c.in_ok-mark_held.ensures.octets) h.octets)

pub returns-clause-closed : goal.returns-clause-closed
returns-clause-closed c =
    let new : OutlineDraft = record { octets = c.close.new.self; marks = c.mark_end.new.marks } in
    let next = shape c.args.place in
    let closed = subst (λ d. HasClosed c.args.profile AreOctets d c.args.frame next c.close.new.self) c.in_ok-mark_held.ensures.octets c.in_ok-close.ensures.closed in
    outline_closed c.args.profile c.args.self.now new c.args.frame next c.mark_held.new.self.marks.items closed c.in_ok-mark_held.ensures.marks
    (subst (λ n. HasEnding n c.mark_held.new.self.marks.items c.mark_end.new.marks.items) c.next.ensures c.in_ok-mark_end.ensures)
