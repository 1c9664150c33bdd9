use Rattle.std.proofs.Common.{◌++◌, ◌∙◌, ap}
use Rattle.std.proofs.lemmas.Result.{IfOk-weaker}
use Rattle.ill_grammar.specs.Due.{first_of, read_as, shape}
use Rattle.ill_read.specs.code.Outlines.{first_marks}
use Rattle.ill_read.specs.declared.outline_draft.OutlineDraft.{OutlineDraft}
use Rattle.ill_read.proofs.OctetDrafts.{not_bit_segment, not_segment}
use Rattle.ill_read.proofs.Outlines.{outline_opened}
use Rattle.ill_read.proofs.outline_draft.OutlineDraftDraft.open_usual.Goals as goal

pub returns : goal.returns
returns c =
    let old = c.args.self.now in
    let next = shape c.args.place in
    let e = read_as c.args.opening.found in
    let new : OutlineDraft = record { octets = c.open_usual.new.self; marks = c.mark_start.new.marks } in
    let begun = c.in_ok-mark_start.ensures ∙ ap (λ x. c.mark_preceding.new.marks.items ++ first_marks (first_of x) x) c.element-element.ensures.element in
    IfOk-weaker c.open_usual.result _ _
    (λ contents_start h. outline_opened old new next c.args.opening contents_start c.mark_preceding.new.marks.items (not_segment e c.requires.usual, not_bit_segment e c.requires.usual) h c.in_ok-mark_preceding.ensures begun)
    c.open_usual.ensures
