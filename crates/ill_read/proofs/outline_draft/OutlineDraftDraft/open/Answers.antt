use Rattle.std.proofs.Common.{◌++◌, ap, inl, inr, sym, subst, ◌∙◌}
use Rattle.std.proofs.lemmas.Result.{IfOk-weaker}
use Rattle.ill_grammar.specs.Due.{first_of, shape}
use Rattle.ill_read.specs.code.Drafts.{HasOpened}
use Rattle.ill_read.specs.code.OctetDrafts.{AreOctets}
use Rattle.ill_read.specs.code.Outlines.{first_marks}
use Rattle.ill_read.specs.declared.outline_draft.OutlineDraft.{OutlineDraft}
use Rattle.ill_read.proofs.Outlines.{outline_opened, outline_segment}
use Rattle.ill_read.proofs.outline_draft.OutlineDraftDraft.open.Goals as goal
use Rattle.ill_read.proofs.outline_draft.OutlineDraftDraft.open.Goals.{in-Segment, in_default+in_ok-mark_preceding-in_default+in_ok-mark_start-in_default}

pub returns : goal.returns
returns c =
    let old = c.args.self.now in
    let next = shape c.args.place in
    let new : OutlineDraft = record { octets = c.open.new.self; marks = c.match-element.self.marks } in
    elim c.match-element.branch [
      | in-Segment w ↦
          IfOk-weaker c.open.result _ _
          (λ contents_start h. outline_segment old new next c.args.opening contents_start
          (elim w.in-Segment.is [ inl x ↦ inl (sym c.element-element.ensures.element ∙ x) | inr x ↦ inr (sym c.element-element.ensures.element ∙ x) ])
          (subst (λ (d : OutlineDraft). HasOpened AreOctets d.octets next c.args.opening contents_start c.open.new.self) w.self-is h) (ap (λ (d : OutlineDraft). d.marks) w.self-is))
          c.open.ensures
      | in_default+in_ok-mark_preceding-in_default+in_ok-mark_start-in_default w ↦
          let e = ap (λ (d : OutlineDraft). d.marks.items) w.self-is ∙ w.in_ok-mark_start-in_default.ensures ∙ ap (λ x. w.mark_preceding.new.marks.items ++ first_marks (first_of x) x) c.element-element.ensures.element in
          IfOk-weaker c.open.result _ _
          (λ contents_start h. outline_opened old new next c.args.opening contents_start w.mark_preceding.new.marks.items
          (λ s. w.in_default.not-Segment (c.element-element.ensures.element ∙ s), λ s. w.in_default.not-BitSegment (c.element-element.ensures.element ∙ s))
          (subst (λ (d : OutlineDraft). HasOpened AreOctets d.octets next c.args.opening contents_start c.open.new.self) w.self-is h) w.in_ok-mark_preceding-in_default.ensures e)
          c.open.ensures
    ]
