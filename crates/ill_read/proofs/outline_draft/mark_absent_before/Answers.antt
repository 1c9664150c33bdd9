use Rattle.std.proofs.Common.{◌∙◌, ◌++◌, [], ◌∷◌, append_assoc, ap, drop, min, subst, subst₂, sym, take}
use Rattle.std.proofs.lemmas.List.{take_min}
use Rattle.std.proofs.lemmas.Result.{IfOk-weaker}
use Rattle.ill_tables.specs.Table.{rows_of}
use Rattle.ill_read.specs.code.Drafts.{rows_before}
use Rattle.ill_read.specs.code.Outlines.{AreAbsent, HasAbsent, start_marks}
use Rattle.ill_grammar.specs.declared.outline.Mark.TheVariants as mark
use Rattle.ill_read.proofs.outline_draft.mark_absent_before.Goals as goal

pub returns-in_ok-push-in-Either-Row : goal.returns-in_ok-push-in-Either-Row
returns-in_ok-push-in-Either-Row c =
    let w = c.in-Either-Row in
    let rows = rows_of w.wrapped.node in
    let old = c.args.marks.now.items in
    let new = c.mark_absent-in-Either-Row.new.marks.items in
    let clamped = ap (drop 0) (ap (λ n. take n rows) (c.min-in-Either-Row.ensures ∙ ap (min w.row) c.rows-in-Either-Row.ensures) ∙ take_min w.row rows) in
    IfOk-weaker c.mark_absent-in-Either-Row.result _ _
    (λ x h. subst₂ (λ n s. HasAbsent (start_marks n s) (rows_before n s) old new) (sym w.is-0) (sym w.is-1) (record {
      marks = h.marks;
      added = h.added ∙ ap (λ m. m ++ h.marks) c.in_ok-push-in-Either-Row.ensures.items ∙ append_assoc old (mark.Sequence ∷ []) h.marks;
      are = subst (λ rows. AreAbsent rows h.marks) clamped h.are;
    })) c.mark_absent-in-Either-Row.ensures
