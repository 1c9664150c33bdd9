use Rattle.std.proofs.Common.{◌≡◌, ◌∙◌, None, Some, sym, ap, inl, inr}
use Rattle.ill_schema.specs.Content.{Content, simple, sequence, list, alternative}
use Rattle.ill_schema.specs.Value.{content_of}
use Rattle.ill_schema.proofs.Contents.{content_of-Flag, content_of-Whole, content_of-Date, content_of-Time, content_of-Print, content_of-Str, content_of-Seq, content_of-List, content_of-Alt}
use Rattle.ill_read.proofs.ValueDrafts.{body_there}
use Rattle.ill_read.proofs.value_draft.ValueDraft.body.Goals as goal

pub returns-in_err-row : goal.returns-in_err-row
returns-in_err-row c content h =
    let there = body_there c.args.self.now (record c.args.self.now { held = c.last.new.self }) c.last.result content h c.last.ensures in
    absurd (let q : None ≡ Some there.0 = sym c.in_err-row.was ∙ there.1 in cc)

pub returns-in-Alt : goal.returns-in-Alt
returns-in-Alt c content h =
    let there = body_there c.args.self.now (record c.args.self.now { held = c.last.new.self }) c.last.result content h c.last.ensures in
    let same : Some there.0 ≡ Some c.in_ok-row.field-0 = sym there.1 ∙ c.in_ok-row.was in
    let is : there.0 ≡ c.in_ok-row.field-0 = cc in
    sym there.2 ∙ ap content_of (is ∙ c.in-Alt.is) ∙ content_of-Alt c.in-Alt.row c.in-Alt.value ∙ ap (λ v. alternative c.in-Alt.row (content_of v)) (sym c.into_inner.ensures)

pub returns : goal.returns
returns c content h n d e =
    let there = body_there c.args.self.now (record c.args.self.now { held = c.last.new.self }) c.last.result content h c.last.ensures in
    let same : Some there.0 ≡ Some c.in_ok-row.field-0 = sym there.1 ∙ c.in_ok-row.was in
    let is : there.0 ≡ c.in_ok-row.field-0 = cc in
    let as_is : (k : Content) → content_of c.in_ok-row.field-0 ≡ k → k ≡ alternative n d = λ k q. sym q ∙ sym (ap content_of is) ∙ there.2 ∙ e in
    elim c.in-Flag.is [
      | inl x ↦ (let q : simple _ ≡ alternative n d = as_is _ (ap content_of x.1 ∙ content_of-Flag x.0) in cc)
      | inr (inl x) ↦ (let q : simple _ ≡ alternative n d = as_is _ (ap content_of x.1 ∙ content_of-Whole x.0) in cc)
      | inr (inr (inl x)) ↦ (let q : simple _ ≡ alternative n d = as_is _ (ap content_of x.1 ∙ content_of-Date x.0) in cc)
      | inr (inr (inr (inl x))) ↦ (let q : simple _ ≡ alternative n d = as_is _ (ap content_of x.1 ∙ content_of-Time x.0) in cc)
      | inr (inr (inr (inr (inl x)))) ↦ (let q : simple _ ≡ alternative n d = as_is _ (ap content_of x.1 ∙ content_of-Print x.0) in cc)
      | inr (inr (inr (inr (inr (inl x))))) ↦ (let q : simple _ ≡ alternative n d = as_is _ (ap content_of x.1 ∙ content_of-Str x.0) in cc)
      | inr (inr (inr (inr (inr (inr (inl x)))))) ↦ (let q : sequence _ ≡ alternative n d = as_is _ (ap content_of x.1 ∙ content_of-Seq x.0) in cc)
      | inr (inr (inr (inr (inr (inr (inr x)))))) ↦ (let q : list _ ≡ alternative n d = as_is _ (ap content_of x.1 ∙ content_of-List x.0) in cc)
    ]
