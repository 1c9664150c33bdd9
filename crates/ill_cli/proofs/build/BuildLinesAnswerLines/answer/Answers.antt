use Rattle.std.proofs.Common.{◌≡◌, ◌∙◌, ◌++◌, List, ℕ, take, sym, subst, inr}
use Rattle.ill_schema.specs.Apdu.{SpellsApdu}
use Rattle.ill_schema.specs.Profiles.{profile_of}
use Rattle.ill_build.specs.Line.{IsFaultyLine, OnFailure}
use Rattle.ill_cli.specs.Builds.{BuildAnswers, IsUnbuiltResult, IsUnbuiltVerdict}
use Rattle.ill_cli.proofs.Builds.{answered_by, built_answer, faulty_line}
use Rattle.ill_cli.proofs.build.BuildLinesAnswerLines.answer.Goals as goal

pub returns-in-Ok-2-clause-answers : goal.returns-in-Ok-2-clause-answers
returns-in-Ok-2-clause-answers g c =
    let work = c.args.self.now.work in
    let p = profile_of work.profile in
    let built = c.in-Ok.ensures.built in
    let normal = c.deref-in-Ok-2-2.ensures.value in
    let octets = c.deref-in-Ok-2-3.ensures.value in
    built_answer work c.args.kept.now c.deref-in-Ok-2-3.result.now c.args.results.now.items c.answer_built-in-Ok-2.new.results.items built.0 c.answer_built-in-Ok-2.result
    built.1 c.in-Ok.ensures.short (subst (SpellsApdu p built.0) (sym octets) built.2) (λ _. octets ∙ built.3)
    (c.answer_built-in-Ok-2.ensures.built built.0 (subst (SpellsApdu p built.0) (sym normal) built.2, normal ∙ built.3)) c.answer_built-in-Ok-2.ensures.good

pub returns-in_ok-octets-in-Ok-clause-answers : goal.returns-in_ok-octets-in-Ok-clause-answers
returns-in_ok-octets-in-Ok-clause-answers g c =
    let work = c.args.self.now.work in
    let p = profile_of work.profile in
    let built = c.in-Ok.ensures.built in
    let given = c.deref.ensures.value in
    let normal = c.deref-in-Ok.ensures.value in
    let spells = c.in_ok-octets-in-Ok.ensures built.0 (subst (SpellsApdu p built.0) (sym given) built.2) (given ∙ built.3) in
    built_answer work c.args.kept.now c.deref-in-Ok-2.result.now c.args.results.now.items c.answer_built.new.results.items built.0 c.answer_built.result
    built.1 c.in-Ok.ensures.short (subst (SpellsApdu p built.0) (sym c.deref-in-Ok-2.ensures.value) spells) (λ none. let some = c.if-self.true in absurd cc)
    (c.answer_built.ensures.built built.0 (subst (SpellsApdu p built.0) (sym normal) built.2, normal ∙ built.3)) c.answer_built.ensures.good

pub returns-in-Err-Refused-clause-answers : goal.returns-in-Err-Refused-clause-answers
returns-in-Err-Refused-clause-answers g c =
    let work = c.args.self.now.work in
    let cause = c.in-Err-Refused.refusal.cause in
    let fault = subst (λ failure. OnFailure failure (IsFaultyLine (profile_of work.profile) c.args.kept.now)) c.in-Err-Refused.field-0-is c.in-Err-Refused.ensures.refused in
    answered_by c.answer_refused.result ((own : List ℕ) × (c.answer_refused.new.results.items ≡ c.args.results.now.items ++ own) × IsUnbuiltResult work.form cause own) (IsUnbuiltVerdict work.goes_on)
    (λ verdict. (own : List ℕ) × (c.answer_refused.new.results.items ≡ c.args.results.now.items ++ own) × ((line : List ℕ) → c.args.kept.now ≡ take 16_777_217 line → BuildAnswers work line own verdict))
    c.answer_refused.ensures.refused c.answer_refused.ensures.verdict
    (λ verdict own is. (
      own.0,
      own.1,
      λ line kept. inr (record {
        cause = cause;
        path = fault.0;
        faulty = faulty_line (profile_of work.profile) c.args.kept.now line cause fault.0 kept fault.2;
        is_result = own.2;
        is_verdict = is;
      }),
    ))
