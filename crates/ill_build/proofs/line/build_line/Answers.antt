use Rattle.std.proofs.Common.{◌≡◌, ◌∙◌, ◌≤◌, Err, None, refl, sym, ap, subst, inl, inr, length, lit<, arith}
use Rattle.std.specs.Str.{IsUtf8}
use Rattle.json.specs.Json.{document}
use Rattle.json.specs.Value.{value_view}
use Rattle.ill_schema.specs.Apdu.{SpellsApdu, normal_form_in}
use Rattle.ill_schema.specs.Profiles.{profile_of}
use Rattle.ill_schema.proofs.Encodings.{normal_spells}
use Rattle.ill_build.specs.declared.cause.BuildCause.{BuildCause}
use Rattle.ill_build.specs.Line.{IsFaultyLine, IsLineFault, line_limit}
use Rattle.ill_build.proofs.Lines.{stop_failed}
use Rattle.ill_build.proofs.Refusals.{here, weaker_stop}
use Rattle.ill_build.proofs.line.build_line.Goals as goal

pub returns-in-Ok-put_line-clause-built : goal.returns-in-Ok-put_line-clause-built
returns-in-Ok-put_line-clause-built c =
    let p = profile_of c.args.profile in
    let m = c.in-Ok-put_line.ensures.said in
    let read = c.in-Ok.ensures.ok in
    let short : length (normal_form_in p m.0) ≤ p.limit = subst (λ o. length o ≤ p.limit) m.4 m.3 in (
      m.0,
      (read.0, (value_view c.in-Ok.value, read.1, m.1)),
      subst (λ o. SpellsApdu p m.0 o) (sym m.4) (normal_spells p m.0 m.2 (lit< tt) short),
      m.4,
    )

pub returns-in-Ok-clause-refused : goal.returns-in-Ok-clause-refused
returns-in-Ok-clause-refused c =
    let p = profile_of c.args.profile in
    let text = c.args.text.now in
    let j = value_view c.in-Ok.value in
    let read = c.in-Ok.ensures.ok in
    let short : length text ≤ line_limit = omega (arith, c.if-text-gt-LINE_LIMIT.false) in
    stop_failed c.in-Err-put_line.stop c.failure_of-in-Err-put_line.result (IsFaultyLine p text) c.failure_of-in-Err-put_line.ensures
    (weaker_stop c.in-Err-put_line.stop (IsLineFault p j) (IsFaultyLine p text) (λ cause path f. inr (inr (short, read.0, (j, read.1, f)))) c.in-Err-put_line.ensures.refused)

pub returns-in-Err-Invalid-clause-refused : goal.returns-in-Err-Invalid-clause-refused
returns-in-Err-Invalid-clause-refused c =
    let p = profile_of c.args.profile in
    let text = c.args.text.now in
    let short : length text ≤ line_limit = omega (arith, c.if-text-gt-LINE_LIMIT.false) in
    let none : IsUtf8 text → document text ≡ None = c.from_slice.ensures.invalid (c.in-Err-Invalid.is ∙ ap Err c.in-Err-Invalid.field-0-is) in
    stop_failed c.refused-in-Err-Invalid.result c.failure_of-in-Err-Invalid.result (IsFaultyLine p text) c.failure_of-in-Err-Invalid.ensures
    (here c.refused-in-Err-Invalid.result BuildCause.NotJson (IsFaultyLine p text) c.refused-in-Err-Invalid.ensures (inr (inl (short, none, refl, refl))))
