use Rattle.std.proofs.Common.{◌≡◌, ◌∙◌, ◌∷◌, sym, rules, tests}
use Rattle.std.specs.Char.{is_ascii_digit}
use Rattle.std.proofs.lemmas.Iterator.{YieldsList-from_slice}
use Rattle.std.proofs.lemmas.Iterator.Search.{all_from_yields_List}
use Rattle.ill_texts.proofs.NumberTexts.{is_positive-first}
use Rattle.ill_texts.proofs.number.is_positive.Goals as goal

pub returns-then-first-ne48 : goal.returns-then-first-ne48
returns-then-first-ne48 c =
    let whole : c.args.text.now ≡ c.in-Some.first.now ∷ c.in-Some.field-0-1.now = c.in-Some.ensures.cases.0 in
    all_from_yields_List is_ascii_digit _ _ c.all.result c.all.ensures.ran (YieldsList-from_slice c.args.text.now cc) (λ x b q k. search (rules, tests))
    ∙ sym (is_positive-first c.args.text.now c.in-Some.field-0-1.now c.in-Some.first.now whole c.if-first-ne48.true)
