use Rattle.std.proofs.Common.{◌≡◌, ◌∙◌, of_z, sym, ap, to_z, w64}
use Rattle.std.specs.Fmt.{signed_decimal}
use Rattle.std.proofs.lemmas.Int.{to_z-of_z}
use Rattle.ill_texts.proofs.NumberTexts.{parsed-signed_decimal}
use Rattle.ill_texts.proofs.number.number_of.Goals as goal

-- the decimals of a number are parsed
pub returns-in_default-clause-none : goal.returns-in_default-clause-none
returns-in_default-clause-none c n fits same =
    c.in_default.not-Ok n (parsed-signed_decimal n _ c.parse_i64.result fits (c.as_bytes.ensures.value ∙ same) c.parse_i64.ensures)

-- and as that number
pub returns-else-is_text_of-clause-none : goal.returns-else-is_text_of-clause-none
returns-else-is_text_of-clause-none c n fits same =
    let parsed = parsed-signed_decimal n _ c.parse_i64.result fits (c.as_bytes.ensures.value ∙ same) c.parse_i64.ensures in
    let number_is : c.in-Ok.number ≡ n = cc in
    let passed : to_z w64 (of_z w64 c.in-Ok.number) ≡ n = ap (λ z. to_z w64 (of_z w64 z)) number_is ∙ to_z-of_z w64 n fits in
    c.is_text_of.ensures.no c.if-is_text_of.false (same ∙ ap signed_decimal (sym passed))
