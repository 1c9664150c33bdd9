use Rattle.std.proofs.Common.{◌≡◌, ◌∙◌, ◌++◌, ap, ap₂, List, ℕ, ℤ, codes, rules, FitsSigned, w64}
use Rattle.std.specs.Fmt.{signed_decimal}
use Rattle.std.proofs.lemmas.Int.{to_z-of_z}
use Rattle.ill_text.specs.Shown.{in_brackets, text_name}
use Rattle.ill_text.specs.code.FieldPaths.{path_of}
use Rattle.ill_text.proofs.Lines.{line_join}
use Rattle.ill_text.proofs.Sent.{adds_as, adds_then}
use Rattle.ill_text.proofs.leaf.put_number.Goals as goal

pub returns-clause-adds : goal.returns-clause-adds
returns-clause-adds g c =
    let place = c.args.place.now in
    let p = path_of place.path.now in
    let z = c.args.number in
    let fits : FitsSigned w64 z = search rules in
    let b = in_brackets (text_name place.name.now z) in
    let d : c.as_bytes.result.now ≡ signed_decimal z = c.as_bytes.ensures.value ∙ c.format.ensures.text ∙ ap (λ (x : ℤ). signed_decimal x) (to_z-of_z w64 z fits) in
    adds_as _ _ _ _ (ap₂ (λ (x : List ℕ) (w : ℤ). p ++ codes " = " ++ x ++ in_brackets (text_name place.name.now w) ++ codes "\n") d (to_z-of_z w64 z fits)
    ∙ line_join p (signed_decimal z) b)
    (adds_then _ _ _ _ _ (adds_then _ _ _ _ _ (adds_then _ _ _ _ _ (adds_then _ _ _ _ _ c.put_path.ensures.adds c.put.ensures.adds) c.put-2.ensures.adds) c.put_name.ensures.adds) c.put-3.ensures.adds)
