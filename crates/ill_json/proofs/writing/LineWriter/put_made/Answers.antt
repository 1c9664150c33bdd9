use Rattle.std.proofs.Common.{◌≡◌, ◌∙◌, ◌∷◌, [], refl, ap, rules}
use Rattle.std.specs.Prelude.{string_bytes}
use Rattle.json.specs.Token.{string}
use Rattle.ill_json.proofs.Added.{adds_as, adds_failed, adds_one}
use Rattle.ill_json.proofs.writing.LineWriter.put_made.Goals as goal

pub returns-then-is_err : goal.returns-then-is_err
returns-then-is_err c text h = adds_failed _ _ _ refl

pub returns-else-is_err-2 : goal.returns-else-is_err-2
returns-else-is_err-2 c text h =
    let made : string_bytes c.args.self.now.characters ≡ text = search rules in
    adds_as _ _ _ _ (ap (λ s. string s ∷ []) (c.deref.ensures ∙ made)) (adds_one _ _ _ refl (search rules))
