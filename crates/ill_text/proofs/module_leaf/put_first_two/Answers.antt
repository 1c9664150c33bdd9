use Rattle.std.proofs.Common.{◌≡◌, ◌∙◌, ◌++◌, ◌-◌, ◌*◌, ◌/◌, min, ap, decimal, ℕ, arith}
use Rattle.ill_schema.specs.Texts.{after_dot}
use Rattle.ill_text.proofs.Sent.{adds_as, adds_then}
use Rattle.ill_text.proofs.module_leaf.put_first_two.Goals as goal

pub returns-clause-adds : goal.returns-clause-adds
returns-clause-adds g c =
    let first : c.min-first.result ≡ min 2 (c.args.number / 40) = omega (arith, c.min-first.ensures) in
    adds_as _ _ _ _ (ap (λ d. d ++ after_dot (c.args.number - 40 * c.min-first.result)) (c.as_bytes.ensures.value ∙ c.format.ensures.text) ∙ ap (λ (n : ℕ). decimal n ++ after_dot (c.args.number - 40 * n)) first)
    (adds_then _ _ _ _ _ c.put.ensures.adds c.put_dotted.ensures.adds)
