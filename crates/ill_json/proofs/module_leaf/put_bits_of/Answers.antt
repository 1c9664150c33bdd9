use Rattle.std.proofs.Common.{◌≡◌, ◌∙◌, true, false, ℕ, List, ap, ap₂}
use Rattle.json.specs.Tree.{json_tokens}
use Rattle.ber_leaf.specs.Simple.{bits}
use Rattle.ill_json.specs.Json.{leaf_json}
use Rattle.ill_json.proofs.Added.{adds_as}
use Rattle.ill_json.proofs.module_leaf.put_bits_of.Goals as goal

pub returns : goal.returns
returns c name h =
    let counted = ap₂ (λ (n : ℕ) (octets : List ℕ). json_tokens (leaf_json name (bits n octets))) c.bit_len.ensures c.octets.ensures in
    adds_as _ _ _ _ (counted ∙ ap (λ v. json_tokens (leaf_json name v)) c.in-Ok.ensures.value) (c.put_counted.ensures name)

pub returns-in_default : goal.returns-in_default
returns-in_default c name h = absurd (let no : false ≡ true = c.in_default.ensures.succeeds.1 h in cc)
