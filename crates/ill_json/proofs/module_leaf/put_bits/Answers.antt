use Rattle.std.proofs.Common.{ap, subst, sym}
use Rattle.json.specs.Tree.{json_tokens}
use Rattle.ber_leaf.specs.Content.{IsContent}
use Rattle.ber_leaf.specs.Leaf.{bit_string, value}
use Rattle.ill_json.specs.Json.{leaf_json}
use Rattle.ill_json.proofs.Added.{adds_as}
use Rattle.ill_json.proofs.ModuleLeaves.{bits_content}
use Rattle.ill_json.proofs.module_leaf.put_bits.Goals as goal

pub returns-in-Ok : goal.returns-in-Ok
returns-in-Ok c p name h =
    let same = c.in-Ok.ensures in
    adds_as _ _ _ _ (ap (λ octets. json_tokens (leaf_json name (value bit_string octets))) same) (c.put_bits_of.ensures name (subst (IsContent bit_string) (sym same) (bits_content p _ h)))
