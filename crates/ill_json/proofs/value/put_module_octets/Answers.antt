use Rattle.std.proofs.Common.{ap, sym, subst}
use Rattle.json.specs.Tree.{json_tokens}
use Rattle.ill_grammar.specs.Marks.{octets_in}
use Rattle.ill_grammar.specs.code.MarkedOctets.{SaysOctets}
use Rattle.ill_grammar.proofs.MarkedValues.{says_nothing}
use Rattle.ill_json.specs.Json.{value_json}
use Rattle.ill_json.proofs.Added.{adds_as}
use Rattle.ill_json.proofs.value.put_module_octets.Goals as goal

pub returns-in-ModuleLeaf : goal.returns-in-ModuleLeaf
returns-in-ModuleLeaf c x name node says =
    let k = subst (λ m. SaysOctets m x (octets_in c.args.octets.now)) c.in-ModuleLeaf.is says in
    adds_as _ _ _ _ (ap (λ v. json_tokens (value_json name node v)) (sym k.2)) (c.put_module_leaf.ensures k.0 name k.1)

pub returns-in-BitString : goal.returns-in-BitString
returns-in-BitString c x name node says =
    let k = subst (λ m. SaysOctets m x (octets_in c.args.octets.now)) c.in-BitString.is says in
    adds_as _ _ _ _ (ap (λ v. json_tokens (value_json name node v)) (sym k.2)) (c.put_bits.ensures k.0 name k.1)

pub returns-in-Foreign : goal.returns-in-Foreign
returns-in-Foreign c x name node says =
    let k = subst (λ m. SaysOctets m x (octets_in c.args.octets.now)) c.in-Foreign.is says in
    adds_as _ _ _ _ (ap (λ v. json_tokens (value_json name node v)) (sym k.2)) (c.put_foreign.ensures k.0 name node k.3)

pub returns-in_default : goal.returns-in_default
returns-in_default c x name node says = absurd (says_nothing c.args.first x (octets_in c.args.octets.now) c.in_default.not-ModuleLeaf c.in_default.not-BitString c.in_default.not-Foreign says)
