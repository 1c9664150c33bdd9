use Rattle.std.proofs.Common.{◌≡◌, ◌+◌, ◌-◌, ◌∙◌, ap, sym, subst, ℕ, length, take, drop, arith}
use Rattle.ill_grammar.specs.code.MarkedOctets.{SaysOctets}
use Rattle.ill_grammar.proofs.MarkedValues.{leaf_parts, whole_rest}
use Rattle.ill_json.proofs.value.put_module_value.Goals as goal

pub returns-clause-adds : goal.returns-clause-adds
returns-clause-adds c x name octets node rest says e =
    let n = c.leading_octets-count.result in
    let parts = leaf_parts octets rest c.args.marks.now n e c.leading_octets-count.ensures.exact in
    let at : c.min.result ≡ n + 1 = omega (arith, c.min.ensures, parts.2) in
    (ap (λ (k : ℕ). take (length c.args.marks.now - k) (drop k c.args.marks.now)) at ∙ whole_rest (n + 1) c.args.marks.now ∙ parts.1, c.put_module_octets.ensures x name node (subst (SaysOctets c.args.first x) (sym parts.0) says))
