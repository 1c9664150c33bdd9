use Rattle.std.proofs.Common.{refl, sym, ap, ◌∙◌, length, arith}
use Rattle.ill_schema.specs.Apdu.{normal_form}
use Rattle.ill_schema.specs.Value.{apdu_with}
use Rattle.ill_schema.proofs.Carried.{carried_fits, node_form-apdu}
use Rattle.ill_schema.proofs.message.Message.new.Goals as goal

pub of-requires-clause-within : goal.of-requires-clause-within
of-requires-clause-within c =
    let e = ap length (node_form-apdu (apdu_with c.args.apdu c.args.body) c.in-Some.node (sym c.apdu_node.ensures ∙ c.in-Some.is)) in
    let size = c.in-Some-normal_size.ensures in
    omega (arith, e, size.0, size.1)

pub returns-in-Some-normal_size-clause-octets : goal.returns-in-Some-normal_size-clause-octets
returns-in-Some-normal_size-clause-octets c =
    let e = ap length (node_form-apdu (apdu_with c.args.apdu c.args.body) c.in-Some.node (sym c.apdu_node.ensures ∙ c.in-Some.is)) in
    let size = c.in-Some-normal_size.ensures in
    c.of.ensures.octets ∙ size.0 ∙ e ∙ sym (ap (λ a. length (normal_form a)) c.of.ensures.apdu)

pub returns-in-None-normal_size-clause-unfit : goal.returns-in-None-normal_size-clause-unfit
returns-in-None-normal_size-clause-unfit c =
    let a = apdu_with c.args.apdu c.args.body in
    let is = sym c.apdu_node.ensures ∙ c.in-Some.is in
    let e = ap length (node_form-apdu a c.in-Some.node is) in
    (carried_fits a c.in-Some.node is (c.if-not-fits.ensures.0 refl), omega (arith, e, c.in-None-normal_size.ensures))
