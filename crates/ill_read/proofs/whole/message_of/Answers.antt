use Rattle.std.proofs.Common.{◌≡◌, ◌+◌, ◌<◌, Some, None, sym, ap, subst, ◌∙◌, length, arith}
use Rattle.ber_leaf.specs.Profile.{profile_two}
use Rattle.ill_schema.specs.Apdu.{normal_form}
use Rattle.ill_schema.specs.Fits.{Fits}
use Rattle.ill_schema.specs.Names.{apdu_node_of}
use Rattle.ill_schema.specs.Value.{apdu_with, content_of}
use Rattle.ill_schema.proofs.Carried.{node_form-apdu}
use Rattle.ill_read.specs.code.ReaderCode.{body_apdu, IsMessageOf}
use Rattle.ill_read.proofs.Bodies.{encoded_fits, encoded_number}
use Rattle.ill_read.proofs.whole.message_of.Goals as goal

-- The size that was measured is that of the normal form.
pub of-requires-clause-within : goal.of-requires-clause-within
of-requires-clause-within c =
    let a = apdu_with c.saturating_add-apdu.result c.args.body.value in
    let e = ap length (node_form-apdu a c.in_ok-node.node (sym c.apdu_node.ensures ∙ c.in_ok-node.was)) in
    let size = c.in_ok-normal_size.ensures in
    omega (arith, e, size.0, size.1)

-- An encoded APDU has a node.
pub returns-in_err-node : goal.returns-in_err-node
returns-in_err-node c b h =
    let number : c.saturating_add-apdu.result ≡ c.args.body.row + 1 = omega (arith, c.saturating_add-apdu.ensures, encoded_number (body_apdu c.args.body) b h) in
    let there = encoded_fits (body_apdu c.args.body) b h in
    let none : c.apdu_node.result ≡ None = c.in_err-node.was in
    absurd (let q : None ≡ Some there.0 = sym none ∙ c.apdu_node.ensures ∙ ap apdu_node_of number ∙ there.1 in cc)

-- Its body fits it.
pub returns-then-not-fits : goal.returns-then-not-fits
returns-then-not-fits c b h =
    let number : c.saturating_add-apdu.result ≡ c.args.body.row + 1 = omega (arith, c.saturating_add-apdu.ensures, encoded_number (body_apdu c.args.body) b h) in
    let there = encoded_fits (body_apdu c.args.body) b h in
    let q : Some c.in_ok-node.node ≡ Some there.0 = sym c.in_ok-node.was ∙ c.apdu_node.ensures ∙ ap apdu_node_of number ∙ there.1 in
    let same : there.0 ≡ c.in_ok-node.node = cc in
    let fit = c.fits.ensures.1 (subst (Fits profile_two (content_of c.args.body.value)) same there.2) in
    let no = c.if-not-fits.ensures in
    absurd cc

pub returns-in_err-normal_size : goal.returns-in_err-normal_size
returns-in_err-normal_size c b h =
    let v = c.args.body.value in
    let number : c.saturating_add-apdu.result ≡ c.args.body.row + 1 = omega (arith, c.saturating_add-apdu.ensures, encoded_number (body_apdu c.args.body) b h) in
    let e = ap length (node_form-apdu (apdu_with c.saturating_add-apdu.result v) c.in_ok-node.node (sym c.apdu_node.ensures ∙ c.in_ok-node.was)) in
    let f = ap (λ n. length (normal_form (apdu_with n v))) number in
    let size = c.in_err-normal_size.ensures in
    let long : 1_048_576 < length (normal_form (body_apdu c.args.body)) = omega (arith, e, f, size) in
    subst (IsMessageOf (body_apdu c.args.body) c.args.octets) (sym c.from_residual-in_err-normal_size.ensures) long

pub returns : goal.returns
returns c b h =
    let v = c.args.body.value in
    let number : c.saturating_add-apdu.result ≡ c.args.body.row + 1 = omega (arith, c.saturating_add-apdu.ensures, encoded_number (body_apdu c.args.body) b h) in
    let e = ap length (node_form-apdu (apdu_with c.saturating_add-apdu.result v) c.in_ok-node.node (sym c.apdu_node.ensures ∙ c.in_ok-node.was)) in
    let f = ap (λ n. length (normal_form (apdu_with n v))) number in
    let size = c.in_ok-normal_size.ensures in
    (c.of.ensures.apdu ∙ ap (λ n. apdu_with n v) number, c.of.ensures.octets, omega (arith, e, f, size.0, size.1))
