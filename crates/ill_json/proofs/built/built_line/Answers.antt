use Rattle.std.proofs.Common.{◌∙◌}
use Rattle.std.proofs.lemmas.Result.{IfOk-weaker}
use Rattle.ill_json.specs.Built.{built_json}
use Rattle.ill_json.proofs.Tokens.{text_of_line}
use Rattle.ill_json.proofs.built.built_line.Goals as goal

pub returns : goal.returns
returns c =
    IfOk-weaker c.into_line.result _ _ (λ line k. k.1 ∙ text_of_line (built_json _ c.args.place.number c.args.apdu.now c.args.octets.now) _ _ c.new-out.ensures.tokens c.put_built.ensures k.0) c.into_line.ensures
