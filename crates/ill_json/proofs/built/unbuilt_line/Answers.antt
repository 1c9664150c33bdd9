use Rattle.std.proofs.Common.{◌∙◌}
use Rattle.std.proofs.lemmas.Result.{IfOk-weaker}
use Rattle.ill_json.specs.Built.{unbuilt_json}
use Rattle.ill_json.proofs.Tokens.{text_of_line}
use Rattle.ill_json.proofs.built.unbuilt_line.Goals as goal

pub returns : goal.returns
returns c =
    IfOk-weaker c.into_line.result _ _ (λ line k. k.1 ∙ text_of_line (unbuilt_json _ c.args.place.number c.args.why.cause.now _ _) _ _ c.new-out.ensures.tokens c.put_unbuilt.ensures k.0) c.into_line.ensures
