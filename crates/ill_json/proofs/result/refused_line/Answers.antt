use Rattle.std.proofs.Common.{◌∙◌}
use Rattle.std.proofs.lemmas.Result.{IfOk-weaker}
use Rattle.ill_json.specs.Results.{refused_json}
use Rattle.ill_json.proofs.Tokens.{text_of_line}
use Rattle.ill_json.proofs.result.refused_line.Goals as goal

pub returns : goal.returns
returns c =
    IfOk-weaker c.into_line.result _ _ (λ line k. k.1 ∙ text_of_line (refused_json _ c.args.head _ c.args.place.now) _ _ c.new-out.ensures.tokens c.put_refused.ensures k.0) c.into_line.ensures
