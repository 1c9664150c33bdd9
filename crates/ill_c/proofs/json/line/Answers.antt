use Rattle.std.proofs.Common.{◌∙◌, None, ap}
use Rattle.std.proofs.lemmas.Result.{IfOk-weaker}
use Rattle.ill_schema.specs.Profiles.{profile_of}
use Rattle.ill_json.specs.Json.{json_line_in}
use Rattle.ill_json.specs.declared.line.LineHead.{LineHead}
use Rattle.ill_c.proofs.json.line.Goals as goal

pub returns : goal.returns
returns c a form count outlined =
    let p = profile_of c.args.profile in
    let same = c.head-head.ensures p a form count in
    IfOk-weaker c.json_line.result _ _ (λ line k. k ∙ ap (λ (head : LineHead). json_line_in p None head a) same) (c.json_line.ensures a outlined)
