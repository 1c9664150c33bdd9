use Rattle.std.proofs.lemmas.Result.{IfOk-weaker}
use Rattle.ill_cli.proofs.results.line_of.Goals as goal

pub returns : goal.returns
returns c = IfOk-weaker c.refused_json.result _ _ (λ refused k. (c.in_ok-place.place, k)) c.refused_json.ensures
