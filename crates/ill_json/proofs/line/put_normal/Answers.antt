use Rattle.ill_json.proofs.Added.{adds_then}
use Rattle.ill_json.proofs.line.put_normal.Goals as goal

pub returns : goal.returns
returns c = adds_then _ _ _ _ _ c.put.ensures c.put-2.ensures
