use Rattle.ill_json.proofs.Added.{adds_then}
use Rattle.ill_json.proofs.line.put_start.Goals as goal

pub returns : goal.returns
returns c =
    adds_then _ _ _ _ _ (adds_then _ _ _ _ _ (adds_then _ _ _ _ _ (adds_then _ _ _ _ _ (adds_then _ _ _ _ _ (adds_then _ _ _ _ _ (adds_then _ _ _ _ _
    c.put.ensures c.count.ensures) c.put-2.ensures) c.count-2.ensures) c.put-3.ensures) c.count-3.ensures) c.put-4.ensures) c.put-5.ensures
