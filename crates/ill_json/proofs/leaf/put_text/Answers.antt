use Rattle.ill_json.proofs.Added.{adds_then}
use Rattle.ill_json.proofs.leaf.put_text.Goals as goal

pub returns : goal.returns
returns c = adds_then _ _ _ _ _ (adds_then _ _ _ _ _ (adds_then _ _ _ _ _ c.put.ensures c.put-2.ensures) c.octets.ensures) c.put-3.ensures
