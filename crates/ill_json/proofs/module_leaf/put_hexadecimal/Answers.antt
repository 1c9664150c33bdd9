use Rattle.ill_json.proofs.Added.{adds_then}
use Rattle.ill_json.proofs.module_leaf.put_hexadecimal.Goals as goal

pub returns : goal.returns
returns c = adds_then _ _ _ _ _ (adds_then _ _ _ _ _ (adds_then _ _ _ _ _ c.put.ensures c.put-2.ensures) c.hexadecimal.ensures) c.put-3.ensures
