use Rattle.ill_json.proofs.Added.{adds_then}
use Rattle.ill_json.proofs.module_leaf.put_counted.Goals as goal

pub returns : goal.returns
returns c name =
    adds_then _ _ _ _ _ (adds_then _ _ _ _ _ (adds_then _ _ _ _ _ (adds_then _ _ _ _ _ (adds_then _ _ _ _ _ c.put.ensures c.put-2.ensures) c.bits.ensures) c.put-3.ensures) c.hexadecimal_of.ensures) c.put-4.ensures
