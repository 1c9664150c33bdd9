use Rattle.ill_text.proofs.Sent.{adds_then}
use Rattle.ill_text.proofs.module_leaf.put_object_identifier.Goals as goal

pub returns-clause-adds : goal.returns-clause-adds
returns-clause-adds g c = adds_then _ _ _ _ _ (adds_then _ _ _ _ _ (adds_then _ _ _ _ _ c.put_path.ensures.adds c.put.ensures.adds) c.put_oid.ensures.adds) c.put-2.ensures.adds
