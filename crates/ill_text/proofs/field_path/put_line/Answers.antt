use Rattle.ill_text.proofs.Sent.{adds_then}
use Rattle.ill_text.proofs.field_path.put_line.Goals as goal

pub returns-clause-adds : goal.returns-clause-adds
returns-clause-adds g c = adds_then _ _ _ _ _ (adds_then _ _ _ _ _ (adds_then _ _ _ _ _ c.put_path.ensures.adds c.put.ensures.adds) c.put-2.ensures.adds) c.put-3.ensures.adds
