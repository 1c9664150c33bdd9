use Rattle.ill_text.proofs.Sent.{adds_then}
use Rattle.ill_text.proofs.leaf.put_plain.Goals as goal

pub returns-clause-adds : goal.returns-clause-adds
returns-clause-adds g c = adds_then _ _ _ _ _ (adds_then _ _ _ _ _ (adds_then _ _ _ _ _ c.put_path.ensures.adds c.put.ensures.adds) c.put_octets-count.ensures.adds) c.put-2.ensures.adds
