use Rattle.std.proofs.Common.{◌∙◌, ◌++◌, ap, codes}
use Rattle.ill_text.proofs.Sent.{adds_as, adds_then}
use Rattle.ill_text.proofs.module_leaf.put_dotted.Goals as goal

pub returns-clause-adds : goal.returns-clause-adds
returns-clause-adds g c = adds_as _ _ _ _ (ap (λ d. codes "." ++ d) (c.as_bytes.ensures.value ∙ c.format.ensures.text)) (adds_then _ _ _ _ _ c.put.ensures.adds c.put-2.ensures.adds)
