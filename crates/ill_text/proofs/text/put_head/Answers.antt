use Rattle.std.proofs.Common.{ap₂, ◌++◌, ◌∙◌, List, ℕ, codes}
use Rattle.ill_text.proofs.Sent.{adds_as, adds_then}
use Rattle.ill_text.proofs.text.put_head.Goals as goal

pub returns-clause-adds : goal.returns-clause-adds
returns-clause-adds g c =
    adds_as _ _ _ _ (ap₂ (λ (d n : List ℕ). codes "message " ++ d ++ codes " " ++ n ++ codes "\n") (c.as_bytes.ensures.value ∙ c.format.ensures.text) c.as_bytes-2.ensures.value)
    (adds_then _ _ _ _ _ (adds_then _ _ _ _ _ (adds_then _ _ _ _ _ (adds_then _ _ _ _ _ c.put.ensures.adds c.put-2.ensures.adds) c.put-3.ensures.adds) c.put-4.ensures.adds) c.put-5.ensures.adds)
