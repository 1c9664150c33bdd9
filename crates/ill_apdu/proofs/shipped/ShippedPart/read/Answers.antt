use Rattle.std.proofs.Common.{◌∙◌, ap, refl, sym, rules}
use Rattle.ill_parts.specs.Shape.{record_of}
use Rattle.ill_apdu.specs.Views.{shipped}
use Rattle.ill_apdu.proofs.Requests.{row_is}
use Rattle.ill_apdu.proofs.shipped.ShippedPart.read.Goals as goal

pub returns : goal.returns
unfolding shipped
returns c =
    let entries = c.entries-entries.ensures in
    let head = c.in-Ok-Ok-Ok-Ok-Ok-Ok-part_of.ensures in
    ap record_of (row_is _ _ _ _ (search (rules, head.version)) (row_is _ _ _ _ head.transaction (row_is _ _ _ _ head.time (row_is _ _ _ _ head.requester (row_is _ _ _ _ head.responder (row_is _ _ _ _ c.in-Ok-Ok-Ok-Ok-Ok-Ok-part_of.ensures' (row_is _ _ _ _ c.in-Ok-Ok-Ok-Ok-Ok-Ok-part_of.ensures'' (row_is _ _ _ _ c.in-Ok-Ok-Ok-Ok-Ok-Ok-part_of.ensures''' (row_is _ _ _ _ c.in-Ok-Ok-Ok-Ok-Ok-Ok-part_of.ensures'''' (row_is _ _ _ _ (search (rules, c.in-Ok-Ok-Ok-Ok-Ok-Ok-part_of.ensures''''')) (row_is _ _ _ _ (sym entries.rows.1.1.1.1.1.1.1.1.1.1.0) (row_is _ _ _ _ (search (rules, c.in-Ok-Ok-Ok-Ok-Ok-part_of.ensures)) (row_is _ _ _ _ c.in-Ok-Ok-Ok-Ok-Ok-part_of.ensures' (row_is _ _ _ _ c.in-Ok-Ok-Ok-Ok-Ok-part_of.ensures'' (row_is _ _ _ _ c.in-Ok-Ok-Ok-Ok-Ok-part_of.ensures''' (row_is _ _ _ _ c.in-Ok-Ok-Ok-Ok-Ok-part_of.ensures'''' (row_is _ _ _ _ (sym entries.rows.1.1.1.1.1.1.1.1.1.1.1.1.1.1.1.1.0) refl))))))))))))))))) ∙ sym entries.value
