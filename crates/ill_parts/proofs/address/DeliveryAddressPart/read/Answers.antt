use Rattle.ill_parts.proofs.address.DeliveryAddressPart.read.Goals as goal

pub optional-requires : goal.optional-requires
optional-requires c = c.entries-entries.ensures.rows.0

pub optional-requires-2 : goal.optional-requires-2
optional-requires-2 c = c.entries-entries.ensures.rows.1.0
