use Rattle.ill_parts.proofs.transaction.TransactionIdPart.read.Goals as goal

pub optional-requires : goal.optional-requires
optional-requires c = c.entries-entries.ensures.rows.0

pub required-requires : goal.required-requires
required-requires c = c.entries-entries.ensures.rows.1.0

pub required-requires-2 : goal.required-requires-2
required-requires-2 c = c.entries-entries.ensures.rows.1.1.0

pub optional-requires-2 : goal.optional-requires-2
optional-requires-2 c = c.entries-entries.ensures.rows.1.1.1.0
