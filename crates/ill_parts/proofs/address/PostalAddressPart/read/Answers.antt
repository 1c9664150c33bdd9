use Rattle.ill_parts.proofs.address.PostalAddressPart.read.Goals as goal

pub optional-requires : goal.optional-requires
optional-requires c = c.entries-entries.ensures.rows.0

pub optional-requires-2 : goal.optional-requires-2
optional-requires-2 c = c.entries-entries.ensures.rows.1.0

pub optional-requires-3 : goal.optional-requires-3
optional-requires-3 c = c.entries-entries.ensures.rows.1.1.0

pub optional-requires-4 : goal.optional-requires-4
optional-requires-4 c = c.entries-entries.ensures.rows.1.1.1.0

pub optional-requires-5 : goal.optional-requires-5
optional-requires-5 c = c.entries-entries.ensures.rows.1.1.1.1.0

pub optional-requires-6 : goal.optional-requires-6
optional-requires-6 c = c.entries-entries.ensures.rows.1.1.1.1.1.0

pub optional-requires-7 : goal.optional-requires-7
optional-requires-7 c = c.entries-entries.ensures.rows.1.1.1.1.1.1.0

pub optional-requires-8 : goal.optional-requires-8
optional-requires-8 c = c.entries-entries.ensures.rows.1.1.1.1.1.1.1.0
