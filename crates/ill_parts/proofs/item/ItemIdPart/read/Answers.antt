use Rattle.std.proofs.Common.{rules}
use Rattle.ill_parts.specs.Shape.{entry_at}
use Rattle.ill_parts.proofs.Items.{item_is}
use Rattle.ill_parts.proofs.item.ItemIdPart.read.Goals as goal

pub optional-requires : goal.optional-requires
optional-requires c = c.entries-entries.ensures.rows.0

pub optional-requires-2 : goal.optional-requires-2
optional-requires-2 c = c.entries-entries.ensures.rows.1.0

pub optional-requires-3 : goal.optional-requires-3
optional-requires-3 c = c.entries-entries.ensures.rows.1.1.0

pub optional-requires-4 : goal.optional-requires-4
optional-requires-4 c = c.entries-entries.ensures.rows.1.1.1.0

pub optional-requires-5 : goal.optional-requires-5
optional-requires-5 c = c.entries-entries.ensures.rows.1.1.1.1.0

pub optional-requires-6 : goal.optional-requires-6
optional-requires-6 c = c.entries-entries.ensures.rows.1.1.1.1.1.0

pub optional-requires-7 : goal.optional-requires-7
optional-requires-7 c = c.entries-entries.ensures.rows.1.1.1.1.1.1.0

pub optional-requires-8 : goal.optional-requires-8
optional-requires-8 c = c.entries-entries.ensures.rows.1.1.1.1.1.1.1.0

pub optional-requires-9 : goal.optional-requires-9
optional-requires-9 c = c.entries-entries.ensures.rows.1.1.1.1.1.1.1.1.0

pub optional-requires-10 : goal.optional-requires-10
optional-requires-10 c = c.entries-entries.ensures.rows.1.1.1.1.1.1.1.1.1.0

pub optional-requires-11 : goal.optional-requires-11
optional-requires-11 c = c.entries-entries.ensures.rows.1.1.1.1.1.1.1.1.1.1.0

pub optional-requires-12 : goal.optional-requires-12
optional-requires-12 c = c.entries-entries.ensures.rows.1.1.1.1.1.1.1.1.1.1.1.0

pub optional-requires-13 : goal.optional-requires-13
optional-requires-13 c = c.entries-entries.ensures.rows.1.1.1.1.1.1.1.1.1.1.1.1.0

pub optional-requires-14 : goal.optional-requires-14
optional-requires-14 c = c.entries-entries.ensures.rows.1.1.1.1.1.1.1.1.1.1.1.1.1.0

pub optional-requires-15 : goal.optional-requires-15
optional-requires-15 c = c.entries-entries.ensures.rows.1.1.1.1.1.1.1.1.1.1.1.1.1.1.0

pub optional-requires-16 : goal.optional-requires-16
optional-requires-16 c = c.entries-entries.ensures.rows.1.1.1.1.1.1.1.1.1.1.1.1.1.1.1.0

pub optional-requires-17 : goal.optional-requires-17
optional-requires-17 c = c.entries-entries.ensures.rows.1.1.1.1.1.1.1.1.1.1.1.1.1.1.1.1.0

pub optional-requires-18 : goal.optional-requires-18
optional-requires-18 c = c.entries-entries.ensures.rows.1.1.1.1.1.1.1.1.1.1.1.1.1.1.1.1.1.1.0

pub optional-requires-19 : goal.optional-requires-19
optional-requires-19 c = c.entries-entries.ensures.rows.1.1.1.1.1.1.1.1.1.1.1.1.1.1.1.1.1.1.1.0

pub optional-requires-20 : goal.optional-requires-20
optional-requires-20 c = c.entries-entries.ensures.rows.1.1.1.1.1.1.1.1.1.1.1.1.1.1.1.1.1.1.1.1.1.0

pub optional-requires-21 : goal.optional-requires-21
optional-requires-21 c = c.entries-entries.ensures.rows.1.1.1.1.1.1.1.1.1.1.1.1.1.1.1.1.1.1.1.1.1.1.0

pub returns : goal.returns
returns c =
    let entries = c.entries-entries.ensures in
    item_is _ _ (entry_at c.entries-entries.result.now) entries.value entries.rows
    (search (rules, c.in-Ok-Ok-Ok-Ok-Ok-Ok-Ok.ensures))
    (search (rules, c.in-Ok-Ok-Ok-Ok-Ok-Ok-Ok.ensures'))
    c.in-Ok-Ok-Ok-Ok-Ok-Ok-Ok.ensures''
    c.in-Ok-Ok-Ok-Ok-Ok-Ok-Ok.ensures'''
    c.in-Ok-Ok-Ok-Ok-Ok-Ok-Ok.ensures''''
    c.in-Ok-Ok-Ok-Ok-Ok-Ok-Ok.ensures'''''
    c.in-Ok-Ok-Ok-Ok-Ok-Ok-Ok.ensures''''''
    c.in-Ok-Ok-Ok-Ok-Ok-Ok-Ok-2.ensures
    c.in-Ok-Ok-Ok-Ok-Ok-Ok-Ok-2.ensures'
    c.in-Ok-Ok-Ok-Ok-Ok-Ok-Ok-2.ensures''
    c.in-Ok-Ok-Ok-Ok-Ok-Ok-Ok-2.ensures'''
    c.in-Ok-Ok-Ok-Ok-Ok-Ok-Ok-2.ensures''''
    c.in-Ok-Ok-Ok-Ok-Ok-Ok-Ok-2.ensures'''''
    c.in-Ok-Ok-Ok-Ok-Ok-Ok-Ok-2.ensures''''''
    c.in-Ok-Ok-Ok-Ok-Ok-Ok-Ok-3.ensures
    c.in-Ok-Ok-Ok-Ok-Ok-Ok-Ok-3.ensures'
    c.in-Ok-Ok-Ok-Ok-Ok-Ok-Ok-3.ensures''
    c.in-Ok-Ok-Ok-Ok-Ok-Ok-Ok-3.ensures'''
    c.in-Ok-Ok-Ok-Ok-Ok-Ok-Ok-3.ensures''''
    c.in-Ok-Ok-Ok-Ok-Ok-Ok-Ok-3.ensures'''''
    c.in-Ok-Ok-Ok-Ok-Ok-Ok-Ok-3.ensures''''''
