use Rattle.std.proofs.Common.{rules}
use Rattle.ill_parts.specs.Shape.{entry_at}
use Rattle.ill_apdu.proofs.Requests.{request_is}
use Rattle.ill_apdu.proofs.request.IllRequestPart.read.Goals as goal

pub returns : goal.returns
returns c =
    let entries = c.entries-entries.ensures in
    let head = c.in-Ok-Ok-Ok-Ok-Ok-Ok-Ok-part_of.ensures in
    request_is _ _ (entry_at c.entries-entries.result.now) entries.value entries.rows
    (search (rules, head.version))
    head.transaction
    head.time
    head.requester
    head.responder
    (search (rules, c.in-Ok-Ok-Ok-Ok-Ok-Ok-Ok-part_of.ensures'))
    c.in-Ok-Ok-Ok-Ok-Ok-Ok-Ok-part_of.ensures''
    c.in-Ok-Ok-Ok-Ok-Ok-Ok-Ok-part_of.ensures'''
    c.in-Ok-Ok-Ok-Ok-Ok-Ok-Ok-part_of.ensures''''
    c.in-Ok-Ok-Ok-Ok-Ok-Ok-Ok-part_of.ensures'''''
    c.in-Ok-Ok-Ok-Ok-Ok-Ok-Ok-part_of.ensures''''''
    c.in-Ok-Ok-Ok-Ok-Ok-Ok-Ok-part_of-part_of.ensures
    c.in-Ok-Ok-Ok-Ok-Ok-Ok-Ok-part_of-part_of.ensures'
    (search (rules, c.in-Ok-Ok-Ok-Ok-Ok-Ok-Ok-part_of-part_of.ensures''))
    c.in-Ok-Ok-Ok-Ok-Ok-Ok-Ok-part_of-part_of.ensures'''
    c.in-Ok-Ok-Ok-Ok-Ok-Ok-Ok-part_of-part_of.ensures''''
    c.in-Ok-Ok-Ok-Ok-Ok-Ok-Ok-part_of-part_of.ensures'''''
    c.in-Ok-Ok-Ok-Ok-Ok-Ok-Ok-part_of-part_of.ensures''''''
    c.in-Ok-Ok-Ok-Ok-Ok-part_of.ensures
    (search (rules, c.in-Ok-Ok-Ok-Ok-Ok-part_of.ensures'))
    (search (rules, c.in-Ok-Ok-Ok-Ok-Ok-part_of.ensures''))
    c.in-Ok-Ok-Ok-Ok-Ok-part_of.ensures'''
    c.in-Ok-Ok-Ok-Ok-Ok-part_of.ensures''''
