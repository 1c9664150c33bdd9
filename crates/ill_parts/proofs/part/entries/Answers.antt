use Rattle.ill_parts.proofs.Shapes.{record_seen, record_holds, content_of-record}
use Rattle.ill_parts.proofs.part.entries.Goals as goal

pub returns-clause-value : goal.returns-clause-value
returns-clause-value g c =
    let h = rw (c.in-Seq.is, content_of-record c.in-Seq.entries) at c.requires.fits in
    rw (c.in-Seq.is, content_of-record c.in-Seq.entries, c.deref.ensures.value) (record_seen _ _ h)

pub returns-clause-rows : goal.returns-clause-rows
returns-clause-rows g c =
    let h = rw (c.in-Seq.is, content_of-record c.in-Seq.entries) at c.requires.fits in
    rw c.deref.ensures.value (record_holds _ _ h)
