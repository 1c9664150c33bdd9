use Rattle.std.proofs.Common.{◌≡◌, ap, map, Ok, rules}
use Rattle.ill_parts.specs.Shape.{record_of}
use Rattle.ill_parts.proofs.Shapes.{record_fits, built_seen, ready_holds, content_of-record}
use Rattle.ill_parts.proofs.part.sequence.Goals as goal

pub returns-clause-value : goal.returns-clause-value
returns-clause-value g c =
    let e : c.args.entries ≡ map Ok c.push_all.new.entries.items = search rules in
    rw content_of-record (ap record_of (built_seen _ _ (rw e at c.requires.entries)))

pub returns-clause-fits : goal.returns-clause-fits
returns-clause-fits g c =
    let e : c.args.entries ≡ map Ok c.push_all.new.entries.items = search rules in
    rw content_of-record (record_fits _ _ c.requires.kind (ready_holds _ _ (rw e at c.requires.rows)))
