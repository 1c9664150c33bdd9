use Rattle.ill_read.specs.Paths.{HoldsAt}
use Rattle.ill_read.proofs.MessageEnds.{stands_part, last_size, open_stands}
use Rattle.ill_read.proofs.reader.Reader.outcome.Goals as goal

pub returns-in-Open : goal.returns-in-Open
returns-in-Open g c p s rest h =
    let d = c.args.self.now in
    let last = open_stands p g.D.Draft.holds g.D.Draft.has d s rest h c.in-Open.is in
    (stands_part p (HoldsAt p g.D.Draft.holds d.path) d.at s rest last, (last_size p (HoldsAt p g.D.Draft.holds d.path) d.at s rest last).1)
