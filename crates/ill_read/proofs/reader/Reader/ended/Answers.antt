use Rattle.std.proofs.Common.{◌≡◌, length, Err, sym, ap, ◌∙◌, arith}
use Rattle.ill_read.specs.Paths.{HoldsAt}
use Rattle.ill_read.proofs.MessageEnds.{last_size, ended_some}
use Rattle.ill_read.proofs.reader.Reader.ended.Goals as goal

pub returns-else-size-eq0-clause-open : goal.returns-else-size-eq0-clause-open
returns-else-size-eq0-clause-open g c p fed is =
    let d = c.args.self.now in
    let size = last_size p (HoldsAt p g.D.Draft.holds d.path) d.at fed d.pending.items is.1 in
    let all : length fed ≡ c.saturating_add-size.result = omega (arith, size.0, size.1, c.len.ensures, c.min.ensures, c.saturating_add-size.ensures) in
    ap Err c.refused.ensures ∙ sym (ended_some fed c.saturating_add-size.result all c.if-size-eq0.false)
