use Rattle.std.proofs.Common.{[], refl, sym, arith}
use Rattle.ill_read.proofs.UsualLevels.{element_opened}
use Rattle.ill_read.proofs.usual.open_message.Goals as goal

pub returns-clause-reading : goal.returns-clause-reading
returns-clause-reading c p was =
    let h = c.in_ok-header.ensures in
    element_opened p c.args.input c.args.input [] c.args.top c.in_ok-at.at c.in_ok-header.header c.args.out.now c.read_identifier.new.out refl (sym c.requires.bound) (omega arith) h.room h.before h.from h.headed
    (h.order.1.0, h.order.1.1) c.in-Constructed.is c.in_ok-at.ensures was
