use Rattle.std.proofs.Common.{◌-◌, arith}
use Rattle.ber_framing.proofs.FrameSteps.{mark_first, another_first}
use Rattle.ber_framing.proofs.framer.Framer.after_between.Goals as goal

pub returns-then-octet-eq0 : goal.returns-then-octet-eq0
returns-then-octet-eq0 c = mark_first c.args.self.marks (c.args.self.marks - 1) _ _ c.args.octet (omega arith) (omega arith) c.if-octet-eq0.true

pub returns-else-octet-eq0 : goal.returns-else-octet-eq0
returns-else-octet-eq0 c x =
    let first = another_first c.args.self.marks (c.args.self.marks - 1) (18_446_744_073_709_551_615 - c.args.self.marks) c.args.octet (omega arith) c.if-octet-eq0.false x in
    let then = c.after_leading_octet.ensures x in
    ((λ h. then.0 (first.0 h)), (λ h. first.1 (then.1 h)))
