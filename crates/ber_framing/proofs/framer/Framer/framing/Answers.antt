use Rattle.std.proofs.Common.{arith}
use Rattle.ber_framing.proofs.FrameEnds.{is_part, is_unframed, is_whole}
use Rattle.ber_framing.proofs.framer.Framer.framing.Goals as goal

pub returns-in-Unframed : goal.returns-in-Unframed
returns-in-Unframed c b h = is_unframed c.args.self.now b _ h c.in-Unframed.is

pub returns-then-self-eq0 : goal.returns-then-self-eq0
returns-then-self-eq0 c b h = is_whole c.args.self.now b h c.in-BetweenElements.is c.if-self-eq0.true

pub returns-else-self-eq0 : goal.returns-else-self-eq0
returns-else-self-eq0 c b h = is_part c.args.self.now b h (λ _ e. let b = c.in-BetweenElements.is in cc) (λ _. omega arith)

pub returns-in_default : goal.returns-in_default
returns-in_default c b h = is_part c.args.self.now b h c.in_default.not-Unframed (λ e. absurd (c.in_default.not-BetweenElements e))
