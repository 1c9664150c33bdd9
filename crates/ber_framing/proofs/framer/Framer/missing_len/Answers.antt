use Rattle.std.proofs.Common.{sym, subst, arith}
use Rattle.ber_framing.proofs.FrameEnds.{Needs, needs_one, need_least, no_part, no_more, is_part, with_none, within_contents}
use Rattle.ber_framing.proofs.framer.Framer.missing_len.Goals as goal

pub returns-in-Unframed-clause-some : goal.returns-in-Unframed-clause-some
returns-in-Unframed-clause-some c b h = λ p. absurd (no_more c.args.self.now b _ h c.in-Unframed.is p)

pub returns-then-self-eq0-clause-some : goal.returns-then-self-eq0-clause-some
returns-then-self-eq0-clause-some c b h = λ p. absurd (no_part c.args.self.now b h c.in-BetweenElements.is c.if-self-eq0.true p)

pub returns-else-self-eq0-clause-at_least : goal.returns-else-self-eq0-clause-at_least
returns-else-self-eq0-clause-at_least c =
    let open_one : Needs c.args.self.now.stage c.args.self.now.marks 1 =
    subst (λ s. Needs s c.args.self.now.marks 1) (sym c.in-BetweenElements.is) (omega arith, λ z. absurd (c.if-self-eq0.false z)) in
    need_least c.args.self.now 1 open_one

pub returns-in-Contents-clause-at_least : goal.returns-in-Contents-clause-at_least
returns-in-Contents-clause-at_least c =
    let missing_len = c.in-Contents.contents.missing_len in
    need_least c.args.self.now missing_len (subst (λ s. Needs s c.args.self.now.marks missing_len) (sym c.in-Contents.is) (omega arith))

pub returns-in_default-clause-at_least : goal.returns-in_default-clause-at_least
returns-in_default-clause-at_least c =
    need_least c.args.self.now 1 (needs_one c.args.self.now.stage c.args.self.now.marks c.in_default.not-BetweenElements c.in_default.not-Contents)

pub returns-else-self-eq0-clause-any : goal.returns-else-self-eq0-clause-any
returns-else-self-eq0-clause-any c b octets h lt =
    with_none b octets lt (is_part c.args.self.now b h (λ _ e. let here = c.in-BetweenElements.is in cc) (λ _. omega arith))

pub returns-in-Contents-clause-any : goal.returns-in-Contents-clause-any
returns-in-Contents-clause-any c b octets h lt = within_contents c.args.self.now c.in-Contents.contents b octets c.in-Contents.is lt h

pub returns-in_default-clause-any : goal.returns-in_default-clause-any
returns-in_default-clause-any c b octets h lt =
    with_none b octets lt (is_part c.args.self.now b h c.in_default.not-Unframed (λ e. absurd (c.in_default.not-BetweenElements e)))
