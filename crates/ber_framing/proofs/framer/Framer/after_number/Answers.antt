use Rattle.std.proofs.Common.{◌↔◌, ◌∷◌, ◌-◌, sym, subst}
use Rattle.ber_framing.specs.Framer.{Finishes, IsNumberThen}
use Rattle.ber_framing.proofs.FrameSteps.{number_last, number_more}
use Rattle.ber_framing.proofs.framer.Framer.after_number.Goals as goal

pub returns-then-octet-lt128 : goal.returns-then-octet-lt128
returns-then-octet-lt128 c x =
    let rest = 18_446_744_073_709_551_615 - c.args.self.marks in
    subst (λ f. IsNumberThen c.args.constructed c.args.self.marks rest (c.args.octet ∷ x) ↔ Finishes f x) (sym c.at.ensures)
    (number_last c.args.self.marks rest c.args.octet x c.args.constructed c.if-octet-lt128.true)

pub returns-else-octet-lt128 : goal.returns-else-octet-lt128
returns-else-octet-lt128 c x =
    let rest = 18_446_744_073_709_551_615 - c.args.self.marks in
    subst (λ f. IsNumberThen c.args.constructed c.args.self.marks rest (c.args.octet ∷ x) ↔ Finishes f x) (sym c.at-else-octet-lt128.ensures)
    (number_more c.args.self.marks rest c.args.octet x c.args.constructed c.if-octet-lt128.false)
