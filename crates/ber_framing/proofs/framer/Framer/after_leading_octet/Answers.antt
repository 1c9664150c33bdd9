use Rattle.std.proofs.Common.{◌↔◌, ◌∷◌, ◌-◌, sym, subst}
use Rattle.ber_framing.specs.Framer.{Finishes, IsElementThen}
use Rattle.ber_framing.proofs.FrameSteps.{low_first, high_first}
use Rattle.ber_framing.proofs.framer.Framer.after_leading_octet.Goals as goal

pub returns-then-octet-eq31 : goal.returns-then-octet-eq31
returns-then-octet-eq31 c x =
    let rest = 18_446_744_073_709_551_615 - c.args.self.marks in
    subst (λ f. IsElementThen c.args.self.marks rest (c.args.octet ∷ x) ↔ Finishes f x) (sym c.at-then-octet-eq31.ensures)
    (high_first c.args.self.marks rest c.args.octet x c.if-octet-eq31.true)

pub returns-else-octet-eq31 : goal.returns-else-octet-eq31
returns-else-octet-eq31 c x =
    let rest = 18_446_744_073_709_551_615 - c.args.self.marks in
    subst (λ f. IsElementThen c.args.self.marks rest (c.args.octet ∷ x) ↔ Finishes f x) (sym c.at-else-octet-eq31.ensures)
    (low_first c.args.self.marks rest c.args.octet x c.if-octet-eq0.false c.if-octet-eq31.false)
